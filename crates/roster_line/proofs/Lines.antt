-- What a line says, by what the code's readers of its items answer; and that what is given is in range.
use Prim.Native.Nat.{ℕ, ◌≤◌}
use mathlib.Core.Path.{◌≡◌, refl, sym, ap, ◌∙◌}
use mathlib.Core.Logic.{◌⊎◌, inl, inr}
use mathlib.Core.Bool.{Bool, true, false, ◌&&◌, cond}
use mathlib.Core.List.{List, [], ◌∷◌}
use mathlib.Core.Option.{Option, none, some}
use native.Mathlib.Omega.{arith}
use borrow.Author.Tests.{eqb-true, leb-true, le-leb}
use lib.Dec.{eqb, leb}
use lib.IntN.{ℤ, pos, negsuc}
use lib.ListN.{length}
use Rattle.std.specs.Prelude.{Some, None, Result, Ok, Err, IsErrAnd}
use Rattle.std.specs.Prelude as code
use Rattle.std.specs.Option.{ok_or}
use Rattle.refusal.specs.declared.Refusal.{Refusal}
use Rattle.refusal.specs.declared.Refusal.TheVariants.{UnreadableLine}
use Rattle.refusal.specs.Numbers.{numbered}
use Rattle.rules.specs.Lists.{all}
use Rattle.rules.specs.Names.{NameInRange}
use Rattle.rules.proofs.ListLaws.{bool, clash, and_right}
use Rattle.rules.proofs.KeyLaws.{stored-le}
use Rattle.numbers.specs.declared.NumberError.{NumberError}
use Rattle.numbers.specs.Numbers.{is_digit, value_of, starts_well, natural, whole}
use Rattle.numbers.specs.Parts.{before, beyond, parts}
use Rattle.numbers.specs.Answers.{natural_of, whole_of, fits}
use Rattle.numbers.proofs.Keys.{key_fits}
use Rattle.numbers.proofs.NumbersBack.{free, part-last}
use Rattle.roster_line.specs.declared.Right.{Right}
use Rattle.roster_line.specs.Rights.{Kind, a_partition, a_key, kind_of, in_range, name_of, Said, gives, faulty, judged, said, said_by, read_line}
use Rattle.roster_line.specs.Answers.{judged_in, line_is}

-- ---- a blank in the number: there are more than three items, and the number can't be read

parted : (t : List ℕ) → free 32 t ≡ false → (m : List ℕ) × ((ms : List (List ℕ)) × (beyond 32 t ≡ m ∷ ms))
parted [] e = let z : ◌≡◌ {A = ℕ} 0 1 = cc in absurd (omega arith)
parted (b ∷ bs) e = go (bool (eqb b 32)) (parted bs)
  where
    go : (eqb b 32 ≡ true) ⊎ (eqb b 32 ≡ false) → (free 32 bs ≡ false → (m : List ℕ) × ((ms : List (List ℕ)) × (beyond 32 bs ≡ m ∷ ms)))
        → (m : List ℕ) × ((ms : List (List ℕ)) × (beyond 32 (b ∷ bs) ≡ m ∷ ms))
    go (inl q) more = (before 32 bs, (beyond 32 bs, rw q))
    go (inr q) more = let h = more (rw q at e) in (h.0, (h.1.0, rw q h.1.1))

no_digits : (t : List ℕ) → free 32 t ≡ false → all is_digit t ≡ false
no_digits [] e = e
no_digits (b ∷ bs) e = go (bool (eqb b 32)) (bool (is_digit b)) (no_digits bs)
  where
    go : (eqb b 32 ≡ true) ⊎ (eqb b 32 ≡ false) → (is_digit b ≡ true) ⊎ (is_digit b ≡ false) → (free 32 bs ≡ false → all is_digit bs ≡ false)
        → all is_digit (b ∷ bs) ≡ false
    go (inl q) d more = rw (eqb-true b 32 q) refl
    go (inr q) (inl d) more = rw d (more (rw q at e))
    go (inr q) (inr d) more = rw d

no_natural : (t : List ℕ) → free 32 t ≡ false → natural t ≡ none
unfolding natural
no_natural t e = rw (no_digits t e) (go (starts_well t))
  where
    go : (b : Bool) → ◌≡◌ {A = Option ℕ} (cond (b && false) (some (value_of t)) none) none
    go true = refl
    go false = refl

no_whole : (t : List ℕ) → free 32 t ≡ false → whole t ≡ none
unfolding whole
no_whole [] e = refl
no_whole (b ∷ bs) e = go (bool (eqb b 45))
  where
    go : (eqb b 45 ≡ true) ⊎ (eqb b 45 ≡ false) → whole (b ∷ bs) ≡ none
    go (inl q) = rw (q, no_natural bs (rw (eqb-true b 45 q) at e))
    go (inr q) = rw (q, no_natural (b ∷ bs) e)

no_number : (p : Option ℕ) (k : Option Kind) → said p k none ≡ faulty 11
no_number none k = refl
no_number (some who) none = refl
no_number (some who) (some kind) = refl

-- ---- the items

-- two bytes or more are no kind
pub long-kind : (t : List ℕ) → 2 ≤ length t → kind_of t ≡ none
long-kind [] h = absurd (omega arith)
long-kind (a ∷ []) h = absurd (omega arith)
long-kind (a ∷ b ∷ t) h = go (eqb a 112) (eqb a 107)
  where
    go : (p k : Bool) → cond (p && false) (some a_partition) (cond (k && false) (some a_key) none) ≡ none
    go true true = refl
    go true false = refl
    go false true = refl
    go false false = refl

pub one-item : (line : List ℕ) → parts 32 line ≡ line ∷ [] → read_line line ≡ faulty 11
unfolding read_line
one-item line e = ap said_by e

module _ (line a rest : List ℕ) (first : parts 32 line ≡ a ∷ parts 32 rest) where
  pub two_items : parts 32 rest ≡ rest ∷ [] → read_line line ≡ faulty 11
  unfolding read_line
  two_items e = ap said_by (first ∙ ap (λ (ps : List (List ℕ)). a ∷ ps) e)

  module _ (b number : List ℕ) (second : parts 32 rest ≡ b ∷ parts 32 number) where
    pub three-items : read_line line ≡ said (natural a) (kind_of b) (whole number)
    unfolding read_line
    three-items = ap said_by (first ∙ ap (λ (ps : List (List ℕ)). a ∷ ps) second) ∙ go (bool (free 32 number))
      where
        go : (free 32 number ≡ true) ⊎ (free 32 number ≡ false) → said_by (a ∷ b ∷ parts 32 number) ≡ said (natural a) (kind_of b) (whole number)
        go (inl e) = ap (λ (ps : List (List ℕ)). said_by (a ∷ b ∷ ps)) (part-last 32 number e)
        go (inr e) =
            let h = parted number e in
            rw (no_whole number e) (ap (λ (ps : List (List ℕ)). said_by (a ∷ b ∷ before 32 number ∷ ps)) h.1.1 ∙ sym (no_number (natural a) (kind_of b)))

    pub no_kind : kind_of b ≡ none → read_line line ≡ faulty 11
    no_kind e = three-items ∙ ap (λ (k : Option Kind). said (natural a) k (whole number)) e ∙ unkind (natural a) (whole number)
      where
        unkind : (p : Option ℕ) (n : Option ℤ) → said p none n ≡ faulty 11
        unkind none n = refl
        unkind (some who) n = refl

-- ---- party and number

-- the exit of a `?` at what is missing, or can't be read
pub refused-by : {A B : Type 0} (o : code.Option A) (r : Result B Refusal) (e d : Refusal) → IsErrAnd r (λ y. y ≡ e) → Err e ≡ ok_or o d → r ≡ Err d
refused-by None (Err y) e d h q = let z : e ≡ d = cc in rw (h, z)
refused-by (Some x) r e d h q = let z : ◌≡◌ {A = ℕ} 0 1 = cc in absurd (omega arith)
refused-by o (Ok x) e d h q = absurd h

pub unreadable : {A : Type 0} (o : code.Option A) (r : Result Right Refusal) (e : Refusal) → IsErrAnd r (λ y. y ≡ e) → Err e ≡ ok_or o UnreadableLine
    → numbered r ≡ Err 11
unreadable o r e h q = ap numbered (refused-by o r e UnreadableLine h q)

-- 32 bits hold a number in range, so one that they don't hold is out of range
range-fits : (kind : Kind) (k : ℤ) → in_range kind k ≡ true → fits k ≡ true
range-fits a_partition (pos v) e = let l = leb-true v 63 (and_right (leb 0 v) (leb v 63) e) in le-leb v 2147483647 (omega arith)
range-fits a_partition (negsuc v) e = let z : ◌≡◌ {A = ℕ} 0 1 = cc in absurd (omega arith)
range-fits a_key k e = key_fits k e

large-out : (kind : Kind) (k : ℤ) → fits k ≡ false → in_range kind k ≡ false
large-out kind k h = go (bool (in_range kind k))
  where
    go : (in_range kind k ≡ true) ⊎ (in_range kind k ≡ false) → in_range kind k ≡ false
    go (inl e) = clash (fits k) (range-fits kind k e) h
    go (inr e) = e

judged-of : (p : Option ℕ) (kind : Kind) (n : Option ℤ) → judged_in (natural_of 7 p) kind (whole_of n) ≡ line_is (said p (some kind) n)
unfolding natural_of whole_of
judged-of none kind n = refl
judged-of (some who) kind none = go (bool (leb who 7))
  where
    go : (leb who 7 ≡ true) ⊎ (leb who 7 ≡ false) → judged_in (natural_of 7 (some who)) kind (whole_of none) ≡ Err 11
    go (inl e) = rw e
    go (inr e) = rw e
judged-of (some who) kind (some k) = go (bool (leb who 7)) (bool (fits k))
  where
    go : (leb who 7 ≡ true) ⊎ (leb who 7 ≡ false) → (fits k ≡ true) ⊎ (fits k ≡ false)
        → judged_in (natural_of 7 (some who)) kind (whole_of (some k)) ≡ line_is (judged who kind k)
    go (inl e) (inl h) = rw (e, h) (rw e refl)
    go (inl e) (inr h) = rw (e, h, large-out kind k h)
    go (inr e) (inl h) = rw (e, h)
    go (inr e) (inr h) = rw (e, h)

pub answered : (line a rest b number : List ℕ) → parts 32 line ≡ a ∷ parts 32 rest → parts 32 rest ≡ b ∷ parts 32 number
    → (kind : Kind) → kind_of b ≡ some kind → (p : Result ℕ NumberError) (n : Result ℤ NumberError)
    → p ≡ natural_of 7 (natural a) → n ≡ whole_of (whole number) → judged_in p kind n ≡ line_is (read_line line)
answered line a rest b number first second kind k p n x y =
    rw (x, y)
    (judged-of (natural a) kind (whole number)
    ∙ ap line_is (ap (λ (k : Option Kind). said (natural a) k (whole number)) (sym k) ∙ sym (three-items line a rest first b number second)))

-- ---- what is given is in range

abbrev pub InRange : Said → Type 0
InRange (gives who n) = (who ≤ 7) × NameInRange n
InRange (faulty n) = Unit

name-in-range : (kind : Kind) (k : ℤ) → in_range kind k ≡ true → NameInRange (name_of kind k)
name-in-range a_partition (pos v) e = leb-true v 63 (and_right (leb 0 v) (leb v 63) e)
name-in-range a_partition (negsuc v) e = let z : ◌≡◌ {A = ℕ} 0 1 = cc in absurd (omega arith)
name-in-range a_key k e = stored-le k e

said-in-range : (p : Option ℕ) (kind : Option Kind) (k : Option ℤ) → InRange (said p kind k)
said-in-range none kind k = tt
said-in-range (some who) none k = tt
said-in-range (some who) (some kind) none = tt
said-in-range (some who) (some kind) (some k) = go (bool (leb who 7)) (bool (in_range kind k))
  where
    go : (leb who 7 ≡ true) ⊎ (leb who 7 ≡ false) → (in_range kind k ≡ true) ⊎ (in_range kind k ≡ false) → InRange (said (some who) (some kind) (some k))
    go (inl e) (inl h) = rw (e, h) (leb-true who 7 e, name-in-range kind k h)
    go (inl e) (inr h) = rw (e, h) tt
    go (inr e) h = rw e tt

pub line-in-range : (t : List ℕ) → InRange (read_line t)
unfolding read_line
line-in-range t = go (parts 32 t)
  where
    go : (ps : List (List ℕ)) → InRange (said_by ps)
    go [] = tt
    go (a ∷ []) = tt
    go (a ∷ b ∷ []) = tt
    go (a ∷ b ∷ c ∷ []) = said-in-range (natural a) (kind_of b) (whole c)
    go (a ∷ b ∷ c ∷ d ∷ ps) = tt
