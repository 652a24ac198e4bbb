-- The decimal digits of a number read back as that number, and the parts of a text between separators as these parts.
use Prim.Native.Nat.{ℕ, zero, suc, ◌+◌, ◌-◌, ◌*◌, ◌/◌, ◌%◌, ◌≤◌, ◌<◌}
use mathlib.Core.Path.{◌≡◌, refl, sym, ap, ◌∙◌}
use mathlib.Core.Logic.{◌⊎◌, inl, inr}
use mathlib.Core.Bool.{Bool, true, false, not}
use mathlib.Core.List.{List, [], ◌∷◌, ◌++◌}
use mathlib.Core.Option.{some}
use native.Mathlib.Numerals.{add-one}
use native.Mathlib.Omega.{arith}
use borrow.Author.Tests.{not-true, le-leb, eq-eqb, ne_eqb, ltb-true, ltb-false}
use lib.Dec.{eqb, ltb}
use lib.IntN.{ℤ, pos, negsuc}
use lib.ListN.{length, get_or, take, drop, length-drop, take-append-drop}
use lib.Seq.{drop-cons, take-length, take_all}
use Rattle.std.specs.List.{AllWithin}
use Rattle.rules.specs.Lists.{all}
use Rattle.rules.proofs.ListLaws.{bool, clash, and_left, and_right}
use Rattle.rules.proofs.Loops.{all_append}
use Rattle.numbers.specs.Numbers.{is_digit, value_from, value_of, starts_well, natural, positive, negative, whole, decimal, decimal_key}
use Rattle.numbers.specs.Parts.{before, beyond, parts}
use Rattle.numbers.proofs.Digits.{digit_low}
use Rattle.numbers.proofs.Decimal.{decimal-small, decimal-more, by-tenths}

value-snoc : (a : ℕ) (l : List ℕ) (d : ℕ) → value_from a (l ++ (d ∷ [])) ≡ 10 * value_from a l + (d - 48)
value-snoc a [] d = refl
value-snoc a (b ∷ bs) d = value-snoc (10 * a + (b - 48)) bs d

value-back : (v : ℕ) → value_of (decimal v) ≡ v
value-back = by-tenths (λ v. value_of (decimal v) ≡ v) small more
  where
    small : (v : ℕ) → v < 10 → value_of (decimal v) ≡ v
    small v h = rw (decimal-small v h) (omega arith)

    more : (v : ℕ) → 10 ≤ v → value_of (decimal (v / 10)) ≡ v / 10 → value_of (decimal v) ≡ v
    more v h e = rw (decimal-more v h) (value-snoc 0 (decimal (v / 10)) (48 + v % 10) ∙ rw e (omega arith))

digit : (x : ℕ) → x < 10 → is_digit (48 + x) ≡ true
digit x h = rw (le-leb 48 (48 + x) (omega arith), le-leb (48 + x) 57 (omega arith))

pub all_digits : (v : ℕ) → all is_digit (decimal v) ≡ true
all_digits = by-tenths (λ v. all is_digit (decimal v) ≡ true) small more
  where
    small : (v : ℕ) → v < 10 → all is_digit (decimal v) ≡ true
    small v h = rw (decimal-small v h) (rw (digit v h))

    more : (v : ℕ) → 10 ≤ v → all is_digit (decimal (v / 10)) ≡ true → all is_digit (decimal v) ≡ true
    more v h e = rw (decimal-more v h) (all_append is_digit (decimal (v / 10)) ((48 + v % 10) ∷ []) ∙ rw e (rw (digit (v % 10) (omega arith))))

-- ---- no leading zero

abbrev leads : List ℕ → Bool
leads [] = false
leads (b ∷ bs) = not (eqb b 48)

leads-on : (l r : List ℕ) → leads l ≡ true → leads (l ++ r) ≡ true
leads-on [] r e = let z : ◌≡◌ {A = ℕ} 0 1 = cc in absurd (omega arith)
leads-on (b ∷ bs) r e = e

leads-well : (l : List ℕ) → leads l ≡ true → starts_well l ≡ true
leads-well [] e = e
leads-well (b ∷ []) e = refl
leads-well (b ∷ c ∷ bs) e = e

no_zero : (v : ℕ) → 1 ≤ v → leads (decimal v) ≡ true
no_zero = by-tenths (λ v. 1 ≤ v → leads (decimal v) ≡ true) small more
  where
    small : (v : ℕ) → v < 10 → 1 ≤ v → leads (decimal v) ≡ true
    small v h l =
        let n : 48 + v ≡ 48 → ⊥ = λ e. omega arith in
        rw (decimal-small v h) (rw (ne_eqb (48 + v) 48 n))

    more : (v : ℕ) → 10 ≤ v → (1 ≤ v / 10 → leads (decimal (v / 10)) ≡ true) → 1 ≤ v → leads (decimal v) ≡ true
    more v h r l = rw (decimal-more v h) (leads-on (decimal (v / 10)) ((48 + v % 10) ∷ []) (r (omega arith)))

pub well-started : (v : ℕ) → starts_well (decimal v) ≡ true
well-started v = go (bool (ltb v 10))
  where
    go : (ltb v 10 ≡ true) ⊎ (ltb v 10 ≡ false) → starts_well (decimal v) ≡ true
    go (inl e) = rw (decimal-small v (ltb-true v 10 e))
    go (inr e) = let l = ltb-false v 10 e in leads-well (decimal v) (no_zero v (omega arith))

-- ---- the numbers

pub natural-back : (v : ℕ) → natural (decimal v) ≡ some v
unfolding natural
natural-back v = rw (well-started v, all_digits v, value-back v)

-- a text that begins with a digit has no minus
digits-whole : (t : List ℕ) → starts_well t ≡ true → all is_digit t ≡ true → whole t ≡ positive (natural t)
unfolding whole
digits-whole [] s e = let z : ◌≡◌ {A = ℕ} 0 1 = cc in absurd (omega arith)
digits-whole (b ∷ bs) s e =
    let l = digit_low b (and_left (is_digit b) (all is_digit bs) e) in
    let n : b ≡ 45 → ⊥ = λ q. omega arith in
    rw (ne_eqb b 45 n)

pub whole_back : (k : ℤ) → whole (decimal_key k) ≡ some k
unfolding whole
whole_back (pos v) = digits-whole (decimal v) (well-started v) (all_digits v) ∙ ap positive (natural-back v)
whole_back (negsuc v) = ap negative (natural-back (suc v))

-- ---- what stands in no number

-- a byte that is neither a digit nor a minus
pub record Outside (b : ℕ) : Type 0 where
  pub digit : is_digit b ≡ false
  pub minus : eqb 45 b ≡ false

-- no byte is the separator
abbrev pub free : ℕ → List ℕ → Bool
free sep bs = all (λ b. not (eqb b sep)) bs

digits-free : (sep : ℕ) → is_digit sep ≡ false → (l : List ℕ) → all is_digit l ≡ true → free sep l ≡ true
digits-free sep h [] e = refl
digits-free sep h (b ∷ bs) e =
    let d = and_left (is_digit b) (all is_digit bs) e in
    let n : b ≡ sep → ⊥ = λ q. clash (is_digit b) d (ap is_digit q ∙ h) in
    rw (ne_eqb b sep n) (digits-free sep h bs (and_right (is_digit b) (all is_digit bs) e))

pub decimal-free : (sep : ℕ) → is_digit sep ≡ false → (v : ℕ) → free sep (decimal v) ≡ true
decimal-free sep h v = digits-free sep h (decimal v) (all_digits v)

pub key-free : (sep : ℕ) → Outside sep → (k : ℤ) → free sep (decimal_key k) ≡ true
key-free sep h (pos v) = decimal-free sep h.digit v
key-free sep h (negsuc v) = rw h.minus (decimal-free sep h.digit (suc v))

-- ---- parts that a separator ends

-- a part that no separator stands in is a part of its own
pub part_then : (sep : ℕ) (p s : List ℕ) → free sep p ≡ true → parts sep (p ++ (sep ∷ s)) ≡ p ∷ parts sep s
part_then sep [] s e = rw (eq-eqb sep sep refl)
part_then sep (b ∷ bs) s e =
    let n : eqb b sep ≡ false = not-true (eqb b sep) (and_left (not (eqb b sep)) (free sep bs) e) in
    let r : parts sep (bs ++ (sep ∷ s)) ≡ bs ∷ parts sep s = part_then sep bs s (and_right (not (eqb b sep)) (free sep bs) e) in
    rw n (longer b bs (before sep (bs ++ (sep ∷ s))) (beyond sep (bs ++ (sep ∷ s))) (parts sep s) r)
  where
    longer : (x : ℕ) (q q' : List ℕ) (ps ps' : List (List ℕ)) → q' ∷ ps ≡ q ∷ ps' → (x ∷ q') ∷ ps ≡ (x ∷ q) ∷ ps'
    longer x q q' ps ps' h = let a : q' ≡ q = cc in let b : ps ≡ ps' = cc in rw (a, b)

pub part-last : (sep : ℕ) (p : List ℕ) → free sep p ≡ true → parts sep p ≡ p ∷ []
part-last sep [] e = refl
part-last sep (b ∷ bs) e =
    let n : eqb b sep ≡ false = not-true (eqb b sep) (and_left (not (eqb b sep)) (free sep bs) e) in
    let r : parts sep bs ≡ bs ∷ [] = part-last sep bs (and_right (not (eqb b sep)) (free sep bs) e) in
    rw n (longer (before sep bs) (beyond sep bs) r)
  where
    longer : (q : List ℕ) (ps : List (List ℕ)) → q ∷ ps ≡ bs ∷ [] → (b ∷ q) ∷ ps ≡ (b ∷ bs) ∷ []
    longer q ps h = let a : q ≡ bs = cc in let c : ps ≡ [] = cc in rw (a, c)

-- ---- the first separator

free-front : (sep : ℕ) (t : List ℕ) (i : ℕ) → ((k : ℕ) → k < i → get_or t k 0 ≡ sep → ⊥) → i ≤ length t → free sep (take i t) ≡ true
free-front sep t zero h l = refl
free-front sep [] (suc i) h l = absurd (omega arith)
free-front sep (b ∷ bs) (suc i) h l =
    let n : b ≡ sep → ⊥ = h 0 (omega arith) in
    rw (ne_eqb b sep n) (free-front sep bs i (λ k m. h (suc k) (omega arith)) (omega arith))

module _ (sep : ℕ) (t : List ℕ) where
  pub no-separator : AllWithin (λ b. b ≡ sep → ⊥) t 0 (length t) → parts sep t ≡ t ∷ []
  no-separator h =
      let f : free sep (take (length t) t) ≡ true = free-front sep t (length t) (λ k l. h k 0 (omega arith) l) (omega arith) in
      part-last sep t (rw (take-length t) at f)

  -- the text behind a place, as a slice of it reads
  behind : (i : ℕ) → drop (suc i) t ≡ take (length t - (i + 1)) (drop (i + 1) t)
  behind i = rw add-one (sym (take_all (length t - suc i) (drop (suc i) t) (let l = length-drop (suc i) t in omega arith)))

  pub first-separator : (i : ℕ) → i < length t → get_or t i 0 ≡ sep → AllWithin (λ b. b ≡ sep → ⊥) t 0 i
      → parts sep t ≡ take i t ∷ parts sep (take (length t - (i + 1)) (drop (i + 1) t))
  first-separator i l e h =
      let whole : take i t ++ (sep ∷ drop (suc i) t) ≡ t =
      ap (λ (b : ℕ). take i t ++ (b ∷ drop (suc i) t)) (sym e) ∙ ap (λ (s : List ℕ). take i t ++ s) (sym (drop-cons t i 0 l)) ∙ take-append-drop i t in
      ap (parts sep) (sym whole) ∙ part_then sep (take i t) (drop (suc i) t) (free-front sep t i (λ k m. h k 0 (omega arith) m) (omega arith))
      ∙ ap (λ (s : List ℕ). take i t ∷ parts sep s) (behind i)
