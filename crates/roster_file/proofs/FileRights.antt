-- The roster that a file gives: it has exactly the rights that a line gives, and an opening accepts it.
use Prim.Native.Nat.{ℕ, zero, suc, ◌+◌, ◌^◌, ◌<◌}
use mathlib.Core.Path.{◌≡◌, refl, sym, ap, ap₂, ◌∙◌, subst}
use mathlib.Core.Logic.{◌⊎◌, inl, inr}
use mathlib.Core.Bool.{true, false}
use mathlib.Core.List.{List, [], ◌∷◌}
use mathlib.Core.Option.{Option, none, some}
use native.Mathlib.Nat.{zero-div}
use native.Mathlib.Omega.{arith}
use lib.ListN.{get_or, get_or-replicate}
use lib.Pow.{pow_pos}
use Rattle.rules.specs.Lists.{All, In}
use Rattle.rules.specs.Names.{Name, partition, key, held_in}
use Rattle.rules.specs.Words.{zeros}
use Rattle.rules.specs.Claims.{Iff}
use Rattle.rules.proofs.Demand1.{opening-is-sound}
use Rattle.rules.proofs.ListLaws.{clash}
use Rattle.numbers.specs.Numbers.{natural}
use Rattle.numbers.specs.Parts.{parts}
use Rattle.numbers.specs.Lines.{begun_with}
use Rattle.numbers.proofs.Lines.{begun-parts}
use Rattle.roster_line.specs.Rights.{Said, gives, faulty, read_line, with_right}
use Rattle.roster_file.specs.File.{accepted, follow, read_lines, names_line, from_start, read_file}
use Rattle.roster_file.specs.Claims.{LineGives, FileGives, Accepts, AcceptedOpens}
use Rattle.roster_file.proofs.GivenRights.{gives_same, given-range}
use Rattle.roster_file.proofs.RosterRights.{has, added, added-kept, added-has, Good, good-with, good-accepts}

-- one of these lines gives the party the name
abbrev pub GivenIn : List (List ℕ) → ℕ → Name → Type 0
GivenIn ls who n = (line : List ℕ) × (In line ls × (read_line line ≡ gives who n))

-- the roster r has the right, or one of the lines gives it
abbrev pub Comes : List ℕ → List (List ℕ) → ℕ → Name → Type 0
Comes r ls who n = (has r who n ≡ true) ⊎ GivenIn ls who n

-- the roster s, filled: it has what r has and what the lines give, and an opening accepts it
pub record Filled (r : List ℕ) (ls : List (List ℕ)) (s : List ℕ) : Type 0 where
  pub good : Good s
  pub rights : (who : ℕ) (n : Name) → who < 8 → Iff (has s who n ≡ true) (Comes r ls who n)

-- ---- lines that give nothing

pub idle : (line : List ℕ) (k who : ℕ) (n : Name) → read_line line ≡ faulty k → read_line line ≡ gives who n → ⊥
idle line k who n e q =
    let z : faulty k ≡ gives who n = sym e ∙ q in
    let y : ◌≡◌ {A = ℕ} 0 1 = cc in absurd (omega arith)

pub names-idle : read_line names_line ≡ faulty 11
unfolding read_line names_line natural
names-idle = refl

-- what stands after the last line feed
pub end-idle : read_line [] ≡ faulty 11
unfolding read_line
end-idle = refl

-- ---- line by line

no_line : (r s : List ℕ) → Good r → accepted r ≡ accepted s → Filled r [] s
no_line r s g e = let q : r ≡ s = cc in subst (Filled r []) q (record { good = g; rights = λ who n h. (inl, back who n) })
  where
    back : (who : ℕ) (n : Name) → Comes r [] who n → has r who n ≡ true
    back who n (inl a) = a
    back who n (inr x) = absurd x.1.0

-- the same rights come from another roster with other lines
refilled : (r r' : List ℕ) (ls ls' : List (List ℕ)) (s : List ℕ) → ((who : ℕ) (n : Name) → who < 8 → Iff (Comes r ls who n) (Comes r' ls' who n))
    → Filled r ls s → Filled r' ls' s
refilled r r' ls ls' s c f =
    record {
      good = f.good;
      rights = λ who n h. (λ a. (c who n h).0 ((f.rights who n h).0 a), λ x. (f.rights who n h).1 ((c who n h).1 x));
    }

later : (l : List ℕ) (ls : List (List ℕ)) (who : ℕ) (n : Name) → GivenIn ls who n → GivenIn (l ∷ ls) who n
later l ls who n (line, (i, y)) = (line, (inr i, y))

idle-line : (r l : List ℕ) (ls : List (List ℕ)) (s : List ℕ) (k : ℕ) → read_line l ≡ faulty k → Filled r ls s → Filled r (l ∷ ls) s
idle-line r l ls s k e = refilled r r ls (l ∷ ls) s (λ who n h. (more who n, less who n))
  where
    more : (who : ℕ) (n : Name) → Comes r ls who n → Comes r (l ∷ ls) who n
    more who n (inl a) = inl a
    more who n (inr x) = inr (later l ls who n x)

    less : (who : ℕ) (n : Name) → Comes r (l ∷ ls) who n → Comes r ls who n
    less who n (inl a) = inl a
    less who n (inr (line, (inl q, y))) = absurd (idle l k who n e (ap read_line q ∙ y))
    less who n (inr (line, (inr i, y))) = inr (line, (i, y))

right-line : (r l : List ℕ) (ls : List (List ℕ)) (s : List ℕ) (who : ℕ) (n : Name) → who < 8 → read_line l ≡ gives who n
    → Good r → Filled (with_right who n r) ls s → Filled r (l ∷ ls) s
right-line r l ls s who n low e g = refilled (with_right who n r) r ls (l ∷ ls) s (λ q m h. (more q m h, less q m))
  where
    more : (q : ℕ) (m : Name) → q < 8 → Comes (with_right who n r) ls q m → Comes r (l ∷ ls) q m
    more q m h (inl a) = elim (added r who n q m low h a) [ inl b ↦ inl b | inr x ↦ inr (l, (inl refl, e ∙ ap₂ gives x.0 x.1)) ]
    more q m h (inr x) = inr (later l ls q m x)

    less : (q : ℕ) (m : Name) → Comes r (l ∷ ls) q m → Comes (with_right who n r) ls q m
    less q m (inl a) = inl (added-kept r who n q m a)
    less q m (inr (line, (inl w, y))) =
        let z = gives_same who q n m (sym e ∙ ap read_line w ∙ y) in
        inl (rw (sym z.0, sym z.1) (added-has r who n g.sixteen low))
    less q m (inr (line, (inr i, y))) = inr (line, (i, y))

lines-fill : (ls : List (List ℕ)) (r s : List ℕ) → Good r → read_lines r ls ≡ accepted s → Filled r ls s
lines-fill [] r s g e = no_line r s g e
lines-fill ([] ∷ []) r s g e = idle-line r [] [] s 11 end-idle (no_line r s g e)
lines-fill ((b ∷ bs) ∷ []) r s g e = let z : ◌≡◌ {A = ℕ} 0 1 = cc in absurd (omega arith)
lines-fill (l ∷ m ∷ ls) r s g e = go (read_line l) refl e (λ next h. lines-fill (m ∷ ls) next s h)
  where
    go : (x : Said) → read_line l ≡ x → follow x r (λ next. read_lines next (m ∷ ls)) ≡ accepted s
        → ((next : List ℕ) → Good next → read_lines next (m ∷ ls) ≡ accepted s → Filled next (m ∷ ls) s) → Filled r (l ∷ m ∷ ls) s
    go (gives who n) q e more =
        let h = given-range l who n q in
        let low : who < 8 = omega (arith, h.0) in
        right-line r l (m ∷ ls) s who n low q g (more (with_right who n r) (good-with r who n low h.1 g) e)
    go (faulty k) q e more = let z : ◌≡◌ {A = ℕ} 0 1 = cc in absurd (omega arith)

-- ---- the file

zero-at : (i : ℕ) → i < 16 → get_or (zeros 16) i 0 ≡ 0
unfolding zeros
zero-at i h = get_or-replicate {A = ℕ} 16 i 0 0 h

no-right : (who : ℕ) (n : Name) → who < 8 → has (zeros 16) who n ≡ false
unfolding held_in
no-right who (partition c) h = let e = zero-at who (omega arith) in rw (e, zero-div (2 ^ c))
no-right who (key s) h = let e = zero-at (8 + who) (omega arith) in rw (e, zero-div (2 ^ s))

zero-words : (k : ℕ) → All (λ w. w < 2 ^ 64) (zeros k)
unfolding zeros
zero-words zero = tt
zero-words (suc k) = (pow_pos 64, zero-words k)

no_words : Good (zeros 16)
unfolding zeros
no_words = record { sixteen = refl; words = zero-words 16; clear = λ who h. no-right who (key 63) h }

pub file-fill : (file roster : List ℕ) → read_file file ≡ accepted roster → Filled (zeros 16) (parts 10 file) roster
unfolding read_file
file-fill file s e = go (begun_with 16384 names_line file) refl e
  where
    go : (o : Option (List (List ℕ))) → begun_with 16384 names_line file ≡ o → from_start o ≡ accepted s → Filled (zeros 16) (parts 10 file) s
    go none b q = let z : ◌≡◌ {A = ℕ} 0 1 = cc in absurd (omega arith)
    go (some lines) b q =
        subst (λ (ps : List (List ℕ)). Filled (zeros 16) ps s) (sym (begun-parts 16384 names_line file lines b))
        (idle-line (zeros 16) names_line lines s 11 names-idle (lines-fill lines (zeros 16) s no_words q))

-- ---- what is claimed of them

pub file-gives : FileGives
file-gives file roster e who n h = (λ a. there ((f.rights who n h).0 a), λ x. (f.rights who n h).1 (inr x))
  where
    f : Filled (zeros 16) (parts 10 file) roster
    f = file-fill file roster e

    there : (has (zeros 16) who n ≡ true) ⊎ LineGives file who n → LineGives file who n
    there (inl a) = clash (has (zeros 16) who n) a (no-right who n h)
    there (inr x) = x

pub accepted-opens : AcceptedOpens
accepted-opens file roster e = (a, λ ws l. (opening-is-sound ws roster l a.good).0)
  where
    a : Accepts roster
    a = good-accepts roster (file-fill file roster e).good
