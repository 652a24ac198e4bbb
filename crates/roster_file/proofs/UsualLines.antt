-- A usual line is the line of a right as it is printed: byte by byte, and what it gives.
use Prim.Native.Nat.{ℕ, ◌+◌, ◌-◌, ◌*◌, ◌/◌, ◌%◌, ◌≤◌, ◌<◌}
use mathlib.Core.Path.{◌≡◌, refl, sym, ap, ◌∙◌}
use mathlib.Core.List.{List, [], ◌∷◌, ◌++◌}
use native.Mathlib.Omega.{arith}
use lib.ListN.{length, length-append, get_or, take, drop}
use lib.Seq.{take_all}
use Rattle.std.specs.Prelude.{Option, IfSome}
use Rattle.std.specs.Borrow.{Bor}
use Rattle.std.proofs.lemmas.Option.{IfSome_then}
use Rattle.rules.specs.Names.{partition, key}
use Rattle.numbers.specs.Numbers.{decimal}
use Rattle.numbers.proofs.Decimal.{decimal-small, decimal-more}
use Rattle.numbers.proofs.Keys.{key-up, key-down}
use Rattle.numbers.proofs.NumbersBack.{part_then}
use Rattle.roster_line.specs.declared.Right.{Right}
use Rattle.roster_line.specs.Answers.{right_for}
use Rattle.roster_file.specs.Printed.{right_text}
use Rattle.roster_file.specs.Answers.{Stands, NameAt, RightAt, FirstLine}
use Rattle.roster_file.proofs.GivenRights.{line-back}
use Rattle.roster_file.proofs.PrintedLines.{right-free}

-- ---- the first bytes of a text, and the rest

pub first_two : (t : List ℕ) (a b : ℕ) → 2 ≤ length t → get_or t 0 0 ≡ a → get_or t 1 0 ≡ b → t ≡ a ∷ b ∷ take (length t - 2) (drop 2 t)
first_two [] a b h x y = absurd (omega arith)
first_two (p ∷ []) a b h x y = absurd (omega arith)
first_two (p ∷ q ∷ t) a b h x y = rw (take_all (length (p ∷ q ∷ t) - 2) t (omega arith), x, y) refl

pub first_three : (t : List ℕ) (a b c : ℕ) → 3 ≤ length t → get_or t 0 0 ≡ a → get_or t 1 0 ≡ b → get_or t 2 0 ≡ c
    → t ≡ a ∷ b ∷ c ∷ take (length t - 3) (drop 3 t)
first_three [] a b c h x y z = absurd (omega arith)
first_three (p ∷ []) a b c h x y z = absurd (omega arith)
first_three (p ∷ q ∷ []) a b c h x y z = absurd (omega arith)
first_three (p ∷ q ∷ r ∷ t) a b c h x y z = rw (take_all (length (p ∷ q ∷ r ∷ t) - 3) t (omega arith), x, y, z) refl

-- ---- a number of one or two digits

two_digits : (x y : ℕ) → 1 ≤ x → x < 10 → y < 10 → decimal (10 * x + y) ≡ (48 + x) ∷ (48 + y) ∷ []
two_digits x y l h k =
    let q : (10 * x + y) / 10 ≡ x = omega arith in
    let r : (10 * x + y) % 10 ≡ y = omega arith in
    decimal-more (10 * x + y) (omega arith) ∙ rw (q, r, decimal-small x h)

module _ (t : List ℕ) (low : 48 ≤ get_or t 0 0) (high : get_or t 0 0 ≤ 57) where
  pub one_stands : 2 ≤ length t → get_or t 1 0 ≡ 10 → Stands t (decimal (get_or t 0 0 - 48)) (take (length t - 2) (drop 2 t))
  one_stands h e = rw (decimal-small (get_or t 0 0 - 48) (omega arith)) (first_two t _ 10 h (omega arith) e)

  pub two_stand : 49 ≤ get_or t 0 0 → 48 ≤ get_or t 1 0 → get_or t 1 0 ≤ 57 → 3 ≤ length t → get_or t 2 0 ≡ 10
      → Stands t (decimal (10 * (get_or t 0 0 - 48) + (get_or t 1 0 - 48))) (take (length t - 3) (drop 3 t))
  two_stand n l k h e =
      rw (two_digits (get_or t 0 0 - 48) (get_or t 1 0 - 48) (omega arith) (omega arith) (omega arith))
      (first_three t _ _ 10 h (omega arith) (omega arith) e)

-- ---- the name of a number that stands there, by its kind and sign

module _ (t digits : List ℕ) (who v : ℕ) (rest : List ℕ) (s : Stands digits (decimal v) rest) where
  pub partition-name : t ≡ 112 ∷ 32 ∷ digits → v ≤ 63 → (r : Right) → r ≡ right_for who (partition v) → NameAt t who r rest
  partition-name e h r q = record { name = partition v; range = h; right = q; stands = e ∙ ap (λ (l : List ℕ). 112 ∷ 32 ∷ l) s }

  pub key-name : t ≡ 107 ∷ 32 ∷ digits → v ≤ 31 → (r : Right) → r ≡ right_for who (key (31 + v)) → NameAt t who r rest
  key-name e h r q =
      let n : 31 + v - 31 ≡ v = omega arith in
      record {
        name = key (31 + v);
        range = omega arith;
        right = q;
        stands = e ∙ ap (λ (l : List ℕ). 107 ∷ 32 ∷ l) s
            ∙ ap (λ (l : List ℕ). 107 ∷ 32 ∷ (l ++ (10 ∷ rest))) (sym (key-up (31 + v) (omega arith) ∙ ap decimal n));
      }

  pub minus-name : t ≡ 107 ∷ 32 ∷ 45 ∷ digits → v ≤ 31 → (v ≡ 0 → ⊥) → (r : Right) → r ≡ right_for who (key (31 - v)) → NameAt t who r rest
  minus-name e h z r q =
      let n : 31 - (31 - v) ≡ v = omega arith in
      record {
        name = key (31 - v);
        range = omega arith;
        right = q;
        stands = e ∙ ap (λ (l : List ℕ). 107 ∷ 32 ∷ 45 ∷ l) s
            ∙ ap (λ (l : List ℕ). 107 ∷ 32 ∷ (l ++ (10 ∷ rest))) (sym (key-down (31 - v) (omega (arith, z)) ∙ ap (λ (n : ℕ). 45 ∷ decimal n) n));
      }

-- ---- the line: a party, a blank and the name

pub right-at : (lines name : List ℕ) (d : ℕ) (r : Right) (rest : List ℕ) → 48 ≤ d → d ≤ 55 → lines ≡ d ∷ 32 ∷ name → NameAt name (d - 48) r rest
    → RightAt lines r rest
unfolding right_text
right-at lines name d r rest low high e m =
    let q : 48 + (d - 48) ≡ d = omega arith in
    record {
      who = d - 48;
      name = m.name;
      party = omega arith;
      range = m.range;
      right = m.right;
      stands = e ∙ rw (decimal-small (d - 48) (omega arith), q) (ap (λ (l : List ℕ). d ∷ 32 ∷ l) m.stands);
    }

pub line-at : (lines name : List ℕ) (d : ℕ) (r : Option (Right × Bor (List ℕ))) → 48 ≤ d → d ≤ 55 → lines ≡ d ∷ 32 ∷ name
    → IfSome r (λ x. NameAt name (d - 48) x.0 x.1.now) → IfSome r (λ x. RightAt lines x.0 x.1.now)
line-at lines name d r low high e m = IfSome_then r m (λ x k. right-at lines name d x.0 x.1.now low high e k)

-- ---- what it gives

pub right-first : (lines : List ℕ) (r : Right) (rest : List ℕ) → RightAt lines r rest → FirstLine lines r rest
right-first lines r rest a =
    record {
      line = right_text a.who a.name;
      who = a.who;
      name = a.name;
      first = rw (a.stands) (part_then 10 (right_text a.who a.name) rest (right-free a.who a.name));
      says = line-back a.who a.name a.party a.range;
      party = a.party;
      range = a.range;
      right = a.right;
      shorter = omega (arith, simp length-append at (ap length a.stands));
    }
