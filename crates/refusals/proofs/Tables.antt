-- Tables that begin with tests of which it is known what they say; verdicts and admissions, back to where they come from.
use Prim.Native.Nat.{ℕ, ◌≤◌, ◌<◌}
use mathlib.Core.Path.{◌≡◌, refl, sym, ap}
use mathlib.Core.Logic.{◌⊎◌, inl, inr}
use mathlib.Core.Bool.{true, false}
use mathlib.Core.List.{List, ◌++◌}
use mathlib.Core.Option.{Option, none, some}
use native.Mathlib.Omega.{arith}
use borrow.Author.Tests.{ltb-false}
use lib.Dec.{eqb, ltb}
use lib.ListN.{length}
use Rattle.std.specs.Prelude.{Result, Ok, Err, Some, None}
use Rattle.std.proofs.lemmas.Option.{none-some, same_Some}
use Rattle.rules.specs.Lists.{All}
use Rattle.rules.specs.State.{live}
use Rattle.rules.specs.Calls.{Table, first_that_applies}
use Rattle.rules.specs.Words.{decode, sound}
use Rattle.rules.proofs.ListLaws.{bool, passed, not-false, or_right}
use Rattle.rules.proofs.Back.{sound-facts}
use Rattle.rules.proofs.Tables.{first-append}
use Rattle.audit.specs.Audited.{audited}
use Rattle.held.specs.Verdicts.{verdict_of, verdict}
use Rattle.refusals.specs.Admissions.{first_tests, begun}

-- a result tells what it is made of
pub same_Ok : {A : Type 0} (x y : A) → ◌≡◌ {A = Result A ℕ} (Ok x) (Ok y) → x ≡ y
same_Ok x y e = cc

pub same_Err : {A : Type 0} (x y : ℕ) → ◌≡◌ {A = Result A ℕ} (Err x) (Err y) → x ≡ y
same_Err x y e = cc

pub ok-err : {A : Type 0} (x : A) (n : ℕ) → ◌≡◌ {A = Result A ℕ} (Ok x) (Err n) → ⊥
ok-err x n e = let z : ◌≡◌ {A = ℕ} 0 1 = cc in omega arith

-- ---- the tests that come first

refused-by : (o : Option ℕ) (n k : ℕ) → Err k ≡ begun o n → o ≡ some k
unfolding begun
refused-by (some j) n k e = ap some (sym (same_Err k j e))
refused-by none n k e = absurd (ok-err n k (sym e))

pub live-by : (o : Option ℕ) (n k : ℕ) → Ok k ≡ begun o n → (o ≡ none) × (k ≡ n)
unfolding begun
live-by (some j) n k e = absurd (ok-err k j e)
live-by none n k e = (refl, same_Ok k n e)

-- a table that begins with the first tests
module _ (ts ys : Table) (ws : List ℕ) (who : ℕ) (fs : List ℕ) (begins : ts ≡ first_tests ws who fs ++ ys) where
  pub first-decides : (n k : ℕ) → Err k ≡ begun (first_that_applies (first_tests ws who fs)) n → Err k ≡ verdict ts
  unfolding verdict
  first-decides n k e = rw (begins, first-append (first_tests ws who fs) ys, refused-by (first_that_applies (first_tests ws who fs)) n k e) refl

  pub first-leaves : (v : Result (Unit {0}) ℕ) → first_that_applies (first_tests ws who fs) ≡ none → v ≡ verdict ys → v ≡ verdict ts
  unfolding verdict
  first-leaves v e h = rw (begins, first-append (first_tests ws who fs) ys, e) h

pub first-passed : (ws : List ℕ) (who : ℕ) (fs : List ℕ) → first_that_applies (first_tests ws who fs) ≡ none → (length ws ≡ 1809) × (who < 8) × (length fs ≤ 8)
unfolding first_tests
first-passed ws who fs e =
    let p : All (λ t. t.0 ≡ false) (first_tests ws who fs) = passed (first_tests ws who fs) e in
    let l : who ≤ 7 = ltb-false 7 who p.1.0 in
    ((sound-facts ws (not-false (sound ws) p.0)).len, omega arith, ltb-false 8 (length fs) (or_right (eqb (length fs) 0) (ltb 8 (length fs)) p.1.1.0))

-- a verdict, back to its table
pub verdict-refused : (ts : Table) (n : ℕ) → Err n ≡ verdict ts → first_that_applies ts ≡ some n
unfolding verdict
verdict-refused ts n e = go (first_that_applies ts) e
  where
    go : (o : Option ℕ) → Err n ≡ verdict_of o → o ≡ some n
    go (some k) e = ap some (sym (same_Err n k e))
    go none e = absurd (ok-err tt n (sym e))

pub verdict-passed : (ts : Table) → Ok tt ≡ verdict ts → first_that_applies ts ≡ none
unfolding verdict
verdict-passed ts e = go (first_that_applies ts) e
  where
    go : (o : Option ℕ) → Ok tt ≡ verdict_of o → o ≡ none
    go (some k) e = absurd (ok-err tt k e)
    go none e = refl

-- a table that begins with the tests xs, of which it is known what they say
module _ (xs ys : Table) where
  pub begin-decides : (n : ℕ) → Err n ≡ verdict xs → Err n ≡ verdict (xs ++ ys)
  unfolding verdict
  begin-decides n e = rw (first-append xs ys, verdict-refused xs n e) refl

  pub begin-leaves : (v : Result (Unit {0}) ℕ) → Ok tt ≡ verdict xs → v ≡ verdict ys → v ≡ verdict (xs ++ ys)
  unfolding verdict
  begin-leaves v e h = rw (first-append xs ys, verdict-passed xs e) h

-- what the audit's answer says of the words
module _ (ws : List ℕ) (who : ℕ) where
  pub unsound : None ≡ audited ws who → sound ws ≡ false
  unfolding audited
  unsound e = go (bool (sound ws))
    where
      go : (sound ws ≡ true) ⊎ (sound ws ≡ false) → sound ws ≡ false
      go (inl h) = absurd (none-some (live who (decode ws).entries) (rw h at e))
      go (inr h) = h

  pub audited-sound : (k : ℕ) → Some k ≡ audited ws who → (sound ws ≡ true) × (k ≡ live who (decode ws).entries)
  unfolding audited
  audited-sound k e = go (bool (sound ws))
    where
      go : (sound ws ≡ true) ⊎ (sound ws ≡ false) → (sound ws ≡ true) × (k ≡ live who (decode ws).entries)
      go (inl h) = (h, same_Some k (live who (decode ws).entries) (rw h at e))
      go (inr h) = absurd (none-some k (sym (rw h at e)))
