-- Which name is missing: where the table with one test of all names says 7, the call says 13, 14 or 7, and elsewhere it says the same.
use mathlib.Core.Path.{◌≡◌, refl, sym, ap}
use mathlib.Core.Logic.{◌⊎◌, inl, inr}
use mathlib.Core.Bool.{Bool, true, false, not}
use mathlib.Core.Option.{Option, none, some}
use mathlib.Core.List.{List, [], ◌∷◌, ◌++◌}
use Prim.Native.Nat.{ℕ, ◌≤◌}
use native.Mathlib.Omega.{arith}
use lib.Dec.{leb, ltb}
use lib.ListN.{length}
use Rattle.rules.specs.Lists.{all, In}
use Rattle.rules.specs.Partitions.{sets}
use Rattle.rules.specs.Matching.{Pair, stored_pair}
use Rattle.rules.specs.State.{State, holds, live, limit_of}
use Rattle.rules.specs.Calls.{Call, put, seek, Answer, refused, Table, first_that_applies, name_tests, put_table, seek_table, table}
use Rattle.rules.specs.Words.{decode, sound, asked, Exit}
use Rattle.rules.specs.Group.{unrefused}
use Rattle.rules.specs.Claims.{used_names}
use Rattle.rules.specs.Earlier.{missing, with_one_test, ToldApart, MissingNameToldApart}
use Rattle.rules.proofs.ListLaws.{clash}
use Rattle.rules.proofs.NameTests.{numbers, refused-in, NamesSay, names-say}
use Rattle.rules.proofs.StateRuns.{serve-unrefused}
use Rattle.rules.proofs.Tables.{first-append}
use Rattle.rules.proofs.Decided.{call_by, by-table, call-by}

-- R13, R14, R7: the test that applies first, if there is one, is of names
abbrev OfNames : Option ℕ → Type 0
OfNames none = ⊥
OfNames (some n) = In n numbers

-- what a table says, by what the one before said: a test of names for its 7, or the same and no test of names
record Told (ts us : Table) : Type 0 where
  told : (OfNames (first_that_applies ts) × (first_that_applies us ≡ some 7))
      ⊎ ((first_that_applies ts ≡ first_that_applies us) × ¬ (OfNames (first_that_applies ts)))

other : (n : ℕ) → n ≤ 8 → (7 ≡ n → ⊥) → ¬ (OfNames (some n))
other n few q (inl e) = omega arith
other n few q (inr (inl e)) = omega arith
other n few q (inr (inr (inl e))) = q e
other n few q (inr (inr (inr e))) = elim e [ ]

-- a test that both tables have
beside : (b : Bool) (n : ℕ) → ¬ (OfNames (some n)) → (ts us : Table) → Told ts us → Told ((b, n) ∷ ts) ((b, n) ∷ us)
beside true n unnamed ts us t = record { told = inr (refl, unnamed) }
beside false n unnamed ts us t = record { told = t.told }

-- the three tests, and the one, before tests that are not of names
three : (s : State) (who : ℕ) (ps : List (Pair ℕ)) (fs : List ℕ) (ts : Table) → ¬ (OfNames (first_that_applies ts))
    → Told (name_tests sets s who ps fs ++ ts) ((not (all (holds s who) (used_names ps fs)), 7) ∷ ts)
three s who ps fs ts unnamed = go (all (holds s who) (used_names ps fs)) (names-say s who ps fs)
  where
    go : (b : Bool) → NamesSay b (first_that_applies (name_tests sets s who ps fs)) → Told (name_tests sets s who ps fs ++ ts) ((not b, 7) ∷ ts)
    go true say = record { told = rw (first-append (name_tests sets s who ps fs) ts, say) (inr (refl, unnamed)) }
    go false say = record { told = rw (first-append (name_tests sets s who ps fs) ts, say.1.0) (inl (say.1.1, refl)) }

-- R6, R8: the test that comes after them
last : (b : Bool) (n : ℕ) → ¬ (OfNames (some n)) → ¬ (OfNames (first_that_applies ((b, n) ∷ [])))
last true n unnamed = unnamed
last false n unnamed = λ i. i

-- R2 to R5: the tests that come first in the tables of every call
four : (a b c d : Bool) (ts us : Table) → Told ts us
    → Told ((a, 2) ∷ (b, 3) ∷ (c, 4) ∷ (d, 5) ∷ ts) ((a, 2) ∷ (b, 3) ∷ (c, 4) ∷ (d, 5) ∷ us)
four a b c d ts us t =
    beside a 2 (other 2 (omega arith) (λ e. omega arith)) _ _
    (beside b 3 (other 3 (omega arith) (λ e. omega arith)) _ _
    (beside c 4 (other 4 (omega arith) (λ e. omega arith)) _ _ (beside d 5 (other 5 (omega arith) (λ e. omega arith)) ts us t)))

table-told : (s : State) (c : Call ℕ) → Told (table sets s c) (with_one_test s c)
unfolding put_table seek_table
table-told s (put who r t fs) =
    four _ _ _ _ _ _ (three s who (stored_pair r ∷ stored_pair t ∷ []) fs _ (last (leb (limit_of s who) (live who s.entries)) 8 (other 8 (omega arith) (λ e. omega arith))))
table-told s (seek op who p t room) =
    four _ _ _ _ _ _ (three s who (stored_pair p ∷ []) t _ (last (ltb room (length t)) 6 (other 6 (omega arith) (λ e. omega arith))))

-- ---- a call

number_in : (n : ℕ) → In (refused n) missing → In n numbers
number_in n (inl e) = inl cc
number_in n (inr (inl e)) = inr (inl cc)
number_in n (inr (inr (inl e))) = inr (inr (inl cc))
number_in n (inr (inr (inr e))) = elim e [ ]

served-not-in : (a : Answer) → unrefused a ≡ true → ¬ (In a missing)
served-not-in a u (inl e) = clash (unrefused a) u (ap unrefused (sym e))
served-not-in a u (inr (inl e)) = clash (unrefused a) u (ap unrefused (sym e))
served-not-in a u (inr (inr (inl e))) = clash (unrefused a) u (ap unrefused (sym e))
served-not-in a u (inr (inr (inr e))) = elim e [ ]

-- the same exit, whose answer is no test's of names
same-exit : (x : Exit) → ¬ (In x.answer missing) → ToldApart x x
same-exit x n =
    record { missing_name = (λ i. absurd (n i), λ e. absurd (n (inr (inr (inl (sym e)))))); others = λ _. refl; space = refl; result = refl }

call-told : (ws : List ℕ) (c : Call (List ℕ)) (o p : Option ℕ) → (OfNames o × (p ≡ some 7)) ⊎ ((o ≡ p) × ¬ (OfNames o))
    → ToldApart (call_by o ws c) (call_by p ws c)
call-told ws c none p (inl t) = absurd t.0
call-told ws c (some n) p (inl t) =
    let i = refused-in n t.0 in
    rw t.1 (record { missing_name = (λ _. refl, λ _. i); others = λ k. absurd (k i); space = refl; result = refl })
call-told ws c none p (inr t) = rw (sym t.0) (same-exit (call_by none ws c) (served-not-in _ (serve-unrefused (decode ws) (asked c))))
call-told ws c (some n) p (inr t) = rw (sym t.0) (same-exit (call_by (some n) ws c) (λ i. t.1 (number_in n i)))

pub missing-name-told-apart : MissingNameToldApart
missing-name-told-apart ws c =
    rw (call-by ws c, by-table with_one_test ws c)
    (call-told ws c _ _ (beside (not (sound ws)) 1 (other 1 (omega arith) (λ e. omega arith)) _ _ (table-told (decode ws) (asked c))).told)
