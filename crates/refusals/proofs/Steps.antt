-- The verdict on a call, step by step as the code comes to it: of each answer that the code gives, these say which it has to be.
use Prim.Native.Nat.{ℕ}
use mathlib.Core.Path.{◌≡◌, refl, sym}
use mathlib.Core.Bool.{Bool, true, false, not, ◌||◌, cond}
use mathlib.Core.List.{List, [], ◌∷◌, ◌++◌}
use lib.Dec.{leb, ltb}
use lib.IntN.{ℤ}
use lib.ListN.{length}
use Rattle.std.specs.Prelude.{Result, Ok, Err}
use Rattle.rules.specs.Lists.{all}
use Rattle.rules.specs.Partitions.{sets}
use Rattle.rules.specs.Fields.{put_field, template_field}
use Rattle.rules.specs.Matching.{Pair, stored_pair}
use Rattle.rules.specs.State.{live}
use Rattle.rules.specs.Calls.{Table, first_that_applies, bad_pair, name_tests, put_table, seek_table}
use Rattle.rules.specs.Words.{decode, sound}
use Rattle.held.specs.Verdicts.{verdict}
use Rattle.refusals.specs.Admissions.{first_tests, begun}
use Rattle.refusals.proofs.Tables.{begin-decides, begin-leaves, first-decides, first-leaves, live-by}

-- a refusal stands; where there is none, what follows decides
abbrev pub after : {A : Type 0} → Result A ℕ → Result (Unit {0}) ℕ → Result (Unit {0}) ℕ
after (Err k) v = Err k
after (Ok x) v = v

-- one test, with the number that it refuses by
abbrev pub unless : Bool → ℕ → Result (Unit {0}) ℕ → Result (Unit {0}) ℕ
unless b k v = cond b (Err k) v

one : (b : Bool) (k : ℕ) (ts : Table) → verdict ((b, k) ∷ ts) ≡ unless b k (verdict ts)
unfolding verdict
one true k ts = refl
one false k ts = refl

last : (b : Bool) (k : ℕ) → verdict ((b, k) ∷ []) ≡ unless b k (Ok tt)
unfolding verdict
last true k = refl
last false k = refl

joined : (xs ys : Table) → verdict (xs ++ ys) ≡ after (verdict xs) (verdict ys)
joined xs ys = go (verdict xs) refl
  where
    go : (v : Result (Unit {0}) ℕ) → v ≡ verdict xs → verdict (xs ++ ys) ≡ after v (verdict ys)
    go (Err k) e = sym (begin-decides xs ys k e)
    go (Ok tt) e = sym (begin-leaves xs ys (verdict ys) e refl)

-- after the first tests, the rest of a table
module _ (ws : List ℕ) (who : ℕ) (fs : List ℕ) where
  abbrev First : Result ℕ ℕ
  First = begun (first_that_applies (first_tests ws who fs)) (live who (decode ws).entries)

  begins : (ys : Table) → verdict (first_tests ws who fs ++ ys) ≡ after First (verdict ys)
  begins ys = go First refl
    where
      go : (b : Result ℕ ℕ) → b ≡ First → verdict (first_tests ws who fs ++ ys) ≡ after b (verdict ys)
      go (Err k) e = sym (first-decides _ ys ws who fs refl _ k e)
      go (Ok n) e = sym (first-leaves _ ys ws who fs refl (verdict ys) (live-by _ _ _ e).0 refl)

  -- two tests, those of names, and the last one
  steps : (p t : Bool) (names : Table) (b : Bool) (k : ℕ)
      → verdict (first_tests ws who fs ++ ((p, 4) ∷ (t, 5) ∷ (names ++ ((b, k) ∷ []))))
      ≡ after First (unless p 4 (unless t 5 (after (verdict names) (unless b k (Ok tt)))))
  steps p t names b k = rw (begins, one, one, joined, last) refl

pub put_steps : (ws : List ℕ) (who : ℕ) (r t : Pair ℤ) (fs : List ℕ)
    → verdict ((not (sound ws), 1) ∷ put_table sets (decode ws) who r t fs)
    ≡ after (begun (first_that_applies (first_tests ws who fs)) (live who (decode ws).entries))
    (unless (bad_pair sets r || bad_pair sets t) 4
    (unless (not (all put_field fs)) 5
    (after (verdict (name_tests sets (decode ws) who (stored_pair r ∷ stored_pair t ∷ []) fs)) (unless (leb 16 (live who (decode ws).entries)) 8 (Ok tt)))))
unfolding put_table first_tests
put_steps ws who r t fs =
    steps ws who fs (bad_pair sets r || bad_pair sets t) (not (all put_field fs))
    (name_tests sets (decode ws) who (stored_pair r ∷ stored_pair t ∷ []) fs) (leb 16 (live who (decode ws).entries)) 8

pub seek_steps : (ws : List ℕ) (who : ℕ) (p : Pair ℤ) (t : List ℕ) (room : ℕ)
    → verdict ((not (sound ws), 1) ∷ seek_table sets (decode ws) who p t room)
    ≡ after (begun (first_that_applies (first_tests ws who t)) (live who (decode ws).entries))
    (unless (bad_pair sets p) 4
    (unless (not (all template_field t)) 5
    (after (verdict (name_tests sets (decode ws) who (stored_pair p ∷ []) t)) (unless (ltb room (length t)) 6 (Ok tt)))))
unfolding seek_table first_tests
seek_steps ws who p t room =
    steps ws who t (bad_pair sets p) (not (all template_field t)) (name_tests sets (decode ws) who (stored_pair p ∷ []) t) (ltb room (length t)) 6
