-- `of_put` meets its contract: past each test that fails, the rest of the table decides.
use Rattle.std.proofs.lemmas.Result.{err_from_is_err_and}
use Rattle.std.specs.Prelude.{Result, Ok, Err}
use Rattle.words.specs.Pairs.{meant}
use Rattle.std.proofs.Common.{◌≡◌, ℕ, ◌≤◌, ◌<◌, refl, sym, ap, ap₂, ◌∙◌, Bool, true, false, not, ◌||◌, List, [], ◌∷◌, ◌++◌, ℤ, drop, le-leb, arith}
use Rattle.std.proofs.lemmas.Bool.{lt-leb}
use Rattle.rules.specs.Lists.{all}
use Rattle.rules.specs.Partitions.{sets}
use Rattle.rules.specs.Fields.{put_field}
use Rattle.rules.specs.Matching.{Pair, stored_pair}
use Rattle.rules.specs.State.{live}
use Rattle.rules.specs.Calls.{Table, first_that_applies, bad_pair, name_tests, put_table}
use Rattle.rules.specs.Words.{decode, sound}
use Rattle.rules.proofs.ListLaws.{or_left, or_right}
use Rattle.rules.proofs.KeyLaws.{pair-in-range}
use Rattle.held.specs.Verdicts.{verdict}
use Rattle.held.proofs.Tables.{decides, leaves, passes}
use Rattle.refusals.specs.Admissions.{first_tests, begun}
use Rattle.refusals.proofs.Tables.{begin-leaves, first-decides, first-leaves, live-by, first-passed}
use Rattle.refusals.proofs.of_put.Goals as goal

-- a put, with its pairs r and t
module _ (ws : List ℕ) (who : ℕ) (r t : Pair ℤ) (fs : List ℕ) where
  -- the tests of its names, and its table
  abbrev names : Table
  names = name_tests sets (decode ws) who (stored_pair r ∷ stored_pair t ∷ []) fs

  whole : Table
  whole = (not (sound ws), 1) ∷ put_table sets (decode ws) who r t fs

  begins : whole ≡ first_tests ws who fs ++ drop 3 whole
  unfolding whole put_table first_tests
  begins = refl

  refused-first : (n : ℕ) → Err n ≡ begun (first_that_applies (first_tests ws who fs)) (live who (decode ws).entries) → Err n ≡ verdict whole
  refused-first n b = first-decides _ _ _ _ _ begins _ _ b

  -- past k tests, the rest of the table decides
  abbrev Past : ℕ → Type 0
  Past k = (v : Result (Unit {0}) ℕ) → v ≡ verdict (drop k whole) → v ≡ verdict whole

  module _ (n : ℕ) (b : Ok n ≡ begun (first_that_applies (first_tests ws who fs)) (live who (decode ws).entries)) where
    past-3 : Past 3
    past-3 v e = first-leaves _ _ _ _ _ begins v (live-by _ _ _ b).0 e

    refused-4 : (bad_pair sets r || bad_pair sets t) ≡ true → Err 4 ≡ verdict whole
    unfolding whole put_table
    refused-4 p = past-3 _ (decides _ 4 _ p)

    module _ (p : (bad_pair sets r || bad_pair sets t) ≡ false) where
      past-4 : Past 4
      unfolding whole put_table
      past-4 v e = past-3 v (leaves _ 4 _ v p e)

      refused-5 : false ≡ all put_field fs → Err 5 ≡ verdict whole
      unfolding whole put_table
      refused-5 f = past-4 _ (decides _ 5 _ (ap not (sym f)))

      module _ (f : true ≡ all put_field fs) where
        past-5 : Past 5
        unfolding whole put_table
        past-5 v e = past-4 v (leaves _ 5 _ v (ap not (sym f)) e)

        module _ (e : Ok tt ≡ verdict names) where
          past-8 : Past 8
          unfolding whole put_table
          past-8 v h = past-5 v (begin-leaves names (drop 8 whole) v e h)

          refused-8 : 16 ≤ n → Err 8 ≡ verdict whole
          unfolding whole put_table
          refused-8 h = past-8 _ (decides _ 8 _ (le-leb _ _ (rw (live-by _ _ _ b).1 at h)))

          passed : n < 16 → Ok tt ≡ verdict whole
          unfolding whole put_table
          passed h = past-8 _ (leaves _ 8 _ _ (lt-leb _ _ (rw (live-by _ _ _ b).1 at h)) passes)

-- the answers of the test of a pair, of both pairs
bad-pairs : (r t : Pair ℤ) {x y b : Bool} → x ≡ bad_pair sets r → y ≡ bad_pair sets t → (x || y) ≡ b → (bad_pair sets r || bad_pair sets t) ≡ b
bad-pairs r t e f h = sym (ap₂ (λ (x y : Bool). x || y) e f) ∙ h

pub returns-in_err-live : goal.returns-in_err-live
unfolding whole
returns-in_err-live c =
    let p = err_from_is_err_and c.from_residual.result c.from_residual.ensures.1 in
    rw (p.1, p.2) (refused-first _ _ _ _ _ _ c.in_err-live.ensures)

pub returns-then-bad_pair : goal.returns-then-bad_pair
unfolding whole
returns-then-bad_pair c = refused-4 _ _ _ _ _ _ c.in_ok-live.ensures (bad-pairs (meant c.args.read) (meant c.args.take) c.bad_pair.ensures c.bad_pair-2.ensures c.if-bad_pair.true)

pub returns-then-not-put_fields : goal.returns-then-not-put_fields
unfolding whole
returns-then-not-put_fields c =
    refused-5 _ _ _ _ _ _ c.in_ok-live.ensures (bad-pairs (meant c.args.read) (meant c.args.take) c.bad_pair.ensures c.bad_pair-2.ensures c.if-bad_pair.false) c.if-not-put_fields.ensures

pub put_names-requires : goal.put_names-requires
put_names-requires c =
    let r = meant c.args.read in
    let t = meant c.args.take in
    let good = bad-pairs (meant c.args.read) (meant c.args.take) c.bad_pair.ensures c.bad_pair-2.ensures c.if-bad_pair.false in
    let f = first-passed _ _ _ (live-by _ _ _ c.in_ok-live.ensures).0 in (
      f.0,
      f.1,
      pair-in-range r (or_left (bad_pair sets r) (bad_pair sets t) good),
      pair-in-range t (or_right (bad_pair sets r) (bad_pair sets t) good),
      f.2,
    )

pub returns-then-live-ge16 : goal.returns-then-live-ge16
unfolding whole
returns-then-live-ge16 c =
    let held : Ok tt ≡ verdict (names c.args.space.now c.args.party (meant c.args.read) (meant c.args.take) c.args.fields.now) = grind arith in
    refused-8 _ _ _ _ _ _ c.in_ok-live.ensures (bad-pairs (meant c.args.read) (meant c.args.take) c.bad_pair.ensures c.bad_pair-2.ensures c.if-bad_pair.false) c.if-not-put_fields.ensures
    held c.if-live-ge16.true

pub returns : goal.returns
unfolding whole
returns c =
    let held : Ok tt ≡ verdict (names c.args.space.now c.args.party (meant c.args.read) (meant c.args.take) c.args.fields.now) = grind arith in
    passed _ _ _ _ _ _ c.in_ok-live.ensures (bad-pairs (meant c.args.read) (meant c.args.take) c.bad_pair.ensures c.bad_pair-2.ensures c.if-bad_pair.false) c.if-not-put_fields.ensures
    held c.if-live-ge16.false
