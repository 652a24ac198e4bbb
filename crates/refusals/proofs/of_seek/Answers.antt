-- `of_seek` meets its contract: past each test that fails, the rest of the table decides, and by its verdict the call is admitted.
use Rattle.std.specs.Prelude.{Result, Ok, Err}
use Rattle.std.proofs.lemmas.Result.{err_from_is_err_and}
use Rattle.words.specs.Pairs.{meant}
use Rattle.std.proofs.Common.{◌≡◌, ℕ, ◌≤◌, ◌<◌, refl, sym, ap, ◌∙◌, Bool, true, false, not, List, [], ◌∷◌, ◌++◌, ℤ, drop, length, lt-ltb, le-ltb, arith}
use Rattle.rules.specs.Lists.{all}
use Rattle.rules.specs.Partitions.{sets}
use Rattle.rules.specs.Fields.{template_field}
use Rattle.rules.specs.Matching.{Pair, stored_pair}
use Rattle.rules.specs.State.{live}
use Rattle.rules.specs.Calls.{Table, first_that_applies, bad_pair, name_tests, seek_table}
use Rattle.rules.specs.Words.{decode, sound}
use Rattle.rules.proofs.KeyLaws.{pair-in-range}
use Rattle.words.specs.Kind.{plain}
use Rattle.held.specs.Verdicts.{verdict}
use Rattle.held.proofs.Tables.{decides, leaves, passes}
use Rattle.refusals.specs.Admissions.{first_tests, begun, admitted_by}
use Rattle.refusals.proofs.Tables.{begin-leaves, first-decides, first-leaves, live-by, first-passed}
use Rattle.refusals.proofs.of_seek.Goals as goal

-- a look, receive or take, with its pair p
module _ (ws : List ℕ) (who : ℕ) (p : Pair ℤ) (t : List ℕ) (room : ℕ) where
  -- the tests of its names, and its table
  abbrev names : Table
  names = name_tests sets (decode ws) who (stored_pair p ∷ []) t

  whole : Table
  whole = (not (sound ws), 1) ∷ seek_table sets (decode ws) who p t room

  begins : whole ≡ first_tests ws who t ++ drop 3 whole
  unfolding whole seek_table first_tests
  begins = refl

  -- the answer that a verdict makes
  abbrev admits : Result (Unit {0}) ℕ → Result Bool ℕ
  admits v = admitted_by v (all plain t)

  refused-first : (n : ℕ) → Err n ≡ begun (first_that_applies (first_tests ws who t)) (live who (decode ws).entries)
      → admits (Err n) ≡ admits (verdict whole)
  refused-first n b = ap admits (first-decides _ _ _ _ _ begins _ _ b)

  -- past k tests, the rest of the table decides
  abbrev Past : ℕ → Type 0
  Past k = (v : Result (Unit {0}) ℕ) → v ≡ verdict (drop k whole) → admits v ≡ admits (verdict whole)

  module _ (n : ℕ) (b : Ok n ≡ begun (first_that_applies (first_tests ws who t)) (live who (decode ws).entries)) where
    past-3 : Past 3
    past-3 v e = ap admits (first-leaves _ _ _ _ _ begins v (live-by _ _ _ b).0 e)

    refused-4 : true ≡ bad_pair sets p → admits (Err 4) ≡ admits (verdict whole)
    unfolding whole seek_table
    refused-4 h = past-3 _ (decides _ 4 _ (sym h))

    module _ (h : false ≡ bad_pair sets p) where
      past-4 : Past 4
      unfolding whole seek_table
      past-4 v e = past-3 v (leaves _ 4 _ v (sym h) e)

      refused-5 : false ≡ all template_field t → admits (Err 5) ≡ admits (verdict whole)
      unfolding whole seek_table
      refused-5 f = past-4 _ (decides _ 5 _ (ap not (sym f)))

      module _ (f : true ≡ all template_field t) where
        past-5 : Past 5
        unfolding whole seek_table
        past-5 v e = past-4 v (leaves _ 5 _ v (ap not (sym f)) e)

        module _ (e : Ok tt ≡ verdict names) where
          past-8 : Past 8
          unfolding whole seek_table
          past-8 v h = past-5 v (begin-leaves names (drop 8 whole) v e h)

          refused-6 : room < length t → admits (Err 6) ≡ admits (verdict whole)
          unfolding whole seek_table
          refused-6 h = past-8 _ (decides _ 6 _ (lt-ltb _ _ h))

          -- past all tests, by whether the fields are plain
          passed : length t ≤ room → (u : Bool) → u ≡ all plain t → Ok (not u) ≡ admits (verdict whole)
          unfolding whole seek_table
          passed h u q = ap (λ (b : Bool). Ok (not b)) q ∙ past-8 _ (leaves _ 6 _ _ (le-ltb _ _ h) passes)

pub returns-in_err-first_tests : goal.returns-in_err-first_tests
unfolding whole
returns-in_err-first_tests c =
    let p = err_from_is_err_and c.from_residual.result c.from_residual.ensures.1 in
    rw (p.1, p.2) (refused-first _ _ _ _ _ _ c.in_err-first_tests.ensures)

pub returns-then-bad_pair : goal.returns-then-bad_pair
unfolding whole
returns-then-bad_pair c = refused-4 _ _ _ _ _ _ c.in_ok-first_tests.ensures c.if-bad_pair.ensures

pub fields_ok-requires : goal.fields_ok-requires
fields_ok-requires c = ap not c.plain_fields-bounded.ensures

pub returns-then-not-fields_ok : goal.returns-then-not-fields_ok
unfolding whole
returns-then-not-fields_ok c = refused-5 _ _ _ _ _ _ c.in_ok-first_tests.ensures c.if-bad_pair.ensures c.if-not-fields_ok.ensures

pub seek_names-requires : goal.seek_names-requires
seek_names-requires c =
    let f = first-passed _ _ _ (live-by _ _ _ c.in_ok-first_tests.ensures).0 in
    (f.0, f.1, pair-in-range (meant c.args.pair) (sym c.if-bad_pair.ensures), f.2)

pub returns-then-room-template : goal.returns-then-room-template
unfolding whole
returns-then-room-template c =
    let held : Ok tt ≡ verdict (names c.args.space.now c.args.party (meant c.args.pair) c.args.template.now c.args.room) = grind arith in
    refused-6 _ _ _ _ _ _ c.in_ok-first_tests.ensures c.if-bad_pair.ensures c.if-not-fields_ok.ensures held c.if-room-template.true

pub returns : goal.returns
unfolding whole
returns c =
    let held : Ok tt ≡ verdict (names c.args.space.now c.args.party (meant c.args.pair) c.args.template.now c.args.room) = grind arith in
    passed _ _ _ _ _ _ c.in_ok-first_tests.ensures c.if-bad_pair.ensures c.if-not-fields_ok.ensures held
    c.if-room-template.false _ c.plain_fields-bounded.ensures
