-- `seek` meets its contract: the verdict is the table's, the search by the stored co-key is the search by the pair, and
-- the copied words are the found entry's fields.
use Rattle.std.proofs.Common.{◌≡◌, arith, ℕ, ℤ, ◌-◌, ◌≤◌, ◌<◌, sym, ap, ap₂, ◌∙◌, subst, Bool, true, not, List, ◌∷◌, ◌++◌, length, take, drop}
use Rattle.std.proofs.Math.Option as rule
use Rattle.std.proofs.Math.Seq.{take-length}
use native.Mathlib.Nat.{sub-zero}
use borrow.Author.Tests.{not-true}
use Rattle.std.specs.Prelude.{Option, Some, Result, Ok, Err}
use Rattle.std.proofs.lemmas.Result.{err_from_is_err_and}
use Rattle.rules.specs.Lists.{all}
use Rattle.rules.specs.Names.{key_in_range, co_key, stored, co_stored}
use Rattle.rules.specs.Partitions.{sets}
use Rattle.rules.specs.Matching.{Pair, pair, Op, matches}
use Rattle.rules.specs.Calls.{Table, first_that_applies, seek_table}
use Rattle.rules.specs.Words.{decode, sound}
use Rattle.rules.proofs.KeyLaws.{stored-le, co-in-range, co-co}
use Rattle.rules.proofs.Back.{sound-facts}
use Rattle.rules.proofs.ListLaws.{not-false}
use Rattle.words.specs.Kind.{plain}
use Rattle.words.specs.Pairs as words
use Rattle.held.specs.Verdicts.{verdict}
use Rattle.refusals.specs.Admissions.{admitted_by}
use Rattle.refusals.proofs.Tables.{verdict-refused, verdict-passed}
use Rattle.search.specs.Place.{meant, place}
use Rattle.space.specs.Answers.{sought_in, fields_at}
use Rattle.space.proofs.Passed.{SeekPassed, seek-passed, admitted-refused, admitted-passed}
use Rattle.space.proofs.Seeking.{sought-refused, sought-placed, found-low}
use Rattle.space.proofs.seek.Goals as goal

-- the words of a slice as they are lent on, which are all its words
abbrev lent : List ℕ → List ℕ
lent l = take (length l - 0) l

lent_is : (l : List ℕ) → lent l ≡ l
lent_is l = ap (λ (n : ℕ). take n l) (sub-zero (length l)) ∙ take-length l

-- a call, with the words that it lends on
module _ (ws : List ℕ) (op : Op) (who : ℕ) (p : Pair ℤ) (t result : List ℕ) where
  -- the call's table by the space and its template, and how it is admitted
  table_of : List ℕ → List ℕ → Table
  table_of ws t = (not (sound ws), 1) ∷ seek_table sets (decode ws) who p t (length result)

  admitted : List ℕ → List ℕ → Result Bool ℕ
  admitted ws t = admitted_by (verdict (table_of ws t)) (all plain t)

  admission-is : (a : Result Bool ℕ) → a ≡ admitted (lent ws) (lent t) → a ≡ admitted ws t
  admission-is a e = e ∙ ap₂ admitted (lent_is ws) (lent_is t)

  refused : (n : ℕ) → Err n ≡ admitted (lent ws) (lent t) → Err n ≡ sought_in ws op who p t (length result)
  unfolding admitted table_of
  refused n e =
      sought-refused ws op who p t (length result) n
      (verdict-refused (table_of ws t) n (admitted-refused (verdict (table_of ws t)) (all plain t) n (admission-is _ e)))

  module _ (b : Bool) (e : Ok b ≡ admitted (lent ws) (lent t)) where
    told : (Ok tt ≡ verdict (table_of ws t)) × (b ≡ not (all plain t))
    unfolding admitted
    told = admitted-passed (verdict (table_of ws t)) (all plain t) b (admission-is _ e)

    no-refusal : first_that_applies (table_of ws t) ≡ rule.none
    no-refusal = verdict-passed (table_of ws t) told.0

    passed : SeekPassed ws who p t (length result)
    unfolding table_of
    passed = seek-passed ws who p t (length result) no-refusal

    in-range : key_in_range p.key ≡ true
    in-range = passed.range

    -- where the template is searched as one without bounds, all its fields are plain
    unbounded : not b ≡ true → all plain t ≡ true
    unbounded q = not-false (all plain t) (sym told.1 ∙ not-true b q)

    searchable : (y : ℕ) → y ≡ stored (co_key p.key)
        → (sound (lent ws) ≡ true) × (y ≤ 62) × (length (lent t) ≤ 8) × (not b ≡ true → all plain (lent t) ≡ true)
    searchable y f = (
      ap sound (lent_is ws) ∙ passed.is_sound,
      subst (λ (n : ℕ). n ≤ 62) (sym f) (stored-le (co_key p.key) (co-in-range p.key passed.range)),
      subst (λ (t : List ℕ). length t ≤ 8) (sym (lent_is t)) passed.few,
      λ q. ap (all plain) (lent_is t) ∙ unbounded q,
    )

    placed : (f : Option ℕ) (y : ℕ) → y ≡ stored (co_key p.key)
        → f ≡ place (matches sets op (pair p.partitions (co_stored y)) (lent t)) (decode (lent ws)).entries
        → Ok f ≡ sought_in ws op who p t (length result)
    unfolding table_of
    placed f y g h =
        let by : List ℕ → ℕ → List ℕ → Option ℕ = λ ws k t. place (matches sets op (pair p.partitions k) t) (decode ws).entries in
        sought-placed ws op who p t (length result) no-refusal f
        (h
        ∙ ap (λ (ws : List ℕ). by ws (co_stored y) (lent t)) (lent_is ws)
        ∙ ap₂ (by ws) (ap co_stored g ∙ co-co p.key passed.range) (lent_is t))

    copyable : (r : ℕ) → Ok (Some r) ≡ sought_in ws op who p t (length result)
        → (length (lent ws) ≡ 1809) × (r < 128) × (length t ≤ 8) × (length t ≤ length result)
    copyable r f =
        (ap length (lent_is ws) ∙ (sound-facts ws passed.is_sound).len, found-low ws op who p t result r f, passed.few, passed.fits)

pub returns-in_err-bounded-clause-value : goal.returns-in_err-bounded-clause-value
unfolding admitted table_of
returns-in_err-bounded-clause-value c =
    let a = c.args in
    let p = err_from_is_err_and c.from_residual.result c.from_residual.ensures.1 in
    rw (p.1, p.2) (refused a.space.now (meant a.op) a.party (words.meant a.pair) a.fields.now a.res.now _ c.in_err-bounded.ensures)

pub co_key_of-cokey-requires : goal.co_key_of-cokey-requires
unfolding admitted table_of
co_key_of-cokey-requires c =
    let a = c.args in in-range a.space.now (meant a.op) a.party (words.meant a.pair) a.fields.now a.res.now _ c.in_ok-bounded.ensures

pub search-requires : goal.search-requires
unfolding admitted table_of
search-requires c =
    let a = c.args in
    searchable a.space.now (meant a.op) a.party (words.meant a.pair) a.fields.now a.res.now _ c.in_ok-bounded.ensures _
    c.co_key_of-cokey.ensures

pub returns-in_default-clause-value : goal.returns-in_default-clause-value
unfolding admitted table_of
returns-in_default-clause-value c =
    let a = c.args in
    placed a.space.now (meant a.op) a.party (words.meant a.pair) a.fields.now a.res.now _ c.in_ok-bounded.ensures _ _
    c.co_key_of-cokey.ensures c.in_default.ensures

pub copy_out-requires : goal.copy_out-requires
unfolding admitted table_of
copy_out-requires c =
    let a = c.args in
    copyable a.space.now (meant a.op) a.party (words.meant a.pair) a.fields.now a.res.now _ c.in_ok-bounded.ensures c.in-Some.row
    (placed a.space.now (meant a.op) a.party (words.meant a.pair) a.fields.now a.res.now _ c.in_ok-bounded.ensures _ _
    c.co_key_of-cokey.ensures c.in-Some.ensures)

pub overflow_cast-result : goal.overflow_cast-result
unfolding admitted table_of
overflow_cast-result c =
    let a = c.args in
    let row =
    found-low a.space.now (meant a.op) a.party (words.meant a.pair) a.fields.now a.res.now c.in-Some.row
    (placed a.space.now (meant a.op) a.party (words.meant a.pair) a.fields.now a.res.now _ c.in_ok-bounded.ensures _ _
    c.co_key_of-cokey.ensures c.in-Some.ensures) in
    omega arith

pub returns : goal.returns
unfolding admitted table_of
returns c =
    let a = c.args in
    record {
      value =
          placed a.space.now (meant a.op) a.party (words.meant a.pair) a.fields.now a.res.now _ c.in_ok-bounded.ensures _ _
          c.co_key_of-cokey.ensures c.in-Some.ensures;
      res_after =
          c.copy_out.ensures
          ∙ ap (λ (ws : List ℕ). fields_at c.in-Some.row (length a.fields.now) ws ++ drop (length a.fields.now) a.res.now) (lent_is a.space.now);
    }
