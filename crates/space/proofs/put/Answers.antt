-- `put` meets its contract: refused as the table says, or the words of the state with one entry more.
use Rattle.std.proofs.Common.{◌≡◌, ℕ, refl, sym, ap, ap₂, ◌∙◌, not, List, [], ◌∷◌, ◌++◌, ℤ}
use Rattle.std.specs.Prelude.{Ok, Err}
use Rattle.std.proofs.lemmas.Result.{err_from_is_err_and}
use Rattle.rules.specs.Partitions.{sets}
use Rattle.rules.specs.Matching.{Pair, Entry}
use Rattle.rules.specs.State.{with_entries}
use Rattle.rules.specs.Calls.{put, done, refused, Table, put_table, entry_of}
use Rattle.rules.specs.Words.{encode, decode, sound, exit, call}
use Rattle.rules.proofs.Decided.{call-by, passes-call}
use Rattle.held.specs.Verdicts.{verdict}
use Rattle.refusals.proofs.Tables.{verdict-refused, verdict-passed}
use Rattle.space.proofs.Passed.{PutPassed, put-passed}
use Rattle.space.proofs.put.Goals as goal

module _ (ws : List ℕ) (who : ℕ) (r t : Pair ℤ) (fs : List ℕ) where
  abbrev whole : Table
  whole = (not (sound ws), 1) ∷ put_table sets (decode ws) who r t fs

  turned-away : (n : ℕ) → Err n ≡ verdict whole → exit (refused n) ws [] ≡ call ws (put who r t fs)
  turned-away n e = sym (call-by ws (put who r t fs) ∙ rw (verdict-refused whole n e) refl)

  module _ (e : Ok tt ≡ verdict whole) where
    passed : PutPassed ws r t fs
    passed = put-passed ws who r t fs (verdict-passed whole e)

    added : (entry : Entry) (left : List ℕ) → entry ≡ entry_of who r t fs → left ≡ encode (with_entries ((decode ws).entries ++ (entry ∷ [])) (decode ws))
        → exit done left [] ≡ call ws (put who r t fs)
    added entry left q h =
        ap (λ (ws : List ℕ). exit done ws [])
        (h ∙ ap (λ (e : Entry). encode (with_entries ((decode ws).entries ++ (e ∷ [])) (decode ws))) q)
        ∙ sym (passes-call ws (put who r t fs) (verdict-passed whole e))

pub returns-in_err-of_put : goal.returns-in_err-of_put
returns-in_err-of_put c =
    let p = err_from_is_err_and c.from_residual.result c.from_residual.ensures.1 in
    rw (p.1, p.2) (turned-away _ _ _ _ _ _ c.in_err-of_put.ensures)

pub stored-requires : goal.stored-requires
stored-requires c = let ok = passed _ _ _ _ _ c.in_ok-of_put.ensures in ok.read_range

pub stored-requires-2 : goal.stored-requires-2
stored-requires-2 c = let ok = passed _ _ _ _ _ c.in_ok-of_put.ensures in ok.take_range

pub add_row-requires : goal.add_row-requires
add_row-requires c = let ok = passed _ _ _ _ _ c.in_ok-of_put.ensures in (ok.is_sound, ok.room, ok.few)

pub returns : goal.returns
returns c =
    let a = c.args in
    let made : Pair ℕ → Pair ℕ → Entry = λ r t. record { writer = a.party; read_pair = r; take_pair = t; fields = a.fields.now } in
    added _ _ _ _ _ c.in_ok-of_put.ensures _ _ (ap₂ made c.stored.ensures c.stored-2.ensures) c.add_row.ensures
