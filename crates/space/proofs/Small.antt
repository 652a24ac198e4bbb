-- Every answer of a call is small: at most 8 fields, and a refusal of at most 14.
use Prim.Native.Nat.{ℕ, ◌≤◌}
use mathlib.Core.Path.{◌≡◌, refl}
use mathlib.Core.Bool.{Bool}
use mathlib.Core.Option.{Option, none, some}
use mathlib.Core.List.{List}
use native.Mathlib.Omega.{arith}
use Rattle.rules.specs.Lists.{first, All}
use Rattle.rules.specs.Partitions.{sets}
use Rattle.rules.specs.Matching.{stored_pair, Entry, matches}
use Rattle.rules.specs.Calls.{Call, put, seek, first_that_applies, put_table, seek_table, remaining, finding, serve}
use Rattle.rules.specs.Words.{decode, asked, call, refusals, open_refusals, open_by, opening}
use Rattle.rules.proofs.ListLaws.{first-All}
use Rattle.rules.proofs.Rows.{EntryOk}
use Rattle.rules.proofs.Back.{wf-decode}
use Rattle.rules.proofs.Tables.{first-within}
use Rattle.rules.proofs.Decided.{call_by, call-by, passes-sound}
use Rattle.space.specs.Answers.{Small}

table-small : (ws : List ℕ) (c : Call (List ℕ)) → All (λ t. t.1 ≤ 14) (refusals ws c)
unfolding put_table seek_table
table-small ws (put who r t fs) =
    (omega arith, (omega arith, (omega arith, (omega arith, (omega arith, (omega arith, (omega arith, (omega arith, (omega arith, tt)))))))))
table-small ws (seek op who p t result) =
    (omega arith, (omega arith, (omega arith, (omega arith, (omega arith, (omega arith, (omega arith, (omega arith, (omega arith, tt)))))))))

pub call-small : (ws : List ℕ) (c : Call (List ℕ)) → Small (call ws c).answer
call-small ws c = rw (call-by ws c) (go (first_that_applies (refusals ws c)) refl)
  where
    found-small : (es : List Entry) (m : Entry → Bool) → All EntryOk es → (o : Option Entry) → first m es ≡ o
        → (s : _) (op : _) (who : ℕ) (left : List Entry) → Small (finding op who o left s).answer
    found-small es m h none e s op who left = tt
    found-small es m h (some x) e s op who left = (first-All EntryOk m es x h e).0.few

    served-small : (c : Call (List ℕ)) → first_that_applies (refusals ws c) ≡ none → Small (serve sets (decode ws) (asked c)).answer
    served-small (put who r t fs) e = tt
    served-small (seek op who p t result) e =
        found-small (decode ws).entries (matches sets op (stored_pair p) t) (wf-decode ws (passes-sound ws (seek op who p t result) e)).rows
        (first (matches sets op (stored_pair p) t) (decode ws).entries) refl (decode ws) op who (remaining op (matches sets op (stored_pair p) t) (decode ws).entries)

    go : (o : Option ℕ) → first_that_applies (refusals ws c) ≡ o → Small (call_by o ws c).answer
    go (some n) e = first-within 14 (refusals ws c) n (table-small ws c) e
    go none e = served-small c e

pub opening-small : (ws roster : List ℕ) → Small (opening ws roster).answer
unfolding opening
opening-small ws roster = go (first_that_applies (open_refusals ws roster)) refl
  where
    go : (o : Option ℕ) → first_that_applies (open_refusals ws roster) ≡ o → Small (open_by o ws roster).answer
    go (some n) e = first-within 14 (open_refusals ws roster) n (omega arith, (omega arith, tt)) e
    go none e = tt
