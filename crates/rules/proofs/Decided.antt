-- A call on words by the first test of its table that applies: the law that the claims go by.
use mathlib.Core.Path.{◌≡◌, refl, ◌∙◌}
use mathlib.Core.Logic.{◌⊎◌, inl, inr}
use mathlib.Core.Bool.{true, false, not, false≢true}
use mathlib.Core.Option.{Option, none, some}
use mathlib.Core.List.{List, ◌∷◌}
use Prim.Native.Nat.{ℕ, ◌<◌}
use Rattle.rules.specs.Partitions.{sets}
use Rattle.rules.specs.State.{State}
use Rattle.rules.specs.Calls.{Call, put, seek, party_of, refused, Table, first_that_applies, table, serve, decided, step}
use Rattle.rules.specs.Words.{decode, sound, asked, result_of, Exit, exit, exit_of, call, refusals}
use Rattle.rules.specs.Group.{unrefused}
use Rattle.rules.specs.Claims.{Passes}
use Rattle.rules.specs.Earlier.{call_with}
use Rattle.rules.proofs.ListLaws.{bool, not-false, passed}
use Rattle.rules.proofs.Kept.{party-ok, wf-serve}
use Rattle.rules.proofs.Back.{wf-decode, encode-decode}
use Rattle.rules.proofs.WordRuns.{back}

-- refused by a number and no word changed, or served
abbrev pub call_by : Option ℕ → List ℕ → Call (List ℕ) → Exit
call_by (some n) ws c = exit (refused n) ws (result_of c)
call_by none ws c = exit_of (serve sets (decode ws) (asked c)) (result_of c)

-- by whatever table it is decided
pub by-table : (ts : State → Call ℕ → Table) (ws : List ℕ) (c : Call (List ℕ))
    → call_with ts ws c
    ≡ call_by (first_that_applies ((not (sound ws), 1) ∷ ts (decode ws) (asked c))) ws c
by-table ts ws c = go (bool (sound ws))
  where
    sound-by : sound ws ≡ true → (o : Option ℕ) → exit_of (decided o (serve sets (decode ws) (asked c)) (decode ws)) (result_of c) ≡ call_by o ws c
    sound-by h (some n) = rw (encode-decode ws h) refl
    sound-by h none = refl

    go : (sound ws ≡ true) ⊎ (sound ws ≡ false)
        → call_with ts ws c
        ≡ call_by (first_that_applies ((not (sound ws), 1) ∷ ts (decode ws) (asked c))) ws c
    go (inl h) = rw h (sound-by h (first_that_applies (ts (decode ws) (asked c))))
    go (inr h) = rw h refl

pub call-by : (ws : List ℕ) (c : Call (List ℕ)) → call ws c ≡ call_by (first_that_applies (refusals ws c)) ws c
unfolding call step
call-by ws c = by-table (table sets) ws c

-- a call that no test turns away
module _ (ws : List ℕ) (c : Call (List ℕ)) (e : Passes ws c) where
  pub passes-sound : sound ws ≡ true
  passes-sound = not-false (sound ws) (passed (refusals ws c) e).0

  pub passes-table : first_that_applies (table sets (decode ws) (asked c)) ≡ none
  passes-table = rw passes-sound at e

  pub passes-call : call ws c ≡ exit_of (serve sets (decode ws) (asked c)) (result_of c)
  passes-call = call-by ws c ∙ rw e refl

  pub passes-left : decode (call ws c).space ≡ (serve sets (decode ws) (asked c)).state
  passes-left =
      let s : State = (serve sets (decode ws) (asked c)).state in
      rw passes-call (back s (wf-serve (decode ws) (asked c) (wf-decode ws passes-sound) passes-table))

-- R2: a call that is not refused names a party from 0 to 7
pub unrefused-party : (ws : List ℕ) (c : Call (List ℕ)) → unrefused (call ws c).answer ≡ true → party_of c < 8
unrefused-party ws c u = go (first_that_applies (refusals ws c)) refl
  where
    party : (c : Call (List ℕ)) → party_of (asked c) < 8 → party_of c < 8
    party (put who r t fs) l = l
    party (seek op who p t result) l = l

    go : (o : Option ℕ) → first_that_applies (refusals ws c) ≡ o → party_of c < 8
    go (some n) e = absurd (false≢true (rw (call-by ws c, e) at u))
    go none e = party c (party-ok (decode ws) (asked c) (passes-table ws c e))

-- what holds of the state before a call, and of the one that it is served with, holds of the state that it leaves
pub call-leaves : (P : State → Type 0) (ws : List ℕ) (c : Call (List ℕ)) → P (decode ws)
    → (Passes ws c → P (serve sets (decode ws) (asked c)).state) → P (decode (call ws c).space)
call-leaves P ws c before served = go (first_that_applies (refusals ws c)) refl
  where
    go : (o : Option ℕ) → first_that_applies (refusals ws c) ≡ o → P (decode (call ws c).space)
    go (some n) e = rw (call-by ws c, e) before
    go none e = rw (passes-left ws c e) (served e)
