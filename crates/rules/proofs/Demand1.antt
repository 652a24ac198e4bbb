-- Demand 1: refusals and "none" change nothing, the first test of the table decides, and a sound space stays sound.
use mathlib.Core.Path.{◌≡◌, refl, sym, ap, ◌∙◌}
use mathlib.Core.Bool.{Bool, true, false, true≢false}
use mathlib.Core.Option.{Option, none, some}
use mathlib.Core.List.{List, []}
use Prim.Native.Nat.{ℕ}
use Rattle.rules.specs.Lists.{first}
use Rattle.rules.specs.Partitions.{sets}
use Rattle.rules.specs.Matching.{stored_pair, Entry, matches}
use Rattle.rules.specs.State.{State}
use Rattle.rules.specs.Calls.{Call, put, seek, Answer, done, found, nothing, refused}
use Rattle.rules.specs.Calls.{Table, first_that_applies, Outcome, remaining, finding, serve, step, opened}
use Rattle.rules.specs.Words.{encode, decode, sound, asked, result_of, call, refusals, open_refusals, open_by, opening}
use Rattle.rules.specs.Group.{unrefused}
use Rattle.rules.specs.Claims.{Iff, FirstApplies, ChangesNothing, RefusalChangesNothing, NoneChangesNothing}
use Rattle.rules.specs.Claims.{RefusedOpeningChangesNothing, FirstRefusalDecides, FirstOpenRefusalDecides, SoundStaysSound, OpeningIsSound}
use Rattle.rules.proofs.ListLaws.{clash}
use Rattle.rules.proofs.Rows.{WF, sound-encode}
use Rattle.rules.proofs.Kept.{wf-step, few-rows}
use Rattle.rules.proofs.Back.{wf-decode, encode-decode}
use Rattle.rules.proofs.Tables.{first-applies, applies-first}
use Rattle.rules.proofs.Decided.{call_by, call-by, passes-sound}
use Rattle.rules.proofs.StateRuns.{serve-unrefused}
use Rattle.rules.proofs.WordRuns.{Opened, open_done}

-- ---- what changes nothing

-- the answers of calls that change something
abbrev changing : Answer → Bool
changing done = true
changing (found n) = true
changing nothing = false
changing (refused n) = false

serve-still : (s : State) (c : Call ℕ) → changing (serve sets s c).answer ≡ false → ((serve sets s c).state ≡ s) × ((serve sets s c).fields ≡ [])
serve-still s (put who r t fs) h = absurd (true≢false h)
serve-still s (seek op who p t room) h = go (first (matches sets op (stored_pair p) t) s.entries) h
  where
    outcome : Option Entry → Outcome
    outcome o = finding op who o (remaining op (matches sets op (stored_pair p) t) s.entries) s

    go : (o : Option Entry) → changing (outcome o).answer ≡ false → ((outcome o).state ≡ s) × ((outcome o).fields ≡ [])
    go none h = (refl, refl)
    go (some e) h = absurd (true≢false h)

still : (ws : List ℕ) (c : Call (List ℕ)) → changing (call ws c).answer ≡ false → ChangesNothing ws c
still ws c h = rw (call-by ws c) (go (first_that_applies (refusals ws c)) refl (rw (call-by ws c) at h))
  where
    go : (o : Option ℕ) → first_that_applies (refusals ws c) ≡ o → changing (call_by o ws c).answer ≡ false
        → ((call_by o ws c).space ≡ ws) × ((call_by o ws c).result ≡ result_of c)
    go (some n) e k = (refl, refl)
    go none e k =
        let q = serve-still (decode ws) (asked c) k in
        rw (q.0, q.1) (encode-decode ws (passes-sound ws c e), refl)

pub refusal-changes-nothing : RefusalChangesNothing
refusal-changes-nothing ws c n e = still ws c (ap changing e)

pub none-changes-nothing : NoneChangesNothing
none-changes-nothing ws c e = still ws c (ap changing e)

pub refused-opening-changes-nothing : RefusedOpeningChangesNothing
unfolding opening
refused-opening-changes-nothing ws roster n = go (first_that_applies (open_refusals ws roster))
  where
    go : (o : Option ℕ) → (open_by o ws roster).answer ≡ refused n → (open_by o ws roster).space ≡ ws
    go (some m) e = refl
    go none e = absurd (true≢false (ap unrefused e))

-- ---- the first test that applies decides

-- an answer that is refused by the number o, if there is one, and else not refused
abbrev by : Option ℕ → Answer → Answer
by (some n) a = refused n
by none a = a

by-refused : (o : Option ℕ) (a : Answer) → unrefused a ≡ true → (n : ℕ) → by o a ≡ refused n → o ≡ some n
by-refused (some m) a h n e = let q : m ≡ n = cc in ap some q
by-refused none a h n e = clash (unrefused a) h (ap unrefused e)

decides : (ts : Table) (x a : Answer) → x ≡ by (first_that_applies ts) a → unrefused a ≡ true → (n : ℕ) → Iff (x ≡ refused n) (FirstApplies ts n)
decides ts x a e h n =
    (λ q. first-applies ts n (by-refused (first_that_applies ts) a h n (sym e ∙ q)), λ q. e ∙ rw (applies-first ts n q) refl)

pub first-refusal-decides : FirstRefusalDecides
first-refusal-decides ws c =
    let s : State = decode ws in
    decides (refusals ws c) (call ws c).answer (serve sets s (asked c)).answer
    (rw (call-by ws c) (go (first_that_applies (refusals ws c)))) (serve-unrefused s (asked c))
  where
    go : (o : Option ℕ) → (call_by o ws c).answer ≡ by o (serve sets (decode ws) (asked c)).answer
    go (some n) = refl
    go none = refl

pub first-open-refusal-decides : FirstOpenRefusalDecides
unfolding opening
first-open-refusal-decides ws roster =
    decides (open_refusals ws roster) (opening ws roster).answer done (go (first_that_applies (open_refusals ws roster))) refl
  where
    go : (o : Option ℕ) → (open_by o ws roster).answer ≡ by o done
    go (some n) = refl
    go none = refl

-- ---- soundness

sound-words : (s : State) → WF s → sound (encode s) ≡ true
sound-words s h = sound-encode s h (few-rows s h)

pub sound-stays-sound : SoundStaysSound
unfolding call
sound-stays-sound ws c h = rw h (sound-words (step sets (decode ws) (asked c)).state (wf-step (decode ws) (asked c) (wf-decode ws h)))

pub opening-is-sound : OpeningIsSound
unfolding opening
opening-is-sound ws roster l b =
    let o : Opened (opening ws roster) roster = open_done ws roster answered in
    (answered, rw o.words (sound-words (opened roster) o.wf))
  where
    answered : (opening ws roster).answer ≡ done
    answered = rw (l, b) refl
