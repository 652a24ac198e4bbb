-- Runs on the words of a state: they follow the runs on the state itself.
use mathlib.Core.Path.{◌≡◌, refl, ap, ◌∙◌}
use mathlib.Core.Bool.{Bool, false, not}
use mathlib.Core.Option.{Option, none, some}
use mathlib.Core.List.{List, [], ◌∷◌, map}
use Prim.Native.Nat.{ℕ}
use native.Mathlib.Omega.{arith}
use lib.Dec.{eqb}
use lib.ListN.{length, drop}
use Rattle.rules.specs.Lists.{all, All}
use Rattle.rules.specs.Names.{bit}
use Rattle.rules.specs.Partitions.{sets}
use Rattle.rules.specs.State.{State}
use Rattle.rules.specs.Calls.{Call, done, first_that_applies, step, opened}
use Rattle.rules.specs.Words.{encode, decode, asked, result_of, Exit, exit_of, call, open_refusals, open_by, opening}
use Rattle.rules.specs.Runs.{run, state_run}
use Rattle.rules.proofs.BitLaws.{eqb-true}
use Rattle.rules.proofs.ListLaws.{or_left, or_right, not-false, passed}
use Rattle.rules.proofs.Rows.{WF, decode-encode, sound-encode}
use Rattle.rules.proofs.Kept.{wf-step, wf-opened, few-rows}

pub back : (s : State) → WF s → decode (encode s) ≡ s
back s h = decode-encode s h (few-rows s h)

pub call-encode : (s : State) (c : Call (List ℕ)) → WF s → call (encode s) c ≡ exit_of (step sets s (asked c)) (result_of c)
unfolding call
call-encode s c h = rw (sound-encode s h (few-rows s h), back s h) refl

pub run_lift : (cs : List (Call (List ℕ))) (s : State) → WF s → run (encode s) cs ≡ encode (state_run sets s (map asked cs))
run_lift [] s h = refl
run_lift (c ∷ cs) s h = rw (call-encode s c h) (run_lift cs (step sets s (asked c)).state (wf-step s (asked c) h))

pub wf-run : (cs : List (Call ℕ)) (s : State) → WF s → WF (state_run sets s cs)
wf-run [] s h = h
wf-run (c ∷ cs) s h = wf-run cs (step sets s c).state (wf-step s c h)

pub end-lift : (cs : List (Call (List ℕ))) (s : State) → WF s → decode (run (encode s) cs) ≡ state_run sets s (map asked cs)
end-lift cs s h = ap decode (run_lift cs s h) ∙ back (state_run sets s (map asked cs)) (wf-run (map asked cs) s h)

-- ---- from an opening

-- what an opening answered "done" leaves
pub record Opened (x : Exit) (roster : List ℕ) : Type 0 where
  pub words : x.space ≡ encode (opened roster)
  pub sixteen : length roster ≡ 16
  pub wf : WF (opened roster)

pub open_done : (old roster : List ℕ) → (opening old roster).answer ≡ done → Opened (opening old roster) roster
unfolding opening
open_done old roster = go (first_that_applies (open_refusals old roster)) refl
  where
    short : Bool
    short = not (eqb (length roster) 16)

    unclear : Bool
    unclear = not (all (λ w. not (bit w 63)) (drop 8 roster))

    go : (o : Option ℕ) → first_that_applies (open_refusals old roster) ≡ o → (open_by o old roster).answer ≡ done → Opened (open_by o old roster) roster
    go (some n) e d = let z : ◌≡◌ {A = ℕ} 0 1 = cc in absurd (omega arith)
    go none e d =
        let a : All (λ t. t.0 ≡ false) (open_refusals old roster) = passed (open_refusals old roster) e in
        let l : length roster ≡ 16 = eqb-true (length roster) 16 (not-false (eqb (length roster) 16) (or_left short unclear a.1.0)) in
        record {
          words = refl;
          sixteen = l;
          wf = wf-opened roster l (not-false (all (λ w. not (bit w 63)) (drop 8 roster)) (or_right short unclear a.1.0));
        }
