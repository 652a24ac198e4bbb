-- Isolation on words: runs from an opening's words follow the runs on the states that they stand for.
use mathlib.Core.Path.{◌≡◌, refl, ap}
use mathlib.Core.Bool.{Bool, true, false}
use mathlib.Core.Option.{Option, none, some}
use mathlib.Core.List.{List, [], ◌∷◌, ◌++◌, map}
use Prim.Native.Nat.{ℕ, zero, suc}
use borrow.Author.Tests.{lt-ltb}
use lib.Dec.{ltb}
use lib.ListN.{length, take, drop}
use lib.Seq.{take-append_seam}
use Rattle.rules.specs.Lists.{keep, first}
use Rattle.rules.specs.Names.{Name}
use Rattle.rules.specs.Partitions.{sets}
use Rattle.rules.specs.Matching.{stored_pair, Entry, looking, receiving, taking, matches}
use Rattle.rules.specs.State.{State}
use Rattle.rules.specs.Calls.{Call, put, seek, party_of, Outcome, remaining, finding, serve, step, opened}
use Rattle.rules.specs.Words.{encode, decode, asked, result_of, exit_of, call, opening}
use Rattle.rules.specs.Runs.{run, reply, replies, state_reply, state_replies}
use Rattle.rules.specs.Group.{Group, member, by_group, CallInGrasp, unrefused, OutOfGrasp, NamesAt}
use Rattle.rules.specs.Group.{SameHoldings, Isolated, Isolation, others, Run, start_of, Withheld, Secrecy}
use Rattle.rules.proofs.ListLaws.{not-false}
use Rattle.rules.proofs.Rows.{WF}
use Rattle.rules.proofs.Kept.{wf-step}
use Rattle.rules.proofs.WordRuns.{back, call-encode, end-lift, Opened, open_done}
use Rattle.rules.proofs.Decided.{unrefused-party}
use Rattle.rules.proofs.StateRuns.{StateOutOfGrasp, StateIsolated, step-cases}
use Rattle.rules.proofs.Isolation.{state-isolation}

reply-step : (s : State) (c : Call ℕ) (result : List ℕ) → reply (exit_of (step sets s c) result) ≡ state_reply (step sets s c)
reply-step s c result = step-cases (λ o. reply (exit_of o result) ≡ state_reply o) s c (λ n. refl) (λ e. served c)
  where
    served : (c : Call ℕ) → reply (exit_of (serve sets s c) result) ≡ state_reply (serve sets s c)
    served (put who r t fs) = refl
    served (seek op who p t room) = go (first (matches sets op (stored_pair p) t) s.entries)
      where
        found_in_lem : Option Entry → Outcome
        found_in_lem o = finding op who o (remaining op (matches sets op (stored_pair p) t) s.entries) s

        go : (o : Option Entry) → reply (exit_of (found_in_lem o) result) ≡ state_reply (found_in_lem o)
        go none = refl
        go (some e) = rw (take-append_seam e.fields (drop (length e.fields) result)) refl

-- the contents of the result words count neither for the group nor for the grasp
asked-group : (g : Group) (c : Call (List ℕ)) → by_group g (asked c) ≡ by_group g c
unfolding by_group
asked-group g (put who r t fs) = refl
asked-group g (seek op who p t result) = refl

asked-grasp : (N : Name → Type 0) (c : Call (List ℕ)) → CallInGrasp N (asked c) → CallInGrasp N c
asked-grasp N (put who r t fs) h = h
asked-grasp N (seek looking who p t result) h = h
asked-grasp N (seek receiving who p t result) h = h
asked-grasp N (seek taking who p t result) h = h

-- ---- runs

-- the replies that a test picks; p tests the calls as they are made, q as they are compared
module _ (p : Call (List ℕ) → Bool) (q : Call ℕ → Bool) (e : (c : Call (List ℕ)) → q (asked c) ≡ p c) where
  pub replies-lift : (cs : List (Call (List ℕ))) (s : State) → WF s → replies p (encode s) cs ≡ state_replies sets q s (map asked cs)
  replies-lift [] s h = refl
  replies-lift (c ∷ cs) s h =
      rw (
        call-encode s c h,
        reply-step s (asked c) (result_of c),
        replies-lift cs (step sets s (asked c)).state (wf-step s (asked c) h),
        e c,
      ) refl

grasp-lift : (g : Group) (N : Name → Type 0) (cs : List (Call (List ℕ))) (s : State) → WF s
    → OutOfGrasp g N (encode s) cs → StateOutOfGrasp g N s (map asked cs)
grasp-lift g N [] s h q = tt
grasp-lift g N (c ∷ cs) s h q =
    let q' = rw (call-encode s c h) at q in
    (λ e u k. q'.0 (rw (asked-group g c) at e) u (asked-grasp N c k), grasp-lift g N cs (step sets s (asked c)).state (wf-step s (asked c) h) q'.1)

take-map : (i : ℕ) (cs : List (Call (List ℕ))) → map asked (take i cs) ≡ take i (map asked cs)
take-map zero cs = refl
take-map (suc i) [] = refl
take-map (suc i) (c ∷ cs) = ap (λ l. asked c ∷ l) (take-map i cs)

-- ---- both runs

isolated-lift : (g : Group) (s₁ s₂ : State) → WF s₁ → WF s₂ → (cs₁ cs₂ : List (Call (List ℕ)))
    → StateIsolated g s₁ s₂ (map asked cs₁) (map asked cs₂) → Isolated g (encode s₁) (encode s₂) cs₁ cs₂
isolated-lift g s₁ s₂ h₁ h₂ cs₁ cs₂ a =
    record {
      same_replies = rw (replies-lift (by_group g) (by_group g) (asked-group g) cs₁ s₁ h₁, replies-lift (by_group g) (by_group g) (asked-group g) cs₂ s₂ h₂) a.same_replies;
      same_entries = rw (end-lift cs₁ s₁ h₁, end-lift cs₂ s₂ h₂) a.same_entries;
      same_holdings = rw (end-lift cs₁ s₁ h₁, end-lift cs₂ s₂ h₂) a.same_holdings;
      inside₁ = λ i p n k m. rw (back s₁ h₁) (a.inside₁ i p n k (rw (end-lift (take i cs₁) s₁ h₁, take-map i cs₁) at m));
      inside₂ = λ i p n k m. rw (back s₂ h₂) (a.inside₂ i p n k (rw (end-lift (take i cs₂) s₂ h₂, take-map i cs₂) at m));
    }

pub isolation : Isolation
isolation g old₁ old₂ roster₁ roster₂ d₁ d₂ = rw (o₁.words, o₂.words) go
  where
    s₁ : State
    s₁ = opened roster₁

    s₂ : State
    s₂ = opened roster₂

    o₁ : Opened (opening old₁ roster₁) roster₁
    o₁ = open_done old₁ roster₁ d₁

    o₂ : Opened (opening old₂ roster₂) roster₂
    o₂ = open_done old₂ roster₂ d₂

    b₁ : decode (encode s₁) ≡ s₁
    b₁ = back s₁ o₁.wf

    b₂ : decode (encode s₂) ≡ s₂
    b₂ = back s₂ o₂.wf

    go : SameHoldings g (decode (encode s₁)) (decode (encode s₂))
        → (cs₁ cs₂ : List (Call (List ℕ))) → keep (by_group g) (map asked cs₁) ≡ keep (by_group g) (map asked cs₂)
        → OutOfGrasp g (NamesAt g (encode s₁)) (encode s₁) cs₁ → OutOfGrasp g (NamesAt g (encode s₂)) (encode s₂) cs₂
        → Isolated g (encode s₁) (encode s₂) cs₁ cs₂
    go same cs₁ cs₂ e q₁ q₂ =
        isolated-lift g s₁ s₂ o₁.wf o₂.wf cs₁ cs₂
        (state-isolation g roster₁ roster₂ o₁.sixteen o₂.sixteen (rw (b₁, b₂) at same) (map asked cs₁) (map asked cs₂) e
        (rw b₁ at (grasp-lift g (NamesAt g (encode s₁)) cs₁ s₁ o₁.wf q₁))
        (rw b₂ at (grasp-lift g (NamesAt g (encode s₂)) cs₂ s₂ o₂.wf q₂)))

-- ---- secrecy: isolation of the others

-- what holds of each call of a run, where it stands
pub out-of-grasp : (g : Group) (N : Name → Type 0) (cs : List (Call (List ℕ))) (ws : List ℕ)
    → ((before after : List (Call (List ℕ))) (c : Call (List ℕ)) → cs ≡ before ++ (c ∷ after)
    → by_group g c ≡ false → unrefused (call (run ws before) c).answer ≡ true → ¬ (CallInGrasp N c))
    → OutOfGrasp g N ws cs
out-of-grasp g N [] ws h = tt
out-of-grasp g N (c ∷ cs) ws h =
    (h [] cs c refl, out-of-grasp g N cs (call ws c).space (λ before after d e. h (c ∷ before) after d (ap (λ l. c ∷ l) e)))

-- a call that is not refused has a party from 0 to 7, so it is the group's if it is not the others'
elsewhere : (g : Group) (ws : List ℕ) (c : Call (List ℕ)) → unrefused (call ws c).answer ≡ true → by_group (others g) c ≡ false → by_group g c ≡ true
unfolding by_group member
elsewhere g ws c u h =
    let l : ltb (party_of c) 8 ≡ true = lt-ltb (party_of c) 8 (unrefused-party ws c u) in
    rw l (not-false (g (party_of c)) (rw l at h))

pub secrecy : Secrecy
secrecy g r₁ r₂ same e q₁ q₂ =
    record { same_replies = i.same_replies; same_entries = i.same_entries; same_holdings = i.same_holdings }
  where
    premise : (r : Run) → Withheld g r → OutOfGrasp (others g) (NamesAt (others g) (start_of r)) (start_of r) r.calls
    premise r q =
        out-of-grasp (others g) (NamesAt (others g) (start_of r)) r.calls (start_of r)
        (λ before after c e h u. q before after c e (elsewhere g (run (start_of r) before) c u h) u)

    i : Isolated (others g) (start_of r₁) (start_of r₂) r₁.calls r₂.calls
    i = isolation (others g) r₁.old r₂.old r₁.roster r₂.roster r₁.opens r₂.opens same r₁.calls r₂.calls e
        (premise r₁ q₁) (premise r₂ q₂)
