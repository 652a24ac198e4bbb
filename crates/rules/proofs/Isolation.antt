-- Isolation on states: each run is compared with the run of the group's own calls alone, and two runs with the same group
-- calls through it.
use mathlib.Core.Path.{◌≡◌, refl, sym, ap₂, ◌∙◌}
use mathlib.Core.Logic.{◌⊎◌, inl, inr}
use mathlib.Core.Bool.{true, false}
use mathlib.Core.List.{List, [], ◌∷◌}
use Prim.Native.Nat.{ℕ, zero, suc}
use lib.ListN.{length, take}
use Rattle.rules.specs.Lists.{keep}
use Rattle.rules.specs.Names.{Name}
use Rattle.rules.specs.Partitions.{sets}
use Rattle.rules.specs.State.{State, holds}
use Rattle.rules.specs.Calls.{Call, step, opened}
use Rattle.rules.specs.Runs.{state_run, state_replies}
use Rattle.rules.specs.Group.{Group, member, by_group, GroupName, SameHoldings}
use Rattle.rules.proofs.ListLaws.{bool}
use Rattle.rules.proofs.Gifts.{holds_same}
use Rattle.rules.proofs.Openings.{opened-entries, opened-eight}
use Rattle.rules.proofs.StateRuns.{StateOutOfGrasp, StateIsolated}
use Rattle.rules.proofs.Grasp.{Closed, closed-own, closed-other}
use Rattle.rules.proofs.Alike.{SameView, SameOutcome, view-refl, view-trans, view-sym, own-alike, other-unseen}

module _ (g : Group) (N : Name → Type 0) where
  -- a run from s, beside the run of the group's calls alone from s'
  record Purged (s s' : State) (cs : List (Call ℕ)) : Type 0 where
    pub told : state_replies sets (by_group g) s cs ≡ state_replies sets (by_group g) s' (keep (by_group g) cs)
    pub view : SameView g (state_run sets s cs) (state_run sets s' (keep (by_group g) cs))

  purge : (cs : List (Call ℕ)) (s s' : State) → Closed g N s → Closed g N s' → SameView g s s' → StateOutOfGrasp g N s cs → Purged s s' cs
  purge [] s s' h h' v q = record { told = refl; view = v }
  purge (c ∷ cs) s s' h h' v q = go (bool (by_group g c)) (purge cs)
    where
      go : (by_group g c ≡ true) ⊎ (by_group g c ≡ false)
          → ((t t' : State) → Closed g N t → Closed g N t' → SameView g t t' → StateOutOfGrasp g N t cs → Purged t t' cs)
          → Purged s s' (c ∷ cs)
      go (inl e) rest =
          let a : SameOutcome g (step sets s c) (step sets s' c) = own-alike g N s s' h h' v c e in
          let b : Purged (step sets s c).state (step sets s' c).state cs =
          rest (step sets s c).state (step sets s' c).state (closed-own g N s c h e) (closed-own g N s' c h' e) a.view q.1 in
          record { told = rw e (rw e (ap₂ (λ x y. x ∷ y) a.reply b.told)); view = rw e b.view }
      go (inr e) rest =
          let b : Purged (step sets s c).state s' cs =
          rest (step sets s c).state s' (closed-other g N s c h e (q.0 e)) h'
          (view-trans g (step sets s c).state s s' (other-unseen g N s c h e (q.0 e)) v) q.1 in
          record { told = rw e b.told; view = rw e b.view }

  closed_run : (cs : List (Call ℕ)) (s : State) (i : ℕ) → Closed g N s → StateOutOfGrasp g N s cs → Closed g N (state_run sets s (take i cs))
  closed_run cs s zero h q = h
  closed_run [] s (suc i) h q = h
  closed_run (c ∷ cs) s (suc i) h q = closed_run cs (step sets s c).state i (go (bool (by_group g c))) q.1
    where
      go : (by_group g c ≡ true) ⊎ (by_group g c ≡ false) → Closed g N (step sets s c).state
      go (inl e) = closed-own g N s c h e
      go (inr e) = closed-other g N s c h e (q.0 e)

  -- an opening has no entries yet
  closed-opened : (roster : List ℕ) → length roster ≡ 16
      → ((p : ℕ) (n : Name) → member g p ≡ true → holds (opened roster) p n ≡ true → N n) → Closed g N (opened roster)
  closed-opened roster l h = record { eight = opened-eight roster l; inside = h; apart = rw (opened-entries roster) tt }

opened_view : (g : Group) (roster₁ roster₂ : List ℕ) → SameHoldings g (opened roster₁) (opened roster₂) → SameView g (opened roster₁) (opened roster₂)
opened_view g roster₁ roster₂ h =
    record { held = λ p k. (h.same_partitions p k, h.same_keys p k); entries = rw (opened-entries roster₁, opened-entries roster₂) refl }

pub state-isolation : (g : Group) (roster₁ roster₂ : List ℕ) → length roster₁ ≡ 16 → length roster₂ ≡ 16
    → SameHoldings g (opened roster₁) (opened roster₂)
    → (cs₁ cs₂ : List (Call ℕ)) → keep (by_group g) cs₁ ≡ keep (by_group g) cs₂
    → StateOutOfGrasp g (GroupName g (opened roster₁)) (opened roster₁) cs₁
    → StateOutOfGrasp g (GroupName g (opened roster₂)) (opened roster₂) cs₂
    → StateIsolated g (opened roster₁) (opened roster₂) cs₁ cs₂
state-isolation g roster₁ roster₂ l₁ l₂ h cs₁ cs₂ e q₁ q₂ =
    record {
      same_replies = a.told ∙ rw e (sym b.told);
      same_entries = c.entries;
      same_holdings = record { same_partitions = λ p k. (c.held p k).0; same_keys = λ p k. (c.held p k).1 };
      inside₁ = λ i. (closed_run g N₁ cs₁ s₁ i start₁ q₁).inside;
      inside₂ = λ i. (closed_run g N₂ cs₂ s₂ i start₂ q₂).inside;
    }
  where
    s₁ : State
    s₁ = opened roster₁

    s₂ : State
    s₂ = opened roster₂

    N₁ : Name → Type 0
    N₁ = GroupName g s₁

    N₂ : Name → Type 0
    N₂ = GroupName g s₂

    v : SameView g s₁ s₂
    v = opened_view g roster₁ roster₂ h

    start₁ : Closed g N₁ s₁
    start₁ = closed-opened g N₁ roster₁ l₁ (λ p n k m. record { who = p; is_member = k; held = m })

    start₂ : Closed g N₂ s₂
    start₂ = closed-opened g N₂ roster₂ l₂ (λ p n k m. record { who = p; is_member = k; held = m })

    -- the first opening, by the names of the second
    start₁₂ : Closed g N₂ s₁
    start₁₂ = closed-opened g N₂ roster₁ l₁ (λ p n k m. record { who = p; is_member = k; held = sym (holds_same p s₁ s₂ (v.held p k) n) ∙ m })

    a : Purged g N₁ s₁ s₁ cs₁
    a = purge g N₁ cs₁ s₁ s₁ start₁ start₁ (view-refl g s₁) q₁

    b : Purged g N₂ s₂ s₁ cs₂
    b = purge g N₂ cs₂ s₂ s₁ start₂ start₁₂ (view-sym g s₁ s₂ v) q₂

    c : SameView g (state_run sets s₁ cs₁) (state_run sets s₂ cs₂)
    c = view-trans g (state_run sets s₁ cs₁) (state_run sets s₁ (keep (by_group g) cs₁)) (state_run sets s₂ cs₂) a.view
        (rw e (view-sym g (state_run sets s₂ cs₂) (state_run sets s₁ (keep (by_group g) cs₂)) b.view))
