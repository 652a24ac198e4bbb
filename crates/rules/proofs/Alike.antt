-- Two states that look alike to the group: a member's call answers the same in both and leaves them alike, and a call from
-- elsewhere that is out of the grasp leaves what the group sees.
use mathlib.Core.Path.{◌≡◌, refl, sym, ap, ◌∙◌}
use mathlib.Core.Bool.{Bool, true, false, cond}
use mathlib.Core.Option.{Option, none, some}
use mathlib.Core.List.{List, [], ◌∷◌, ◌++◌, append-nil}
use Prim.Native.Nat.{ℕ, ◌<◌}
use lib.Dec.{ltb, ltb→lt}
use lib.ListN.{length}
use Rattle.rules.specs.Lists.{all, keep, first, without, All}
use Rattle.rules.specs.Names.{Name}
use Rattle.rules.specs.Partitions.{sets}
use Rattle.rules.specs.Fields.{names_in}
use Rattle.rules.specs.Matching.{stored_pair, Entry, Op, looking, receiving, taking, matches}
use Rattle.rules.specs.State.{State, holds, with_entries, wrote, live}
use Rattle.rules.specs.Calls.{Call, put, seek, first_that_applies, partitions_in, keys_in, put_table, seek_table, table}
use Rattle.rules.specs.Calls.{Outcome, decided, entry_of, removes, remaining, gained, finding, serve, step}
use Rattle.rules.specs.Runs.{state_reply}
use Rattle.rules.specs.Claims.{pair_names}
use Rattle.rules.specs.Group.{Group, member, by_group, CallInGrasp, unrefused, group_entries}
use Rattle.rules.proofs.BitLaws.{t_of, eqb-true}
use Rattle.rules.proofs.ListLaws.{and_left, all_same, All-map, All-left, keep_append, first-keep, without-keep, without-others, keep-keep}
use Rattle.rules.proofs.Gifts.{give_all-entries, SameWords, holds_same, give_all-alike}
use Rattle.rules.proofs.StateRuns.{step-cases, serve-unrefused}
use Rattle.rules.proofs.Grasp.{Contains, Apart, Closed, ours-miss, others-miss, others-words, names-inside}

-- the members hold the same, and have the same live entries
pub record SameView (g : Group) (s₁ s₂ : State) : Type 0 where
  pub held : (p : ℕ) → member g p ≡ true → SameWords p s₁ s₂
  pub entries : group_entries g s₁ ≡ group_entries g s₂

pub record SameOutcome (g : Group) (o₁ o₂ : Outcome) : Type 0 where
  pub reply : state_reply o₁ ≡ state_reply o₂
  pub view : SameView g o₁.state o₂.state

module _ (g : Group) where
  -- the entry's writer is a member
  abbrev own : Entry → Bool
  own e = member g e.writer

  pub view-refl : (s : State) → SameView g s s
  view-refl s = record { held = λ p k. (refl, refl); entries = refl }

  pub view-trans : (s₁ s₂ s₃ : State) → SameView g s₁ s₂ → SameView g s₂ s₃ → SameView g s₁ s₃
  view-trans s₁ s₂ s₃ a b =
      record { held = λ p k. ((a.held p k).0 ∙ (b.held p k).0, (a.held p k).1 ∙ (b.held p k).1); entries = a.entries ∙ b.entries }

  pub view-sym : (s₁ s₂ : State) → SameView g s₁ s₂ → SameView g s₂ s₁
  view-sym s₁ s₂ a = record { held = λ p k. (sym (a.held p k).0, sym (a.held p k).1); entries = sym a.entries }

  pub member-lt : (p : ℕ) → member g p ≡ true → p < 8
  unfolding member
  member-lt p h = ltb→lt p 8 (t_of (and_left (ltb p 8) (g p) h))

  -- ---- a member's call in both states

  live_alike : (who : ℕ) (s₁ s₂ : State) → member g who ≡ true → group_entries g s₁ ≡ group_entries g s₂
      → live who s₁.entries ≡ live who s₂.entries
  unfolding live
  live_alike who s₁ s₂ hw h =
      ap length (keep-keep (wrote who) own f s₁.entries ∙ ap (keep (wrote who)) h ∙ sym (keep-keep (wrote who) own f s₂.entries))
    where
      f : (e : Entry) → wrote who e ≡ true → own e ≡ true
      f e k = ap (member g) (eqb-true e.writer who k) ∙ hw

  held-alike : (who : ℕ) (s₁ s₂ : State) → member g who ≡ true → SameView g s₁ s₂ → (l : List Name) → all (holds s₁ who) l ≡ all (holds s₂ who) l
  held-alike who s₁ s₂ hw h l = all_same (holds s₁ who) (holds s₂ who) (holds_same who s₁ s₂ (h.held who hw)) l

  table-alike : (s₁ s₂ : State) (c : Call ℕ) → by_group g c ≡ true → SameView g s₁ s₂ → table sets s₁ c ≡ table sets s₂ c
  unfolding by_group put_table seek_table
  table-alike s₁ s₂ (put who r t fs) hw h =
      let same = held-alike who s₁ s₂ hw h in
      let pairs = stored_pair r ∷ stored_pair t ∷ [] in
      rw (same (partitions_in sets pairs), same (keys_in pairs), same (names_in fs), live_alike who s₁ s₂ hw h.entries) refl
  table-alike s₁ s₂ (seek op who p t room) hw h =
      let same = held-alike who s₁ s₂ hw h in
      let pairs = stored_pair p ∷ [] in
      rw (same (partitions_in sets pairs), same (keys_in pairs), same (names_in t)) refl

  remaining-alike : (op : Op) (m : Entry → Bool) (es₁ es₂ : List Entry)
      → All (λ e. own e ≡ false → m e ≡ false) es₁ → All (λ e. own e ≡ false → m e ≡ false) es₂
      → keep own es₁ ≡ keep own es₂ → keep own (remaining op m es₁) ≡ keep own (remaining op m es₂)
  remaining-alike op m es₁ es₂ a₁ a₂ h = go (removes op)
    where
      go : (b : Bool) → keep own (cond b (without m es₁) es₁) ≡ keep own (cond b (without m es₂) es₂)
      go true = without-keep own m es₁ a₁ ∙ ap (without m) h ∙ sym (without-keep own m es₂ a₂)
      go false = h

  module _ (N : Name → Type 0) (s₁ s₂ : State) (h₁ : Closed g N s₁) (h₂ : Closed g N s₂) (h : SameView g s₁ s₂) where
    served-alike : (c : Call ℕ) → by_group g c ≡ true → first_that_applies (table sets s₂ c) ≡ none → SameOutcome g (serve sets s₁ c) (serve sets s₂ c)
    unfolding by_group
    served-alike (put who r t fs) hw n =
        record {
          reply = refl;
          view = record {
            held = h.held;
            entries = keep_append own s₁.entries (e ∷ []) ∙ ap (λ l. l ++ keep own (e ∷ [])) h.entries ∙ sym (keep_append own s₂.entries (e ∷ []));
          };
        }
      where
        e : Entry
        e = entry_of who r t fs
    served-alike (seek op who p t room) hw n = rw f (go (first m s₂.entries))
      where
        m : Entry → Bool
        m = matches sets op (stored_pair p) t

        inside : Contains N (stored_pair p)
        inside = All-left N (pair_names (stored_pair p)) (names_in t) (names-inside g N s₂ (seek op who p t room) h₂ hw n)

        a₁ : All (λ e. own e ≡ false → m e ≡ false) s₁.entries
        a₁ = others-miss g N op (stored_pair p) t inside s₁.entries h₁.apart

        a₂ : All (λ e. own e ≡ false → m e ≡ false) s₂.entries
        a₂ = others-miss g N op (stored_pair p) t inside s₂.entries h₂.apart

        f : first m s₁.entries ≡ first m s₂.entries
        f = first-keep own m s₁.entries a₁ ∙ ap (first m) h.entries ∙ sym (first-keep own m s₂.entries a₂)

        t₁ : State
        t₁ = with_entries (remaining op m s₁.entries) s₁

        t₂ : State
        t₂ = with_entries (remaining op m s₂.entries) s₂

        go : (o : Option Entry) → SameOutcome g (finding op who o (remaining op m s₁.entries) s₁) (finding op who o (remaining op m s₂.entries) s₂)
        go none = record { reply = refl; view = h }
        go (some x) =
            record {
              reply = refl;
              view = record {
                held = λ q k. give_all-alike who q (gained op x) t₁ t₂ (member-lt who hw) h₁.eight h₂.eight (h.held who hw) (h.held q k);
                entries = rw (give_all-entries who (gained op x) t₁, give_all-entries who (gained op x) t₂)
                    (remaining-alike op m s₁.entries s₂.entries a₁ a₂ h.entries);
              };
            }

    pub own-alike : (c : Call ℕ) → by_group g c ≡ true → SameOutcome g (step sets s₁ c) (step sets s₂ c)
    unfolding step
    own-alike c hw = rw (table-alike s₁ s₂ c hw h) (go (first_that_applies (table sets s₂ c)) refl)
      where
        go : (o : Option ℕ) → first_that_applies (table sets s₂ c) ≡ o → SameOutcome g (decided o (serve sets s₁ c) s₁) (decided o (serve sets s₂ c) s₂)
        go (some n) e = record { reply = refl; view = h }
        go none e = served-alike c hw e

  -- ---- a call from elsewhere, out of the grasp

  other-served : (N : Name → Type 0) (s : State) (c : Call ℕ) → Closed g N s → by_group g c ≡ false → ¬ (CallInGrasp N c)
      → SameView g (serve sets s c).state s
  unfolding by_group
  other-served N s (put who r t fs) h hw q =
      record { held = λ p k. (refl, refl); entries = keep_append own s.entries (entry_of who r t fs ∷ []) ∙ rw hw (append-nil (keep own s.entries)) }
  other-served N s (seek op who p t room) h hw q = go (first m s.entries)
    where
      m : Entry → Bool
      m = matches sets op (stored_pair p) t

      kept_by : (b : Bool) (m : Entry → Bool) → keep own (without m s.entries) ≡ keep own s.entries
          → keep own (cond b (without m s.entries) s.entries) ≡ keep own s.entries
      kept_by true m e = e
      kept_by false m e = refl

      kept : (op : Op) → ¬ (CallInGrasp N (seek op who p t room)) → keep own (remaining op (matches sets op (stored_pair p) t) s.entries) ≡ keep own s.entries
      kept looking q = refl
      kept receiving q = refl
      kept taking q =
          kept_by (removes taking) (matches sets taking (stored_pair p) t)
          (without-others own (matches sets taking (stored_pair p) t) s.entries
          (All-map (Apart g N) (λ e. own e ≡ true → matches sets taking (stored_pair p) t e ≡ false)
          (λ e a k. ours-miss N (stored_pair p) t e (a.ours k) q) s.entries h.apart))

      u : State
      u = with_entries (remaining op m s.entries) s

      go : (o : Option Entry) → SameView g (finding op who o (remaining op m s.entries) s).state s
      go none = view-refl s
      go (some x) =
          record {
            held = λ p k. others-words g who p (gained op x) u hw k;
            entries = rw (give_all-entries who (gained op x) u) (kept op q);
          }

  pub other-unseen : (N : Name → Type 0) (s : State) (c : Call ℕ) → Closed g N s → by_group g c ≡ false
      → (unrefused (step sets s c).answer ≡ true → ¬ (CallInGrasp N c)) → SameView g (step sets s c).state s
  other-unseen N s c h hw =
      step-cases (λ o. (unrefused o.answer ≡ true → ¬ (CallInGrasp N c)) → SameView g o.state s) s c
      (λ n q. view-refl s) (λ e q. other-served N s c h hw (q (serve-unrefused s c)))
