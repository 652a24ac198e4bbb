-- Runs on states: what specs/ says of runs on words, said of the states that the words stand for. A device of the proof.
use mathlib.Core.Path.{◌≡◌, refl}
use mathlib.Core.Bool.{true, false}
use mathlib.Core.List.{List, [], ◌∷◌}
use mathlib.Core.Option.{Option, none, some}
use Prim.Native.Nat.{ℕ}
use lib.ListN.{take}
use Rattle.rules.specs.Lists.{first}
use Rattle.rules.specs.Names.{Name}
use Rattle.rules.specs.Partitions.{sets}
use Rattle.rules.specs.Matching.{stored_pair, Entry, matches}
use Rattle.rules.specs.State.{State, holds}
use Rattle.rules.specs.Calls.{Call, put, seek, refused, first_that_applies, table, Outcome, unchanged, remaining, finding, serve, decided, step}
use Rattle.rules.specs.Runs.{state_run, state_replies}
use Rattle.rules.specs.Group.{Group, member, by_group, GroupName, CallInGrasp, unrefused, SameHoldings, group_entries}

abbrev pub StateOutOfGrasp : Group → (Name → Type 0) → State → List (Call ℕ) → Type 0
StateOutOfGrasp g N s [] = Unit {0}
StateOutOfGrasp g N s (c ∷ cs) =
    (by_group g c ≡ false → unrefused (step sets s c).answer ≡ true → ¬ (CallInGrasp N c)) × StateOutOfGrasp g N (step sets s c).state cs

abbrev pub StateInside : Group → State → List (Call ℕ) → Type 0
StateInside g s cs =
    (i who : ℕ) (n : Name) → member g who ≡ true → holds (state_run sets s (take i cs)) who n ≡ true → GroupName g s n

pub record StateIsolated (g : Group) (s₁ s₂ : State) (cs₁ cs₂ : List (Call ℕ)) : Type 0 where
  pub same_replies : state_replies sets (by_group g) s₁ cs₁ ≡ state_replies sets (by_group g) s₂ cs₂
  pub same_entries : group_entries g (state_run sets s₁ cs₁) ≡ group_entries g (state_run sets s₂ cs₂)
  pub same_holdings : SameHoldings g (state_run sets s₁ cs₁) (state_run sets s₂ cs₂)
  pub inside₁ : StateInside g s₁ cs₁
  pub inside₂ : StateInside g s₂ cs₂

-- a call is turned away and changes nothing, or no test applies and it is served
pub step-cases : (P : Outcome → Type 0) (s : State) (c : Call ℕ) → ((n : ℕ) → P (unchanged (refused n) s))
    → (first_that_applies (table sets s c) ≡ none → P (serve sets s c)) → P (step sets s c)
unfolding step
step-cases P s c away served = go (first_that_applies (table sets s c)) refl
  where
    go : (o : Option ℕ) → first_that_applies (table sets s c) ≡ o → P (decided o (serve sets s c) s)
    go (some n) e = away n
    go none e = served e

pub serve-unrefused : (s : State) (c : Call ℕ) → unrefused (serve sets s c).answer ≡ true
serve-unrefused s (put who r t fs) = refl
serve-unrefused s (seek op who p t room) = go (first (matches sets op (stored_pair p) t) s.entries)
  where
    go : (o : Option Entry) → unrefused (finding op who o (remaining op (matches sets op (stored_pair p) t) s.entries) s).answer ≡ true
    go none = refl
    go (some e) = refl
