-- The three tests of names: together they are the one test of all the names that a call uses, and what they say follows from it.
use mathlib.Core.Path.{◌≡◌, refl, sym, ap, ◌∙◌}
use mathlib.Core.Logic.{inl, inr}
use mathlib.Core.Bool.{Bool, true, false, ◌&&◌}
use mathlib.Core.Option.{Option, none, some}
use mathlib.Core.List.{List, [], ◌∷◌}
use Prim.Native.Nat.{ℕ}
use native.Mathlib.Omega.{arith}
use Rattle.rules.specs.Lists.{all, In}
use Rattle.rules.specs.Names.{Name, key}
use Rattle.rules.specs.Partitions.{sets}
use Rattle.rules.specs.Fields.{names_in}
use Rattle.rules.specs.Matching.{Pair}
use Rattle.rules.specs.State.{State, holds}
use Rattle.rules.specs.Calls.{refused, first_that_applies, partitions_in, keys_in, held_tests, name_tests}
use Rattle.rules.specs.Claims.{pair_names, used_names}
use Rattle.rules.specs.Earlier.{missing}
use Rattle.rules.proofs.Loops.{all_append}

module _ (h : Name → Bool) where
  -- the partitions of all pairs first, then their keys, then what the fields carry
  pub apart : (ps : List (Pair ℕ)) (fs : List ℕ)
      → all h (used_names ps fs) ≡ (all h (partitions_in sets ps) && (all h (keys_in ps) && all h (names_in fs)))
  apart [] fs = refl
  apart (p ∷ ps) fs =
      rw (
        all_append h (pair_names p) (used_names ps fs),
        all_append h (sets.names p.partitions) (key p.key ∷ []),
        all_append h (sets.names p.partitions) (partitions_in sets ps),
        apart ps fs,
      ) (go (all h (sets.names p.partitions)) (h (key p.key)) (all h (partitions_in sets ps)) (all h (keys_in ps)))
    where
      go : (a k b j : Bool)
          → ((a && (k && true)) && (b && (j && all h (names_in fs)))) ≡ ((a && b) && ((k && j) && all h (names_in fs)))
      go false k b j = refl
      go true true b j = refl
      go true false true j = refl
      go true false false j = refl

-- R13, R14, R7
abbrev pub numbers : List ℕ
numbers = 13 ∷ 14 ∷ 7 ∷ []

pub refused-in : (n : ℕ) → In n numbers → In (refused n) missing
refused-in n (inl e) = inl (ap refused e)
refused-in n (inr (inl e)) = inr (inl (ap refused e))
refused-in n (inr (inr (inl e))) = inr (inr (inl (ap refused e)))
refused-in n (inr (inr (inr e))) = elim e [ ]

-- what the three say, by whether all names are held: nothing, or one of their numbers
abbrev pub NamesSay : Bool → Option ℕ → Type 0
NamesSay true o = o ≡ none
NamesSay false o = (n : ℕ) × ((o ≡ some n) × In n numbers)

pub names-say : (s : State) (who : ℕ) (ps : List (Pair ℕ)) (fs : List ℕ)
    → NamesSay (all (holds s who) (used_names ps fs)) (first_that_applies (name_tests sets s who ps fs))
names-say s who ps fs =
    rw (apart (holds s who) ps fs) (go (all (holds s who) (partitions_in sets ps)) (all (holds s who) (keys_in ps)) (all (holds s who) (names_in fs)))
  where
    go : (a k f : Bool) → NamesSay (a && (k && f)) (first_that_applies (held_tests a k f))
    go false k f = (13, (refl, inl refl))
    go true false f = (14, (refl, inr (inl refl)))
    go true true false = (7, (refl, inr (inr (inl refl))))
    go true true true = refl

-- where none of them applies, all names are held
pub names-held : (s : State) (who : ℕ) (ps : List (Pair ℕ)) (fs : List ℕ)
    → first_that_applies (name_tests sets s who ps fs) ≡ none → all (holds s who) (used_names ps fs) ≡ true
names-held s who ps fs e = go (all (holds s who) (used_names ps fs)) (names-say s who ps fs)
  where
    go : (b : Bool) → NamesSay b (first_that_applies (name_tests sets s who ps fs)) → b ≡ true
    go true say = refl
    go false say = let q : some say.0 ≡ none = sym say.1.0 ∙ e in let z : ◌≡◌ {A = ℕ} 0 1 = cc in absurd (omega arith)
