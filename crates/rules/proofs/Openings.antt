-- What an opening leaves: its entries, its words, and who holds what.
use mathlib.Core.Path.{◌≡◌, refl, ◌∙◌}
use mathlib.Core.Logic.{◌⊎◌, inl, inr}
use mathlib.Core.Bool.{true}
use mathlib.Core.List.{List, [], map}
use Prim.Native.Nat.{ℕ, ◌+◌, ◌<◌}
use native.Mathlib.Omega.{arith}
use lib.ListN.{length, get_or, take, drop, length-take, length-drop}
use lib.Seq.{get_or-take, get_or-drop}
use Rattle.rules.specs.Lists.{In}
use Rattle.rules.specs.Names.{parties, Name, default_key, common_names, with_bit, held_in}
use Rattle.rules.specs.State.{State, holds}
use Rattle.rules.specs.Calls.{opened_with, opened}
use Rattle.rules.specs.Claims.{Iff}
use Rattle.rules.proofs.Members.{in-from}
use Rattle.rules.proofs.Gifts.{EightEach, give_each-entries, give_each-eight, holds-give_each, give_each-kept, give_each-has, each-key}

-- the state that the roster's words stand for
abbrev pub listed : List ℕ → State
listed roster = record { partitions = take 8 roster; keys = drop 8 roster; entries = [] }

pub listed-eight : (roster : List ℕ) → length roster ≡ 16 → EightEach (listed roster)
listed-eight roster l = (length-take 8 roster ∙ omega arith, length-drop 8 roster ∙ omega arith)

pub opened-entries : (roster : List ℕ) → (opened roster).entries ≡ []
unfolding opened
opened-entries roster = give_each-entries parties common_names (listed roster)

pub opened-eight : (roster : List ℕ) → length roster ≡ 16 → EightEach (opened roster)
unfolding opened
opened-eight roster l = give_each-eight parties common_names (listed roster) (listed-eight roster l)

-- the roster's words, with the bit of key 0 in those of keys
pub opened-words : (roster : List ℕ) → length roster ≡ 16
    → opened roster ≡ record { partitions = take 8 roster; keys = map (λ w. with_bit w default_key) (drop 8 roster); entries = [] }
unfolding opened
opened-words roster l = each-key default_key (listed roster) (listed-eight roster l).1

-- a party holds what its words of the roster list, and the names that an opening adds
module _ (names : List Name) (roster : List ℕ) (who : ℕ) (n : Name) (w : who < 8) (l : length roster ≡ 16) where
  on_list : holds (listed roster) who n ≡ held_in (get_or roster who 0) (get_or roster (8 + who) 0) n
  unfolding holds
  on_list = rw (get_or-take 8 roster who 0 w, get_or-drop 8 roster who 0) refl

  pub opened-holds : Iff (holds (opened_with names roster) who n ≡ true) ((held_in (get_or roster who 0) (get_or roster (8 + who) 0) n ≡ true) ⊎ In n names)
  opened-holds = rw (← on_list) (holds-give_each parties who names n (listed roster), there)
    where
      there : (holds (listed roster) who n ≡ true) ⊎ In n names → holds (opened_with names roster) who n ≡ true
      there (inl h) = give_each-kept parties who names n (listed roster) h
      there (inr i) = give_each-has parties who names n (listed roster) (in-from who 0 8 (omega arith) (omega arith)) w (listed-eight roster l) i
