-- What the printing code is told and what it answers.
use Rattle.std.specs.Prelude.{◌≡◌, List, ℕ, Result, Ok, Err}
use Rattle.refusal.specs.declared.Refusal.{Refusal}
use Rattle.refusal.specs.Numbers.{numbered}
use Rattle.rules.specs.Names.{Name, partition, key}
use Rattle.rules.specs.Words.{opening}
use Rattle.roster_file.specs.File.{Outcome, accepted, refused}
use Rattle.roster_print.specs.declared.Kind.{Kind}
use Rattle.roster_print.specs.declared.Kind.TheVariants.{Partition, Key}

-- L2, L3: the name that a bit of a word is, by the kind of the word
abbrev pub named : Kind → ℕ → Name
named Partition c = partition c
named Key s = key s

-- D7: an accepted file opens the space with its roster, and a refused one changes no word
abbrev pub SetUpBy : Outcome → Result (Unit {0}) Refusal → List ℕ → List ℕ → List ℕ → List ℕ → Type 0
SetUpBy (accepted given) r roster roster' space space' = (r ≡ Ok tt) × (roster' ≡ given) × (space' ≡ (opening space given).space)
SetUpBy (refused n) r roster roster' space space' = (numbered r ≡ Err n) × (roster' ≡ roster) × (space' ≡ space)
