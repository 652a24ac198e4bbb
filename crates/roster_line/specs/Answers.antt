-- What the code's readers of a line answer, as what the definitions give.
use Rattle.std.specs.Prelude.{ℕ, ℤ, Option, Some, None, Result, Ok, Err}
use Rattle.std.proofs.Math.Option as math
use Rattle.std.proofs.Math.Option.{some, none}
use Rattle.rules.specs.Names.{Name}
use Rattle.numbers.specs.declared.NumberError.{NumberError}
use Rattle.numbers.specs.declared.NumberError.TheVariants.{Large, Unreadable}
use Rattle.roster_line.specs.Rights as rights
use Rattle.roster_line.specs.Rights.{a_partition, a_key, Said, gives, faulty, judged, word_of, bit_of}
use Rattle.roster_line.specs.declared.Kind.{Kind}
use Rattle.roster_line.specs.declared.Kind.TheVariants.{Partition, Key}
use Rattle.roster_line.specs.declared.Right.{Right}

abbrev pub meant : Kind → rights.Kind
meant Partition = a_partition
meant Key = a_key

abbrev pub kind_meant : Option Kind → math.Option rights.Kind
kind_meant None = none
kind_meant (Some k) = some (meant k)

-- L2, L3: the bit of the roster's words that is the party's name
abbrev pub right_for : ℕ → Name → Right
right_for who n = record { word = word_of who n; bit = bit_of n }

-- D2: the code's answer for what a line says
abbrev pub line_is : Said → Result Right ℕ
line_is (gives who n) = Ok (right_for who n)
line_is (faulty n) = Err n

-- R11, R12: what can't be read comes before what is out of range
abbrev pub judged_in : Result ℕ NumberError → rights.Kind → Result ℤ NumberError → Result Right ℕ
judged_in (Err Unreadable) kind n = Err 11
judged_in (Err Large) kind (Err Unreadable) = Err 11
judged_in (Err Large) kind (Err Large) = Err 12
judged_in (Err Large) kind (Ok k) = Err 12
judged_in (Ok who) kind (Err Unreadable) = Err 11
judged_in (Ok who) kind (Err Large) = Err 12
judged_in (Ok who) kind (Ok k) = line_is (judged who kind k)
