-- What is claimed of the whole output.
use Rattle.std.specs.Prelude.{◌≡◌, List, ℕ, ◌<◌, length}
use Rattle.rules.specs.Claims.{Iff}
use Rattle.session.specs.Transcript.{too_long, output}

-- T23: the output is `input too long`, a line feed and nothing else exactly if the input has more than 65,536 bytes
abbrev pub TooLong : Type 0
TooLong = (input : List ℕ) → Iff (output input ≡ too_long) (65536 < length input)
