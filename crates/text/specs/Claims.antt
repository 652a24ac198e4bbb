-- What is claimed of the text: a list of fields that is rendered reads back as that list, and the sets that texts read as are those that
-- are not empty.
use Rattle.std.specs.Prelude.{◌≡◌, ◌≢◌, true, List, ℕ, ◌^◌, ◌≤◌, ◌<◌, length}
use Rattle.std.proofs.Math.Option.{some}
use Rattle.rules.specs.Lists.{all}
use Rattle.rules.specs.Fields.{template_field}
use Rattle.text.specs.Partitions.{read_partitions, set_text}
use Rattle.text.specs.Fields.{read_fields, render_fields}

abbrev pub RenderedReadsBack : Type 0
RenderedReadsBack =
    (fs : List ℕ) → all template_field fs ≡ true → length fs ≤ 16 → read_fields (render_fields fs) ≡ some fs

-- T16: no text reads as the empty set
abbrev pub NoEmptySet : Type 0
NoEmptySet = (text : List ℕ) → read_partitions text ≢ some 0

-- T16: each set of 64 bits but the empty one has a text that reads as it
abbrev pub EachSetWritten : Type 0
EachSetWritten = (set : ℕ) → set ≢ 0 → set < 2 ^ 64 → read_partitions (set_text set) ≡ some set
