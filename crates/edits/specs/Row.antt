-- The code's entries, as the entries that they stand for.
use Rattle.rules.specs.Matching as matching
use Rattle.words.specs.Pairs.{meant_stored}
use Rattle.edits.specs.declared.Entry.{Entry}

-- E1
abbrev pub meant : Entry → matching.Entry
meant e = record { writer = e.writer; read_pair = meant_stored e.read; take_pair = meant_stored e.take; fields = e.fields.now }
