-- The line that its parts make.
use Rattle.std.proofs.Common.{refl}
use Rattle.refusal.proofs.Given.{was-given}
use Rattle.lines.proofs.Readers.{fields_read}
use Rattle.lines.proofs.read_put.Goals as goal

pub returns : goal.returns
returns c =
    let f = fields_read _ _ c.args.words.now c.in_ok-count.ensures.value in
    rw (c.read_fields.ensures.words, ← f.0, ← c.in_ok-read.ensures, ← c.in_ok-take.ensures, was-given _ _ c.in_ok-party.ensures)
    (record { is = refl; in_range = f.1 })
