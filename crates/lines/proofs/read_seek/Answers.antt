-- The line that its parts make.
use Rattle.std.proofs.Common.{refl, sym, ◌∙◌}
use Rattle.refusal.proofs.Given.{was-given}
use Rattle.lines.proofs.Readers.{fields_read}
use Rattle.lines.proofs.read_seek.Goals as goal

pub returns : goal.returns
returns c =
    let f = fields_read _ _ c.args.words.now c.in_ok-count.ensures.value in
    let dashes = sym c.no_take_pair.ensures ∙ c.if-not-no_take_pair.false in
    rw (c.read_fields.ensures.words, ← f.0, ← c.in_ok-pair.ensures, was-given _ _ c.in_ok-party.ensures, dashes)
    (record { is = refl; in_range = f.1 })
