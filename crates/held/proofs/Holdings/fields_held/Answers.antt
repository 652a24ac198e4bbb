-- A field whose name is not held decides; where none is left, all are held.
use Rattle.std.proofs.Common.{ap}
use Rattle.std.proofs.Math.Bool.{not}
use Rattle.rules.proofs.Loops.{all-fails, all-ends, all-names}
use Rattle.held.proofs.Holdings.fields_held.Invariants.{carried}
use Rattle.held.proofs.Holdings.fields_held.Goals as goal

pub returns-then-not-field_held : goal.returns-then-not-field_held
returns-then-not-field_held c =
    rw all-names
    (all-fails (carried c.args.self.partitions c.args.self.keys) c.args.fields.now c.loop-field.field-index _ c.loop-field.invariant.left_decide c.loop-field-test.true _ c.field_held.ensures (ap not c.if-not-field_held.true))

pub returns : goal.returns
returns c =
    rw all-names
    (all-ends (carried c.args.self.partitions c.args.self.keys) c.args.fields.now c.loop-field.field-index _ c.loop-field.invariant.left_decide c.loop-field-test.false)
