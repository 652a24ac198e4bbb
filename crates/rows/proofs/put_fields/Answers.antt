-- A field that fails decides, and else those after it do. (The check finds it alone; with this a wrong test is refused at that test.)
use Rattle.std.proofs.Common.{refl}
use Rattle.rules.proofs.Loops.{all-fails, all-goes-on, all-ends}
use Rattle.rows.proofs.put_fields.Goals as goal

pub returns-then-not-put_field : goal.returns-then-not-put_field
returns-then-not-put_field c = all-fails _ _ _ _ c.loop-w.invariant c.loop-w-test.true _ c.if-not-put_field.ensures refl

pub loop-w-preserved : goal.loop-w-preserved
loop-w-preserved c = all-goes-on _ _ _ _ c.loop-w.invariant c.loop-w-test.true _ c.if-not-put_field.ensures refl

pub returns : goal.returns
returns c = all-ends _ _ _ _ c.loop-w.invariant c.loop-w-test.false
