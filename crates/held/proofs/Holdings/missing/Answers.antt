-- `missing` meets its contract: past each kind of names that is held, the rest of the tests decides.
use Rattle.std.proofs.Common.{ap, sym}
use Rattle.std.proofs.Math.Bool.{not}
use Rattle.held.proofs.Tables.{decides, leaves, passes}
use Rattle.held.proofs.Holdings.missing.Goals as goal

pub returns-then-not-within : goal.returns-then-not-within
returns-then-not-within c = decides _ 13 _ (ap not c.if-not-within.true)

pub returns-then-not-has_keys : goal.returns-then-not-has_keys
returns-then-not-has_keys c = leaves _ 13 _ _ (ap not c.if-not-within.false) (decides _ 14 _ (ap not c.if-not-has_keys.true))

pub returns-then-not-fields_held : goal.returns-then-not-fields_held
returns-then-not-fields_held c =
    leaves _ 13 _ _ (ap not c.if-not-within.false)
    (leaves _ 14 _ _ (ap not c.if-not-has_keys.false) (decides _ 7 _ (ap not (sym c.if-not-fields_held.ensures))))

pub returns : goal.returns
returns c =
    leaves _ 13 _ _ (ap not c.if-not-within.false)
    (leaves _ 14 _ _ (ap not c.if-not-has_keys.false) (leaves _ 7 _ _ (ap not (sym c.if-not-fields_held.ensures)) passes))
