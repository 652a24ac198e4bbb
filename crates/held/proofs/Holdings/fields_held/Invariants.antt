-- At each field, the names in those that are left decide as all of them do.
use Rattle.std.proofs.Common.{◌≡◌, drop, Bool, ℕ}
use Rattle.rules.specs.Lists.{all}
use Rattle.rules.specs.Names.{held_in}
use Rattle.rules.specs.Fields.{field, name_in}
use Rattle.held.proofs.Holdings.fields_held.Given as goal

-- the names in a field word are held
abbrev pub carried : ℕ → ℕ → ℕ → Bool
carried partitions keys w = all (held_in partitions keys) (name_in (field w))

abbrev pub invariant-loop-field : goal.invariant-loop-field
invariant-loop-field l = record {
  left_decide : all (carried l.self.partitions l.self.keys) (drop l.field-index l.fields) ≡ all (carried l.self.partitions l.self.keys) l.fields;
}
