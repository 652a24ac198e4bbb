-- At each field, those that are left decide as all of them do.
use Rattle.std.proofs.Common.{◌≡◌, drop}
use Rattle.rules.specs.Lists.{all}
use Rattle.words.specs.Kind.{plain}
use Rattle.refusals.proofs.plain_fields.Given as goal

abbrev pub invariant-loop-field : goal.invariant-loop-field
invariant-loop-field l = all plain (drop l.field-index l.template) ≡ all plain l.template
