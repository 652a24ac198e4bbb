-- At each field, those that are left decide as all of them do.
use Rattle.std.proofs.Common.{◌≡◌, drop}
use Rattle.rules.specs.Lists.{all}
use Rattle.rules.specs.Fields.{template_field}
use Rattle.refusals.proofs.template_fields.Given as goal

abbrev pub invariant-loop-field : goal.invariant-loop-field
invariant-loop-field l = all template_field (drop l.field-index l.template) ≡ all template_field l.template
