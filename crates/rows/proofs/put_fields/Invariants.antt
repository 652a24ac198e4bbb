-- At each field, those that are left decide as all of them do.
use Rattle.std.proofs.Common.{◌≡◌, drop}
use Rattle.rules.specs.Lists.{all}
use Rattle.rules.specs.Fields.{put_field}
use Rattle.rows.proofs.put_fields.Given as goal

abbrev pub invariant-loop-w : goal.invariant-loop-w
invariant-loop-w l = all put_field (drop l.w-index l.fields) ≡ all put_field l.fields
