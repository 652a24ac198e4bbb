-- After the first field, each turn writes a comma and a field; what is written from there on completes the list.
use Rattle.std.proofs.Common.{◌≡◌, length, drop}
use Rattle.numbers.proofs.Placed.{Unfinished}
use Rattle.text.specs.Fields.{render_more, render_fields}
use Rattle.text.proofs.render_fields.Given as goal

abbrev pub invariant-loop-w : goal.invariant-loop-w
invariant-loop-w l = record {
  left : Unfinished l.fn.out.bytes.now l.fn.out.at (render_fields l.fields) l.out.bytes.now l.out.at (render_more (drop l.w-index l.others));
  len : length l.out.bytes.now ≡ length l.fn.out.bytes.now;
  same_reference : l.out.bytes.ghost_name ≡ l.fn.out.bytes.ghost_name;
}
