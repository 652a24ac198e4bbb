-- `first_1808` is safe: as many words are copied as there are.
use Rattle.std.proofs.Common.{sym, ◌≤◌, length, arith, rules}
use Rattle.std.proofs.lemmas.List.{length-take-le}
use Rattle.refusal_lines.proofs.first_1808.Goals as goal

pub slice_bounds-copy_from_slice-end-2 : goal.slice_bounds-copy_from_slice-end-2
slice_bounds-copy_from_slice-end-2 c = let h : 1808 ≤ length c.args.words = search rules in sym (length-take-le 1808 c.args.words h)

pub copy_from_slice-requires : goal.copy_from_slice-requires
copy_from_slice-requires c = let h : 1808 ≤ length c.args.words = search rules in omega (arith, length-take-le 1808 c.args.words h)
