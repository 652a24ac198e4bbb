-- The set is what it has in common with those placed exactly if all of it is placed.
use Rattle.std.proofs.Common.{ap, ◌∙◌, ◌^◌, ◌<◌, arith}
use Rattle.rules.specs.Lists.{all}
use Rattle.rules.specs.Names.{bit}
use Rattle.rules.proofs.SetLaws.{held-and}
use Rattle.start_order.proofs.Sets.{party-bits}
use Rattle.start_order.proofs.all_placed.Goals as goal

pub returns : goal.returns
returns c =
    let word : c.args.set < 2 ^ 64 = omega arith in
    held-and c.args.set c.args.placed word ∙ ap (all (bit c.args.placed)) (party-bits c.args.set (omega arith))
