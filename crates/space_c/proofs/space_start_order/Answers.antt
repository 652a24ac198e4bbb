-- `space_start_order` meets its contract: a party is below 8.
use Rattle.std.proofs.Common.{arith, rules, map, length, subst}
use Rattle.start_order.specs.Pairs.{pair_of}
use Rattle.start_order.proofs.Answered.{Bounded, was-circle, start-bounded}
use Rattle.space_c.proofs.space_start_order.Goals as goal

pub overflow_add-result : goal.overflow_add-result
overflow_add-result c =
    let o = was-circle _ _ _ _ c.start_order.ensures c.in-Ok-Circle.party (search rules) in
    record { fits = omega (arith, subst (Bounded 15) o (start-bounded (map pair_of c.args.pairs.now) (length c.args.res.now))) }
