-- A turn writes one word more of the mapped list.
use Rattle.std.proofs.Common.{ℕ, map, ◌∙◌, arith, length-set}
use Rattle.std.proofs.Math.ListN.{length-map}
use Rattle.rules.specs.Names.{with_bit}
use Rattle.edits.proofs.Store.{store}
use Rattle.holdings.proofs.Opening.{at_map}
use Rattle.holdings.proofs.with_all.Goals as goal

pub loop-i-preserved : goal.loop-i-preserved
loop-i-preserved c =
    let f : ℕ → ℕ = λ w. with_bit w c.args.c in
    let len = length-map c.args.src.now f in record {
      same_length = simp length-set c.loop-i.invariant.same_length;
      written = store (map f c.args.src.now) c.args.dst.now c.loop-i.dst c.loop-i.i _ c.loop-i.invariant.written
          (c.with_bit.ensures ∙ at_map f c.args.src.now c.loop-i.i c.loop-i-test.true) (omega arith) (omega arith);
    }
