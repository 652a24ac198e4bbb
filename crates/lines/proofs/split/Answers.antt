-- By whether a seventh blank stands in the last item.
use Rattle.std.proofs.Common.{arith}
use Rattle.lines.proofs.Cuts.{past_cut, blanks_cut, one_item, more_items, last_item}
use Rattle.lines.proofs.split.Goals as goal

pub returns-then-contains : goal.returns-then-contains
returns-then-contains c =
    let more = more_items c.in_ok-tkey.fields.now _ c.contains.ensures.value c.if-contains.true in
    grind (arith, blanks_cut, more)

pub returns : goal.returns
returns c =
    let last = last_item c.in_ok-tkey.fields.now _ c.contains.ensures.value c.if-contains.false in
    record {
      six = grind (arith, blanks_cut, one_item, last);
      call = grind arith;
      party = grind (arith, past_cut);
      rpart = grind (arith, past_cut);
      rkey = grind (arith, past_cut);
      tpart = grind (arith, past_cut);
      tkey = grind (arith, past_cut);
      fields = grind (arith, past_cut, last);
    }
