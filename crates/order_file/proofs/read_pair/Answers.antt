-- Item by item: without a blank the line can't be read, and else its two items are.
use Rattle.std.proofs.Common.{sym, ap, ◌∙◌}
use Rattle.order_file.specs.Answers.{word_in}
use Rattle.order_file.proofs.Pairs.{one-item, two_items, first_unread, second-unread, pair_read}
use Rattle.order_file.proofs.read_pair.Goals as goal

pub returns-in_err-first : goal.returns-in_err-first
returns-in_err-first c = c.from_residual.ensures ∙ ap word_in (sym (one-item c.args.line.now c.in_err-first.ensures.parts))

pub returns-in_err-party : goal.returns-in_err-party
returns-in_err-party c =
    let items = two_items c.args.line.now c.in_ok-first.first.now c.in_ok-first.second.now c.in_ok-first.ensures.parts in
    c.from_residual-in_err-party.ensures ∙ first_unread _ _ (sym c.party.ensures.value ∙ c.in_err-party.was) ∙ ap word_in (sym items)

pub returns-in_err-party-2 : goal.returns-in_err-party-2
returns-in_err-party-2 c =
    let items = two_items c.args.line.now c.in_ok-first.first.now c.in_ok-first.second.now c.in_ok-first.ensures.parts in
    c.from_residual-in_err-party-2.ensures ∙ second-unread _ _ (sym c.party-2.ensures.value ∙ c.in_err-party-2.was) ∙ ap word_in (sym items)

pub returns : goal.returns
returns c =
    let items = two_items c.args.line.now c.in_ok-first.first.now c.in_ok-first.second.now c.in_ok-first.ensures.parts in
    pair_read _ _ _ _ (sym c.party.ensures.value ∙ c.in_ok-party.was) (sym c.party-2.ensures.value ∙ c.in_ok-party-2.was) ∙ ap word_in (sym items)
