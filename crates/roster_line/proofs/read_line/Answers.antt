-- Where an item is missing or the kind can't be read the line is faulty, and else its three items are judged.
use Rattle.std.proofs.Common.{sym, ap, ◌∙◌}
use Rattle.roster_line.specs.Answers.{line_is}
use Rattle.roster_line.proofs.Lines.{one-item, two_items, no_kind, unreadable, answered}
use Rattle.roster_line.proofs.read_line.Goals as goal

pub returns-in_err-party : goal.returns-in_err-party
returns-in_err-party c =
    let e = c.in_err-party.ensures in
    unreadable _ _ _ c.from_residual.ensures.1 e.value ∙ ap line_is (sym (one-item c.args.line.now (rw e.ok_part at c.split_once.ensures.parts)))

pub returns-in_err-kind : goal.returns-in_err-kind
returns-in_err-kind c =
    let e = c.in_err-kind.ensures in
    let first = rw c.in_ok-party.ensures.ok_part at c.split_once.ensures.parts in
    let second = rw e.ok_part at c.split_once-2.ensures.parts in
    unreadable _ _ _ c.from_residual-in_err-kind.ensures.1 e.value ∙ ap line_is (sym (two_items c.args.line.now _ _ first second))

pub returns-in_err-kind-2 : goal.returns-in_err-kind-2
returns-in_err-kind-2 c =
    let e = c.in_err-kind-2.ensures in
    let first = rw c.in_ok-party.ensures.ok_part at c.split_once.ensures.parts in
    let second = rw c.in_ok-kind.ensures.ok_part at c.split_once-2.ensures.parts in
    let kind = rw e.ok_part at c.kind_of.ensures in
    unreadable _ _ _ c.from_residual-in_err-kind-2.ensures.1 e.value ∙ ap line_is (sym (no_kind c.args.line.now _ c.in_ok-party.rest.now first _ c.in_ok-kind.number.now second (sym kind)))

pub returns : goal.returns
returns c =
    let first = rw c.in_ok-party.ensures.ok_part at c.split_once.ensures.parts in
    let second = rw c.in_ok-kind.ensures.ok_part at c.split_once-2.ensures.parts in
    let kind = rw c.in_ok-kind-2.ensures.ok_part at c.kind_of.ensures in
    c.judge.ensures ∙ answered c.args.line.now _ c.in_ok-party.rest.now _ c.in_ok-kind.number.now first second _ (sym kind) _ _ c.read_natural-party.ensures.value c.read_whole-number.ensures
