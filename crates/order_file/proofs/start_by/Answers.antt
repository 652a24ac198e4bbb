-- By the start of the file, then by its lines, and then by the words of its pairs.
use Rattle.std.proofs.Common.{rules, ◌≡◌, sym, ap, ◌∙◌, subst, List, ℕ, arith, Err, option_map}
use Rattle.std.proofs.Math.Option.{none}
use Rattle.std.proofs.lemmas.Option.{MatchOption-at_some, MatchOption-at_none}
use Rattle.refusal.specs.declared.Refusal.TheVariants.{BadFile, UnreadableLine}
use Rattle.numbers.specs.Lines.{begun_with}
use Rattle.start_order.specs.Answers.{Settled}
use Rattle.order_file.specs.File.{names_line, read_file}
use Rattle.order_file.proofs.Outcomes.{ok-or-err, ok-or-ok, bad-comes, unread-comes, refused-settled, words-settle}
use Rattle.order_file.proofs.start_by.Goals as goal

pub returns-in_err-lines : goal.returns-in_err-lines
unfolding names_line
returns-in_err-lines c =
    let file : List ℕ = c.args.file.now in
    let k = ok-or-err c.lines_start.result BadFile _ (sym c.ok_or.ensures.value ∙ c.in_err-lines.was) in
    let same : c.from_residual.result ≡ Err c.in_err-lines.field-0.0 = search rules in
    let r : Err BadFile ≡ c.from_residual.result = ap Err (sym k.1) ∙ sym same in
    let bad : begun_with 4096 names_line file ≡ none = MatchOption-at_none _ _ k.0 c.lines_start.ensures.lines in
    subst (λ r. Settled (read_file file) r c.args.places.now c.args.places.now) r (refused-settled _ BadFile _ (bad-comes file bad))

pub returns-in_err-pairs : goal.returns-in_err-pairs
unfolding names_line
returns-in_err-pairs c =
    let file : List ℕ = c.args.file.now in
    let lines = ok-or-ok c.lines_start.result BadFile _ (sym c.ok_or.ensures.value ∙ c.in_ok-lines.was) in
    let begun = MatchOption-at_some _ _ _ lines c.lines_start.ensures.lines in
    let k = ok-or-err c.read_pairs.result UnreadableLine _ (sym c.ok_or-2.ensures.value ∙ c.in_err-pairs.was) in
    let unread = ap (option_map (λ w. w.now)) (sym k.0) ∙ c.read_pairs.ensures in
    let same : c.from_residual-in_err-pairs.result ≡ Err c.in_err-pairs.field-0.0 = search rules in
    let r : Err UnreadableLine ≡ c.from_residual-in_err-pairs.result = ap Err (sym k.1) ∙ sym same in
    subst (λ r. Settled (read_file file) r c.args.places.now c.args.places.now) r (refused-settled _ UnreadableLine _ (unread-comes file _ begun unread))

pub returns : goal.returns
unfolding names_line
returns c =
    let file : List ℕ = c.args.file.now in
    let lines = ok-or-ok c.lines_start.result BadFile _ (sym c.ok_or.ensures.value ∙ c.in_ok-lines.was) in
    let begun = MatchOption-at_some _ _ _ lines c.lines_start.ensures.lines in
    let pairs = ok-or-ok c.read_pairs.result UnreadableLine _ (sym c.ok_or-2.ensures.value ∙ c.in_ok-pairs.was) in
    let words = ap (option_map (λ w. w.now)) (sym pairs) ∙ c.read_pairs.ensures in
    words-settle file _ begun c.in_ok-pairs.pairs.now words c.start_order.result c.args.places.now _ (omega arith) c.start_order.ensures
