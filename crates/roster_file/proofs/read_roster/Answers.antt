-- By the start of the file, and then by its lines; the words are copied only where all of them are good.
use Rattle.std.proofs.Common.{◌≡◌, ◌∙◌, ◌≤◌, length, arith}
use mathlib.Core.List.{append-nil}
use lib.ListN.{drop_of_length-le}
use Rattle.std.proofs.lemmas.Result.{err_from_is_err_and}
use Rattle.rules.specs.Words.{zeros}
use Rattle.roster_file.specs.File.{names_line}
use Rattle.roster_file.proofs.Files.{start-read, start-refuses, went-read, went-unread}
use Rattle.roster_file.proofs.read_roster.Goals as goal

pub returns-in_err-lines : goal.returns-in_err-lines
unfolding names_line
returns-in_err-lines c =
    let e = c.in_err-lines.ensures in
    start-refuses c.args.file.now (rw e.ok_part at c.lines_start.ensures.lines) _ _ _ c.from_residual.ensures.1 e.value c.args.roster.now

pub returns-in_err-read_lines : goal.returns-in_err-read_lines
unfolding names_line zeros
returns-in_err-read_lines c =
    let start = start-read c.args.file.now _ (rw c.in_ok-lines.ensures.ok_part at c.lines_start.ensures.lines) in
    let r = err_from_is_err_and c.from_residual-in_err-read_lines.result c.from_residual-in_err-read_lines.ensures.1 in
    rw (start, r.1, r.2) (went-unread _ _ _ c.args.roster.now c.in_err-read_lines.ensures)

pub returns : goal.returns
unfolding names_line zeros
returns c =
    let start = start-read c.args.file.now _ (rw c.in_ok-lines.ensures.ok_part at c.lines_start.ensures.lines) in
    let words = c.read_lines.new.words in
    let fits : length c.args.roster.now ≤ length words = omega arith in
    let copied : c.copy_in.new.dst ≡ words = c.copy_in.ensures ∙ rw (drop_of_length-le c.args.roster.now fits) (append-nil words) in
    rw (start, copied) (went-read _ _ c.args.roster.now c.in_ok-read_lines.ensures)
