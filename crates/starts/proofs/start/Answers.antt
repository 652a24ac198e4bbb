-- `start` meets its contract: the lines of the list make up the whole, and the whole agrees with the rule.
use Rattle.std.proofs.Common.{◌≡◌, ◌<◌, ◌%◌, arith, drop, ap, ◌∙◌}
use native.Mathlib.Nat.{mod-eq_of_lt}
use Rattle.rules.specs.Words.{row_start, rows_end}
use Rattle.starts.specs.Listed.{listed}
use Rattle.starts.proofs.Lists.{listed-line, agree_at, starts, starts-checked}
use Rattle.starts.proofs.start.Goals as goal

pub returns : goal.returns
returns c =
    let place = c.args.row % 128 in
    let same : place ≡ c.args.row = mod-eq_of_lt c.requires in
    let below : place < 128 = rw same c.requires in
    let e120 : c.of_line-from_120.result ≡ listed (drop 120 starts) 120 place rows_end = c.of_line-from_120.ensures in
    let e112 = listed-line (drop 112 starts) 112 place rows_end (omega arith) e120 c.of_line-from_112.ensures in
    let e104 = listed-line (drop 104 starts) 104 place rows_end (omega arith) e112 c.of_line-from_104.ensures in
    let e96 = listed-line (drop 96 starts) 96 place rows_end (omega arith) e104 c.of_line-from_96.ensures in
    let e88 = listed-line (drop 88 starts) 88 place rows_end (omega arith) e96 c.of_line-from_88.ensures in
    let e80 = listed-line (drop 80 starts) 80 place rows_end (omega arith) e88 c.of_line-from_80.ensures in
    let e72 = listed-line (drop 72 starts) 72 place rows_end (omega arith) e80 c.of_line-from_72.ensures in
    let e64 = listed-line (drop 64 starts) 64 place rows_end (omega arith) e72 c.of_line-from_64.ensures in
    let e56 = listed-line (drop 56 starts) 56 place rows_end (omega arith) e64 c.of_line-from_56.ensures in
    let e48 = listed-line (drop 48 starts) 48 place rows_end (omega arith) e56 c.of_line-from_48.ensures in
    let e40 = listed-line (drop 40 starts) 40 place rows_end (omega arith) e48 c.of_line-from_40.ensures in
    let e32 = listed-line (drop 32 starts) 32 place rows_end (omega arith) e40 c.of_line-from_32.ensures in
    let e24 = listed-line (drop 24 starts) 24 place rows_end (omega arith) e32 c.of_line-from_24.ensures in
    let e16 = listed-line (drop 16 starts) 16 place rows_end (omega arith) e24 c.of_line-from_16.ensures in
    let e8 = listed-line (drop 8 starts) 8 place rows_end (omega arith) e16 c.of_line-from_8.ensures in
    listed-line starts 0 place rows_end (omega arith) e8 c.of_line.ensures
    ∙ agree_at starts 0 place rows_end starts-checked (omega arith) (omega (arith, below))
    ∙ ap row_start same
