-- By the kind: the letter and a blank, and then the number.
use Rattle.std.proofs.Common.{[], ◌∷◌, ◌++◌, ap}
use Rattle.numbers.specs.Numbers.{decimal, decimal_key, key_of}
use Rattle.numbers.proofs.Placed.{begun-as, part-done}
use Rattle.roster_file.specs.Printed.{name_text}
use Rattle.roster_print.specs.Answers.{named}
use Rattle.roster_print.specs.declared.Kind.{Kind}
use Rattle.roster_print.proofs.render_name.Goals as goal

pub returns-in-Partition-clause-written : goal.returns-in-Partition-clause-written
returns-in-Partition-clause-written c =
    let text = begun-as {ys = (112 ∷ 32 ∷ []) ++ decimal c.args.c} (ap (λ (k : Kind). name_text (named k c.args.c)) c.in-Partition.is) c.requires in
    (part-done (112 ∷ 32 ∷ []) (decimal c.args.c) text c.place.ensures.written).completes _ _ c.decimal.ensures.written

pub returns-in-Key-clause-written : goal.returns-in-Key-clause-written
returns-in-Key-clause-written c =
    let number = decimal_key (key_of c.args.c) in
    let text = begun-as {ys = (107 ∷ 32 ∷ []) ++ number} (ap (λ (k : Kind). name_text (named k c.args.c)) c.in-Key.is) c.requires in
    (part-done (107 ∷ 32 ∷ []) number text c.place-in-Key.ensures.written).completes _ _ c.key.ensures.written
