-- At bit c the names of the bits before it are written.
use Rattle.std.proofs.Common.{◌+◌, [], ◌∷◌, ◌++◌, refl, sym, ◌∙◌}
use Rattle.numbers.proofs.Placed.{begun-as, part_room, part-done, finished}
use Rattle.roster_file.specs.Printed.{right_text}
use Rattle.roster_print.specs.Answers.{named}
use Rattle.roster_print.proofs.Texts.{left_as, names_from, all-names, bit-named, bit-passed, no_names}
use Rattle.roster_print.proofs.render_word.Goals as goal
use Rattle.roster_print.proofs.render_word.Goals.{then-has_bit, else-has_bit}

pub loop-c-init : goal.loop-c-init
loop-c-init c = record { len = refl; same_reference = refl; left = begun-as (all-names c.args.party (named c.args.kind) c.args.w) c.requires }

pub render_right-requires : goal.render_right-requires
render_right-requires c =
    let a = c.args in
    let l = c.loop-c in
    part_room (right_text a.party (named a.kind l.c) ++ (10 ∷ [])) (names_from a.party (named a.kind) a.w (l.c + 1))
    (left_as _ _ (bit-named a.party (named a.kind) a.w l.c c.loop-c-test.true (sym c.if-has_bit.ensures)) l.invariant.left)

pub loop-c-preserved : goal.loop-c-preserved
loop-c-preserved c =
    let a = c.args in
    let l = c.loop-c in
    let line = right_text a.party (named a.kind l.c) ++ (10 ∷ []) in
    let rest = names_from a.party (named a.kind) a.w (l.c + 1) in
    elim c.if-has_bit.branch [
      | then-has_bit w ↦ rw w.out-is (record {
        len = w.render_right.ensures.len ∙ l.invariant.len;
        same_reference = w.render_right.ensures.same_reference ∙ l.invariant.same_reference;
        left = part-done line rest
            (left_as _ _ (bit-named a.party (named a.kind) a.w l.c c.loop-c-test.true (sym w.if-has_bit.ensures)) l.invariant.left)
            w.render_right.ensures.written;
      })
      | else-has_bit w ↦ rw w.out-is (record {
        len = l.invariant.len;
        same_reference = l.invariant.same_reference;
        left = left_as _ _ (bit-passed a.party (named a.kind) a.w l.c c.loop-c-test.true (sym w.if-has_bit.ensures)) l.invariant.left;
      })
    ]

pub returns-clause-written : goal.returns-clause-written
returns-clause-written c =
    finished (left_as _ _ (no_names c.args.party (named c.args.kind) c.args.w c.loop-c.c c.loop-c-test.false) c.loop-c.invariant.left)
