-- `search` meets its contract: at a row no older entry has matched, and at a field those before it agree.
use Rattle.std.proofs.Common.{◌≡◌, ◌≤◌, ◌<◌, true, false, length, get_or, arith, refl, sym, ◌∙◌}
use Rattle.rules.proofs.ListLaws.{all_true, All-at}
use Rattle.rules.proofs.Back.{sound-facts, decode-len}
use Rattle.words.specs.Kind.{plain}
use Rattle.search.proofs.Places.{past-none, hit, miss, over}
use Rattle.search.proofs.LiveRows.{head-len, live-row, small-on, offset-le, count-on, match-on, fields-on, fields-end}
use Rattle.search.proofs.search.Goals as goal
use Rattle.search.proofs.search.Goals.{then-pair_agrees+else-i-count+then-not-agrees, else-pair_agrees, else-rows-test, then-rows-test+then-pair_agrees+then-i-count}

pub rows-init : goal.rows-init
rows-init c =
    let f = sound-facts _ c.requires.0 in
    record { size = f.len; few = omega (arith, f.count); bound = omega arith; older = past-none _ }

pub pair_agrees-requires : goal.pair_agrees-requires
pair_agrees-requires c =
    let row = live-row _ _ c.start-at.ensures c.requires.0 (omega arith) in
    let pair = c.pair_of-pair.ensures in
    (head-len c.args.space.now c.start-at.result (omega arith), offset-le c.args.op _ pair, small-on row c.args.op _ pair)

pub fields-init : goal.fields-init
fields-init c =
    let row = live-row _ _ c.start-at.ensures c.requires.0 (omega arith) in
    let bound = offset-le c.args.op _ c.pair_of-pair.ensures in
    record {
      live = row;
      same = count-on row _ _ _ _ _ bound c.pair_agrees.ensures c.if-pair_agrees.true;
      bound = omega arith;
      rest = refl;
    }

pub agrees-requires : goal.agrees-requires
agrees-requires c =
    let template = c.args.template.now in
    λ q. All-at (λ t. plain t ≡ true) template (all_true plain template (c.requires.3 q)) _ (omega arith)

pub fields-preserved : goal.fields-preserved
fields-preserved c =
    let inv = c.fields.invariant in
    let within : c.fields.i < length c.args.template.now = omega arith in
    record {
      live = inv.live;
      same = inv.same;
      bound = omega arith;
      rest = inv.rest ∙ fields-on inv.live _ _ _ true within inv.same c.agrees.ensures c.if-not-agrees.false;
    }

pub rows-preserved : goal.rows-preserved
rows-preserved c =
    let inv = c.rows.invariant in
    let row = live-row _ _ c.start-at.ensures c.requires.0 (omega arith) in
    record {
      size = inv.size;
      few = inv.few;
      bound = omega arith;
      older =
          inv.older
          ∙ miss _ _ _ _ _ row.split
          (elim c.if-pair_agrees.branch [
            | then-pair_agrees+else-i-count+then-not-agrees w ↦
                (let at = w.fields.invariant in
                let within : w.fields.i < length c.args.template.now = omega arith in
                match-on row c.args.op _ _ _ _ _ true false c.pair_of-pair.ensures c.requires.1 c.pair_agrees.ensures w.if-pair_agrees.true
                (at.rest ∙ fields-on at.live _ _ _ false within at.same w.agrees.ensures w.if-not-agrees.true))
            | else-pair_agrees w ↦
                match-on row c.args.op _ _ _ _ _ false _ c.pair_of-pair.ensures c.requires.1 c.pair_agrees.ensures w.if-pair_agrees.false refl
          ]);
    }

pub returns-then-row-live : goal.returns-then-row-live
returns-then-row-live c =
    elim c.rows-test.branch [
      | else-rows-test w ↦ absurd (omega arith)
      | then-rows-test+then-pair_agrees+then-i-count w ↦
          (let at = w.fields.invariant in
          let end : length c.args.template.now ≤ w.fields.i = omega arith in
          sym
          (c.rows.invariant.older
          ∙ hit _ _ _ _ _ at.live.split
          (match-on at.live c.args.op _ _ _ c.args.template.now _ true true c.pair_of-pair.ensures c.requires.1 w.pair_agrees.ensures w.if-pair_agrees.true
          (at.rest ∙ fields-end _ _ _ end))))
    ]

pub returns-else-row-live : goal.returns-else-row-live
returns-else-row-live c =
    let end : get_or c.args.space.now 0 0 ≤ c.rows.row = omega arith in
    sym (c.rows.invariant.older ∙ over _ _ _ _ (decode-len _) end)
