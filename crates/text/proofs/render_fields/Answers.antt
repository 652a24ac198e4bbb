-- After the first field, each turn writes a comma and a field; what is written from there on completes the list.
use Rattle.std.proofs.Common.{[], ◌∷◌, ◌∙◌}
use Rattle.numbers.proofs.Placed.{begun-as, part_room, part-done}
use Rattle.text.specs.Fields.{render_field}
use Rattle.text.proofs.Rendering.{fields-none, fields-some, comma-left, field-left, written-all}
use Rattle.text.proofs.render_fields.Goals as goal

pub place-requires : goal.place-requires
place-requires c = part_room (45 ∷ []) [] (begun-as (fields-none _ c.in_default.ensures.cases) c.requires)

pub returns-in_default-clause-written : goal.returns-in_default-clause-written
returns-in_default-clause-written c = (begun-as (fields-none _ c.in_default.ensures.cases) c.requires).completes _ _ c.place.ensures.written

pub render_field-requires : goal.render_field-requires
render_field-requires c = part_room (render_field c.in-Some.first.now) _ (begun-as (fields-some _ _ _ c.in-Some.ensures.cases.0) c.requires)

pub loop-w-init : goal.loop-w-init
loop-w-init c = record {
  left = part-done (render_field c.in-Some.first.now) _ (begun-as (fields-some _ _ _ c.in-Some.ensures.cases.0) c.requires) c.render_field.ensures.written;
  len = c.render_field.ensures.len;
  same_reference = c.render_field.ensures.same_reference;
}

pub place-requires-in-loop-w : goal.place-requires-in-loop-w
place-requires-in-loop-w c = part_room (44 ∷ []) _ (comma-left c.in-Some.others.now c.loop-w.w-index c.loop-w.invariant.left c.loop-w-test.true)

pub render_field-requires-in-loop-w : goal.render_field-requires-in-loop-w
render_field-requires-in-loop-w c =
    part_room (render_field _) _ (field-left c.in-Some.others.now c.loop-w.w-index c.loop-w.invariant.left c.loop-w-test.true c.place-in-loop-w.ensures.written)

pub loop-w-preserved : goal.loop-w-preserved
loop-w-preserved c = record {
  left = part-done (render_field _) _
      (field-left c.in-Some.others.now c.loop-w.w-index c.loop-w.invariant.left c.loop-w-test.true c.place-in-loop-w.ensures.written)
      c.render_field-in-loop-w.ensures.written;
  len = c.render_field-in-loop-w.ensures.len ∙ c.place-in-loop-w.ensures.len ∙ c.loop-w.invariant.len;
  same_reference = c.render_field-in-loop-w.ensures.same_reference ∙ c.place-in-loop-w.ensures.same_reference ∙ c.loop-w.invariant.same_reference;
}

pub returns-clause-written : goal.returns-clause-written
returns-clause-written c = written-all _ _ c.loop-w.invariant.left c.loop-w-test.false
