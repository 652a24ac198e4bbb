-- `fields_ok` meets its contract: a template may carry what is plain.
use Rattle.std.proofs.Common.{◌≡◌, ℕ, sym, ◌∙◌, true}
use Rattle.rules.specs.Fields.{field, template_field}
use Rattle.rules.proofs.FieldLaws.{data-carried}
use Rattle.rules.proofs.ListLaws.{all-implied, not-false}
use Rattle.words.specs.Kind.{plain}
use Rattle.refusals.proofs.fields_ok.Goals as goal

carried : (w : ℕ) → plain w ≡ true → template_field w ≡ true
unfolding plain template_field
carried w h = data-carried (field w) h

pub returns-then-not-bounded : goal.returns-then-not-bounded
returns-then-not-bounded c =
    let plain_all = not-false _ (sym c.requires ∙ c.if-not-bounded.true) in
    rw c.if-not-bounded.true (sym (all-implied plain template_field carried c.args.template.now plain_all))
