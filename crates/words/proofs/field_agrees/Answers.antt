-- `field_agrees` meets its contract: `Field::from` says what the template's word is, and each arm tests what agrees with a field of that kind.
use Rattle.std.proofs.Common.{◌≡◌, ℕ, refl, sym, ap, ◌∙◌, eqb}
use Rattle.rules.specs.Fields as fields
use Rattle.rules.specs.Fields.{field, agrees_with, field_agrees}
use Rattle.rules.proofs.FieldLaws.{at-least-test, at-most-test, at-most-fits}
use Rattle.words.specs.Kind.{meant}
use Rattle.words.specs.declared.Field.{Field}
use Rattle.words.specs.declared.Field.TheVariants.{Message, Partition, Key, Wildcard, AtLeast, AtMost, Bad}
use Rattle.words.proofs.field_agrees.Goals as goal

-- a template's word that is known to be x agrees as x does
kind-decides : (x : fields.Field) (t f : ℕ) → x ≡ field t → agrees_with x t f ≡ field_agrees t f
unfolding field_agrees
kind-decides x t f e = ap (λ (y : fields.Field). agrees_with y t f) e

-- what is neither the wildcard nor a bound agrees with its own word
others : (x : Field) (t f : ℕ) → (x ≡ Wildcard → ⊥) → ((v : ℕ) → x ≡ AtLeast v → ⊥) → ((v : ℕ) → x ≡ AtMost v → ⊥)
    → agrees_with (meant x) t f ≡ eqb t f
others (Message v) t f w l m = refl
others (Partition c) t f w l m = refl
others (Key k) t f w l m = refl
others Wildcard t f w l m = absurd (w refl)
others (AtLeast v) t f w l m = absurd (l v refl)
others (AtMost v) t f w l m = absurd (m v refl)
others Bad t f w l m = refl

pub returns-in-Wildcard : goal.returns-in-Wildcard
returns-in-Wildcard c = kind-decides _ _ _ c.in-Wildcard.ensures

pub returns-in-AtLeast : goal.returns-in-AtLeast
returns-in-AtLeast c = sym (at-least-test _ _) ∙ kind-decides _ _ _ c.in-AtLeast.ensures

pub returns-in-AtMost : goal.returns-in-AtMost
returns-in-AtMost c =
    let known = c.in-AtMost.ensures in
    sym (at-most-test _ _ (at-most-fits _ _ (sym known))) ∙ kind-decides _ _ _ known

pub returns-in_default : goal.returns-in_default
returns-in_default c =
    sym (others c.from.result _ _ c.in_default.not-Wildcard c.in_default.not-AtLeast c.in_default.not-AtMost) ∙ kind-decides _ _ _ c.from.ensures
