-- What is rendered of a field and of a list of fields, by the cases that the code tells apart.
use Prim.Native.Nat.{ℕ, ◌+◌, ◌≤◌, ◌<◌}
use mathlib.Core.Path.{◌≡◌, refl, sym, ap, ◌∙◌, subst}
use mathlib.Core.List.{List, [], ◌∷◌, ◌++◌}
use native.Mathlib.Numerals.{add-one}
use native.Mathlib.Omega.{arith}
use lib.ListN.{length, get_or, drop, drop_of_length-le}
use lib.Seq.{drop-cons}
use Rattle.rules.specs.Fields.{field}
use Rattle.words.specs.Kind.{meant}
use Rattle.words.specs.declared.Field.{Field}
use Rattle.text.specs.Fields.{rendered, render_field, render_more, render_fields}
use Rattle.numbers.specs.Written.{Written}
use Rattle.numbers.proofs.Placed.{Unfinished, part-done, finished}

-- by what the code took the word for
pub render-by : (w : ℕ) (f g : Field) → meant f ≡ field w → f ≡ g → render_field w ≡ rendered (meant g)
unfolding render_field
render-by w f g e h = ap rendered (sym e ∙ ap meant h)

-- ---- lists of fields

pub fields-none : (fs : List ℕ) → length fs ≡ 0 → render_fields fs ≡ 45 ∷ []
unfolding render_fields
fields-none [] h = refl
fields-none (w ∷ ws) h = absurd (omega arith)

pub fields-some : (fs : List ℕ) (w : ℕ) (ws : List ℕ) → fs ≡ w ∷ ws → render_fields fs ≡ render_field w ++ render_more ws
unfolding render_fields
fields-some fs w ws e = rw e

more-next : (fs : List ℕ) (i : ℕ) → i < length fs → render_more (drop i fs) ≡ 44 ∷ (render_field (get_or fs i 0) ++ render_more (drop (i + 1) fs))
more-next fs i h = rw (add-one, drop-cons fs i 0)

pub written-all : (fs : List ℕ) {out₀ whole out : List ℕ} {at₀ at : ℕ} (i : ℕ) → Unfinished out₀ at₀ whole out at (render_more (drop i fs)) → length fs ≤ i
    → Written out₀ at₀ whole out at
written-all fs {out₀} {whole} {out} {at₀} {at} i u h =
    finished (subst (λ (l : List ℕ). Unfinished out₀ at₀ whole out at (render_more l)) (drop_of_length-le fs h) u)

-- at field i of those after the first: they are left to write from it on
module _ (fs : List ℕ) {out₀ whole out : List ℕ} {at₀ at : ℕ} (i : ℕ) (u : Unfinished out₀ at₀ whole out at (render_more (drop i fs))) (h : i < length fs) where
  pub comma-left : Unfinished out₀ at₀ whole out at ((44 ∷ []) ++ (render_field (get_or fs i 0) ++ render_more (drop (i + 1) fs)))
  comma-left = subst (λ (ys : List ℕ). Unfinished out₀ at₀ whole out at ys) (more-next fs i h) u

  pub field-left : {mid : List ℕ} {next : ℕ} → Written out at (44 ∷ []) mid next → Unfinished out₀ at₀ whole mid next (render_field (get_or fs i 0) ++ render_more (drop (i + 1) fs))
  field-left w = part-done (44 ∷ []) _ comma-left w
