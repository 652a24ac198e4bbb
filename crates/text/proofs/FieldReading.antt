-- A field by its first byte.
use Prim.Native.Nat.{ℕ}
use mathlib.Core.Path.{◌≡◌, refl, ap, ◌∙◌}
use mathlib.Core.List.{List, [], ◌∷◌}
use mathlib.Core.Option.{none, some}
use native.Mathlib.Omega.{arith}
use borrow.Author.Tests.{ne_eqb}
use lib.ListN.{length}
use Rattle.text.specs.Fields.{read_field}

pub no_byte : (t : List ℕ) → length t ≡ 0 → read_field t ≡ none
unfolding read_field
no_byte [] h = refl
no_byte (b ∷ bs) h = absurd (omega arith)

alone : (bs : List ℕ) → length bs ≡ 0 → read_field (42 ∷ bs) ≡ some 12884901888
unfolding read_field
alone [] l = refl
alone (c ∷ cs) l = absurd (omega arith)

more : (bs : List ℕ) → (length bs ≡ 0 → ⊥) → read_field (42 ∷ bs) ≡ none
unfolding read_field
more [] l = absurd (l refl)
more (c ∷ cs) l = refl

module _ {t : List ℕ} {b : ℕ} {bs : List ℕ} (e : t ≡ b ∷ bs) where
  -- the text as a byte that is known and the rest
  pub by_first : {k : ℕ} → b ≡ k → read_field t ≡ read_field (k ∷ bs)
  by_first h = ap read_field (e ∙ ap (λ (x : ℕ). x ∷ bs) h)

  pub wildcard-alone : b ≡ 42 → length bs ≡ 0 → read_field t ≡ some 12884901888
  wildcard-alone h l = by_first h ∙ alone bs l

  pub wildcard-more : b ≡ 42 → (length bs ≡ 0 → ⊥) → read_field t ≡ none
  wildcard-more h l = by_first h ∙ more bs l

  pub other-first : (b ≡ 109 → ⊥) → (b ≡ 112 → ⊥) → (b ≡ 107 → ⊥) → (b ≡ 42 → ⊥) → (b ≡ 103 → ⊥) → (b ≡ 108 → ⊥) → read_field t ≡ none
  unfolding read_field
  other-first m p k w g l = by_first refl ∙ rw (ne_eqb b 109 m, ne_eqb b 112 p, ne_eqb b 107 k, ne_eqb b 42 w, ne_eqb b 103 g, ne_eqb b 108 l)
