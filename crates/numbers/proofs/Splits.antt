-- The parts of a text, one by one as `split` gives them.
use Prim.Native.Nat.{ℕ}
use mathlib.Core.Path.{◌≡◌, refl, sym, subst, ap, ◌∙◌}
use mathlib.Core.Bool.{Bool, true, false, cond}
use mathlib.Core.List.{List, [], ◌∷◌}
use denote.Param.Members.{Mut}
use denote.Ref.{Bor}
use lib.Dec.{eqb}
use Rattle.std.specs.Prelude.{Option, Some, None}
use Rattle.std.specs.Fn.{CalledAt}
use Rattle.std.specs.List.{slice_split, onto_first}
use Rattle.std.specs.Slice.Iter.{split_rest, split_done, split_callee, split_steps}
use Rattle.std.proofs.lemmas.Iterator.{YieldsList}
use Rattle.std.proofs.lemmas.Iterator.Splits.{YieldsList-from_slice_split}
use Rattle.numbers.specs.Parts.{before, beyond, parts}

parts-split : (sep : ℕ) (t : List ℕ) → slice_split (λ b. eqb b sep) t ≡ parts sep t
parts-split sep [] = refl
parts-split sep (b ∷ bs) = ap (λ (ps : List (List ℕ)). cond (eqb b sep) ([] ∷ ps) (onto_first b ps)) (parts-split sep bs) ∙ go (eqb b sep)
  where
    go : (q : Bool) → cond q ([] ∷ parts sep bs) ((b ∷ before sep bs) ∷ beyond sep bs) ≡ cond q [] (b ∷ before sep bs) ∷ cond q (parts sep bs) (beyond sep bs)
    go true = refl
    go false = refl

-- the last four facts are the call's clauses `rest`, `done` and `closure`, and what its closure tests
pub split-parts : {F : Type 0} {s : _} (g : Mut F (Bor ℕ × Unit {0}) Bool) (sep : ℕ) {f : F} (text : List ℕ) → split_rest s ≡ text → split_done s ≡ false → split_callee s ≡ f
    → ((x : ℕ) (b : Bool) (q : F) → CalledAt g f x b q → (q ≡ f) × (b ≡ eqb x sep)) → YieldsList (split_steps g) (λ x. x.now) s (parts sep text)
split-parts {s = s} g sep text rest done closure tests =
    subst (YieldsList (split_steps g) (λ x. x.now) s) (parts-split sep text) (YieldsList-from_slice_split g (λ b. eqb b sep) text rest done closure tests)

module _ {S A B : Type 0} {steps : S → Option A → S → Type 0} {v : A → B} {s t : S} where
  -- an item comes: it is the first of those that are left
  pub item-first : {ys : List B} {x : A} → YieldsList steps v s ys → steps s (Some x) t → (zs : List B) × (ys ≡ v x ∷ zs) × YieldsList steps v t zs
  item-first {ys} {x} h k = go ys h
    where
      go : (ys : List B) → YieldsList steps v s ys → (zs : List B) × (ys ≡ v x ∷ zs) × YieldsList steps v t zs
      go [] h = absurd (h.runs x t k)
      go (y ∷ ys) h = let n = h.runs.1 x t k in (ys, ap (λ (z : B). z ∷ ys) (sym n.0), record { runs = n.1 })

  pub none-left : {ys : List B} → YieldsList steps v s ys → steps s None t → ys ≡ []
  none-left {ys} h k = go ys h
    where
      go : (ys : List B) → YieldsList steps v s ys → ys ≡ []
      go [] h = refl
      go (y ∷ ys) h = absurd (h.runs.0 t k)
