-- A test of every word of a list, as a loop has it that leaves at the first word that fails: what is left to test decides.
use Prim.Native.Nat.{ℕ, ◌+◌, ◌≤◌, ◌<◌}
use mathlib.Core.Path.{◌≡◌, refl, sym, ap, ◌∙◌}
use mathlib.Core.Bool.{Bool, true, false, not, ◌&&◌, and_assoc}
use mathlib.Core.List.{List, [], ◌∷◌, ◌++◌, map}
use native.Mathlib.Numerals.{add-one}
use borrow.Author.Tests.{not-true, not-false}
use lib.ListN.{length, get_or, drop, drop_of_length-le}
use lib.Seq.{drop-cons}
use Rattle.rules.specs.Lists.{all}
use Rattle.rules.specs.Names.{Name}
use Rattle.rules.specs.Fields.{field, name_in, names_in}

module _ (p : ℕ → Bool) (l : List ℕ) (i : ℕ) where
  -- what is left at i is the word there and what is left at i + 1
  pub all-next : i < length l → all p (drop i l) ≡ (p (get_or l i 0) && all p (drop (i + 1) l))
  all-next h = rw (add-one, drop-cons l i 0)

  pub all_end : length l ≤ i → all p (drop i l) ≡ true
  all_end h = rw (drop_of_length-le l h)

-- a turn of the loop; at i what is left decides the whole, and b is the test of word i
module _ (p : ℕ → Bool) (l : List ℕ) (i : ℕ) (whole : Bool) (left : all p (drop i l) ≡ whole) where
  pub all-fails : i < length l → (b : Bool) → b ≡ p (get_or l i 0) → not b ≡ true → false ≡ whole
  all-fails h b e n = sym (all-next p l i h ∙ rw (sym e ∙ not-true b n) refl) ∙ left

  pub all-goes-on : i < length l → (b : Bool) → b ≡ p (get_or l i 0) → not b ≡ false → all p (drop (i + 1) l) ≡ whole
  all-goes-on h b e n = sym (all-next p l i h ∙ rw (sym e ∙ not-false b n) refl) ∙ left

  pub all-ends : length l ≤ i → true ≡ whole
  all-ends h = sym (all_end p l i h) ∙ left

pub all_append : {A : Type 0} (p : A → Bool) (l r : List A) → all p (l ++ r) ≡ (all p l && all p r)
all_append p [] r = refl
all_append p (x ∷ l) r = ap (λ (b : Bool). p x && b) (all_append p l r) ∙ sym (and_assoc (p x) (all p l) (all p r))

pub all-mapped : {A B : Type 0} (p : B → Bool) (f : A → B) (l : List A) → all p (map f l) ≡ all (λ x. p (f x)) l
all-mapped p f [] = refl
all-mapped p f (x ∷ l) = ap (λ (b : Bool). p (f x) && b) (all-mapped p f l)

-- the names in fields, field by field
pub all-names : (p : Name → Bool) (ws : List ℕ) → all p (names_in ws) ≡ all (λ w. all p (name_in (field w))) ws
all-names p [] = refl
all-names p (w ∷ ws) =
    all_append p (name_in (field w)) (names_in ws) ∙ ap (λ (b : Bool). all p (name_in (field w)) && b) (all-names p ws)
