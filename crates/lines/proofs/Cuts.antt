-- Items and blanks, cut by cut.
use Rattle.std.proofs.Common.{◌≡◌, refl, sym, ap, ◌∙◌, ◌⊎◌, inl, inr, Bool, true, false, true≢false, eqb, ℕ, suc, List, [], ◌∷◌, ◌++◌, arith, ◌<◌}
use Rattle.std.specs.List.{list_any}
use Rattle.rules.proofs.ListLaws.{bool}
use Rattle.numbers.specs.Parts.{before}
use Rattle.lines.specs.Lines.{past_blank, blanks}

-- ---- a text whose first item ends at a blank, and what stands after that

cut_at : (first rest : List ℕ) → before 32 (first ++ (32 ∷ rest)) ≡ first
    → (past_blank (first ++ (32 ∷ rest)) ≡ rest) × (blanks (first ++ (32 ∷ rest)) ≡ suc (blanks rest))
cut_at [] rest e = (refl, refl)
cut_at (b ∷ first) rest e = go (bool (eqb b 32)) (cut_at first rest)
  where
    go : (eqb b 32 ≡ true) ⊎ (eqb b 32 ≡ false)
        → (before 32 (first ++ (32 ∷ rest)) ≡ first → (past_blank (first ++ (32 ∷ rest)) ≡ rest) × (blanks (first ++ (32 ∷ rest)) ≡ suc (blanks rest)))
        → (past_blank (b ∷ (first ++ (32 ∷ rest))) ≡ rest) × (blanks (b ∷ (first ++ (32 ∷ rest))) ≡ suc (blanks rest))
    go (inl h) later = let r : [] ≡ b ∷ first = rw h at e in let z : ◌≡◌ {A = ℕ} 0 1 = cc in absurd (omega arith)
    go (inr h) later = let r : b ∷ before 32 (first ++ (32 ∷ rest)) ≡ b ∷ first = rw h at e in rw h (later cc)

pub past_cut : (first rest : List ℕ) → before 32 (first ++ (32 ∷ rest)) ≡ first → past_blank (first ++ (32 ∷ rest)) ≡ rest
past_cut first rest e = (cut_at first rest e).0

pub blanks_cut : (first rest : List ℕ) → before 32 (first ++ (32 ∷ rest)) ≡ first → blanks (first ++ (32 ∷ rest)) ≡ suc (blanks rest)
blanks_cut first rest e = (cut_at first rest e).1

-- ---- no blank

pub one_item : (text : List ℕ) → before 32 text ≡ text → blanks text ≡ 0
one_item [] e = refl
one_item (b ∷ text) e = go (bool (eqb b 32)) (one_item text)
  where
    go : (eqb b 32 ≡ true) ⊎ (eqb b 32 ≡ false) → (before 32 text ≡ text → blanks text ≡ 0) → blanks (b ∷ text) ≡ 0
    go (inl h) later = let r : [] ≡ b ∷ text = rw h at e in let z : ◌≡◌ {A = ℕ} 0 1 = cc in absurd (omega arith)
    go (inr h) later = let r : b ∷ before 32 text ≡ b ∷ text = rw h at e in rw h (later cc)

some_blank : (text : List ℕ) → list_any (λ y. eqb y 32) text ≡ true → 0 < blanks text
some_blank [] e = absurd (true≢false (sym e))
some_blank (b ∷ text) e = go (bool (eqb b 32)) (some_blank text)
  where
    go : (eqb b 32 ≡ true) ⊎ (eqb b 32 ≡ false) → (list_any (λ y. eqb y 32) text ≡ true → 0 < blanks text) → 0 < blanks (b ∷ text)
    go (inl h) later = rw h (omega arith)
    go (inr h) later = let r : list_any (λ y. eqb y 32) text ≡ true = rw h at e in rw h (later r)

no_blank : (text : List ℕ) → list_any (λ y. eqb y 32) text ≡ false → before 32 text ≡ text
no_blank [] e = refl
no_blank (b ∷ text) e = go (bool (eqb b 32)) (no_blank text)
  where
    go : (eqb b 32 ≡ true) ⊎ (eqb b 32 ≡ false) → (list_any (λ y. eqb y 32) text ≡ false → before 32 text ≡ text) → before 32 (b ∷ text) ≡ b ∷ text
    go (inl h) later = let r : true ≡ false = rw h at e in absurd (true≢false r)
    go (inr h) later = let r : list_any (λ y. eqb y 32) text ≡ false = rw h at e in rw h (ap (λ (l : List ℕ). b ∷ l) (later r))

-- as `contains` answers
module _ (text : List ℕ) (b : Bool) (e : b ≡ list_any (λ y. eqb y 32) text) where
  pub more_items : b ≡ true → 0 < blanks text
  more_items t = some_blank text (sym e ∙ t)

  pub last_item : b ≡ false → before 32 text ≡ text
  last_item t = no_blank text (sym e ∙ t)
