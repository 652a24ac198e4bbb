-- The start of a text: when it is a good one, and what its first line's end tells of it.
use Prim.Native.Nat.{ℕ, ◌≤◌, ◌<◌}
use mathlib.Core.Path.{◌≡◌, refl, sym, ap, ◌∙◌}
use mathlib.Core.Logic.{◌⊎◌, inl, inr, ◌≢◌}
use mathlib.Core.Bool.{Bool, true, false, cond}
use mathlib.Core.List.{List, [], ◌∷◌, ◌++◌}
use mathlib.Core.Option.{Option, none, some}
use native.Mathlib.Omega.{arith}
use borrow.Author.Tests.{eqb-true, ltb-true, ltb-false, lt-ltb, le-ltb}
use lib.Dec.{eqb, ltb}
use lib.ListN.{length}
use Rattle.rules.specs.Claims.{Iff}
use Rattle.rules.proofs.ListLaws.{bool}
use Rattle.numbers.specs.Parts.{before, beyond, parts, same}
use Rattle.numbers.specs.Lines.{lines_after, begun_with, BadStart, Begun}
use Rattle.numbers.proofs.Equal.{same-equal, equal-same}
use Rattle.numbers.proofs.NumbersBack.{free, part_then}

-- where parts lie beyond the first, a separator ends it
ended : (sep : ℕ) (t m : List ℕ) (ms : List (List ℕ)) → beyond sep t ≡ m ∷ ms → (rest : List ℕ) × (t ≡ before sep t ++ (sep ∷ rest))
ended sep [] m ms e = let z : ◌≡◌ {A = ℕ} 0 1 = cc in absurd (omega arith)
ended sep (b ∷ bs) m ms e = go (bool (eqb b sep)) (ended sep bs m ms)
  where
    go : (eqb b sep ≡ true) ⊎ (eqb b sep ≡ false) → (beyond sep bs ≡ m ∷ ms → (rest : List ℕ) × (bs ≡ before sep bs ++ (sep ∷ rest)))
        → (rest : List ℕ) × (b ∷ bs ≡ before sep (b ∷ bs) ++ (sep ∷ rest))
    go (inl h) r = (bs, rw h (ap (λ x. x ∷ bs) (eqb-true b sep h)))
    go (inr h) r = let q = r (rw h at e) in (q.0, rw h (ap (λ t. b ∷ t) q.1))

-- lines after the names line are all but the first
lines-follow : (names : List ℕ) (ps ls : List (List ℕ)) → lines_after names ps ≡ some ls → ps ≡ names ∷ ls
lines-follow names [] ls e = let z : ◌≡◌ {A = ℕ} 0 1 = cc in absurd (omega arith)
lines-follow names (l ∷ []) ls e = let z : ◌≡◌ {A = ℕ} 0 1 = cc in absurd (omega arith)
lines-follow names (l ∷ m ∷ ms) ls e = go (bool (same l names))
  where
    go : (same l names ≡ true) ⊎ (same l names ≡ false) → l ∷ m ∷ ms ≡ names ∷ ls
    go (inl t) = let e' : some (m ∷ ms) ≡ some ls = rw t at e in let q : m ∷ ms ≡ ls = cc in rw (same-equal l names t, q)
    go (inr t) = let e' : none ≡ some ls = rw t at e in let z : ◌≡◌ {A = ℕ} 0 1 = cc in absurd (omega arith)

module _ (most : ℕ) (names text : List ℕ) where
  pub long-start : most < length text → begun_with most names text ≡ none
  unfolding begun_with
  long-start h = rw (lt-ltb most (length text) h)

  short-start : length text ≤ most → begun_with most names text ≡ lines_after names (parts 10 text)
  unfolding begun_with
  short-start h = rw (le-ltb most (length text) h)

  -- the lines are all of the text's but the names line
  pub begun-parts : (ls : List (List ℕ)) → begun_with most names text ≡ some ls → parts 10 text ≡ names ∷ ls
  unfolding begun_with
  begun-parts ls e = go (bool (ltb most (length text)))
    where
      go : (ltb most (length text) ≡ true) ⊎ (ltb most (length text) ≡ false) → parts 10 text ≡ names ∷ ls
      go (inl t) = let e' : none ≡ some ls = rw t at e in let z : ◌≡◌ {A = ℕ} 0 1 = cc in absurd (omega arith)
      go (inr t) = lines-follow names (parts 10 text) ls (rw t at e)

  other-start : ((rest : List ℕ) → text ≢ names ++ (10 ∷ rest)) → begun_with most names text ≡ none
  unfolding begun_with
  other-start h = rw (go (beyond 10 text) refl) (either (ltb most (length text)))
    where
      either : (b : Bool) → ◌≡◌ {A = Option (List (List ℕ))} (cond b none none) none
      either true = refl
      either false = refl

      differs : (m : List ℕ) (ms : List (List ℕ)) → beyond 10 text ≡ m ∷ ms → same (before 10 text) names ≡ false
      differs m ms e = test (bool (same (before 10 text) names))
        where
          test : (same (before 10 text) names ≡ true) ⊎ (same (before 10 text) names ≡ false) → same (before 10 text) names ≡ false
          test (inl t) =
              let q = ended 10 text m ms e in
              absurd (h q.0 (q.1 ∙ ap (λ (l : List ℕ). l ++ (10 ∷ q.0)) (same-equal (before 10 text) names t)))
          test (inr t) = t

      go : (ps : List (List ℕ)) → beyond 10 text ≡ ps → lines_after names (before 10 text ∷ ps) ≡ none
      go [] e = refl
      go (m ∷ ms) e = rw (differs m ms e) refl

  -- ---- a good start and a bad one, where no line feed stands in the names line

  module _ (unbroken : free 10 names ≡ true) where
    pub begun_lines : (rest : List ℕ) → Begun most names text rest → begun_with most names text ≡ some (parts 10 rest)
    begun_lines rest h =
        short-start h.short ∙ ap (lines_after names) (ap (parts 10) h.begins ∙ part_then 10 names rest unbroken) ∙ rw (equal-same names) refl

    pub bad-start : Iff (begun_with most names text ≡ none) (BadStart most names text)
    bad-start = (there, back)
      where
        there : begun_with most names text ≡ none → BadStart most names text
        there e = go (bool (ltb most (length text)))
          where
            no_names : length text ≤ most → (rest : List ℕ) → text ≢ names ++ (10 ∷ rest)
            no_names l rest q =
                let z : none ≡ some (parts 10 rest) = sym e ∙ begun_lines rest (record { short = l; begins = q }) in
                let y : ◌≡◌ {A = ℕ} 0 1 = cc in omega arith

            go : (ltb most (length text) ≡ true) ⊎ (ltb most (length text) ≡ false) → BadStart most names text
            go (inl t) = inl (ltb-true most (length text) t)
            go (inr t) = inr (no_names (ltb-false most (length text) t))

        back : BadStart most names text → begun_with most names text ≡ none
        back (inl l) = long-start l
        back (inr h) = other-start h

  -- ---- by the first line, where the text is no longer than it may be

  module _ (short : length text ≤ most) where
    pub lone-start : parts 10 text ≡ text ∷ [] → begun_with most names text ≡ none
    lone-start e = short-start short ∙ ap (lines_after names) e

    module _ (first rest : List ℕ) (e : parts 10 text ≡ first ∷ parts 10 rest) where
      pub names-found : same first names ≡ true → begun_with most names text ≡ some (parts 10 rest)
      names-found h = short-start short ∙ ap (lines_after names) e ∙ rw h

      pub other-names : same first names ≡ false → begun_with most names text ≡ none
      other-names h = short-start short ∙ ap (lines_after names) e ∙ rw h
