-- The words that are kept come to what all pairs come to: 65 pairs are refused as more of them are, and a capped party as every one
-- above 7 is.
use Prim.Native.Nat.{ℕ, ◌+◌, ◌*◌, ◌≤◌}
use mathlib.Core.Path.{◌≡◌, refl, ap, ap₂, ◌∙◌}
use mathlib.Core.Logic.{◌⊎◌, inl, inr}
use mathlib.Core.Bool.{Bool, true, false, ◌||◌, cond}
use mathlib.Core.List.{[], ◌∷◌, map}
use mathlib.Core.Option.{some}
use native.Mathlib.Omega.{arith}
use borrow.Author.Tests.{le-leb, leb-false, lt-ltb, ltb-true, ltb-false}
use lib.Dec.{leb, ltb}
use lib.ListN.{length, take, length-map}
use lib.Seq.{length-take-le, take_all}
use Rattle.rules.specs.Lists.{any}
use Rattle.rules.proofs.ListLaws.{bool, or_left, or_right}
use Rattle.start_order.specs.Pairs.{Pairs, pair_of, precedes}
use Rattle.start_order.specs.Call.{Outcome, settled, above7, decided, start_order}
use Rattle.order_file.specs.Answers.{capped, word_of, kept_of}
use Rattle.order_file.proofs.Pairs.{capped_le}

-- ---- a pair's word

halves : (a b : ℕ) → b ≤ 8 → pair_of (a * 4294967296 + b) ≡ (a, b)
halves a b h = ap₂ (λ (x y : ℕ). (x, y)) (omega arith) (omega arith)

pair-back : (p : ℕ × ℕ) → pair_of (word_of p) ≡ (capped p.0, capped p.1)
pair-back p = halves (capped p.0) (capped p.1) (capped_le p.1)

capped_same : (a : ℕ) → a ≤ 7 → capped a ≡ a
capped_same a h = rw (le-leb a 7 h)

capped-above : (a : ℕ) → ltb 7 (capped a) ≡ ltb 7 a
capped-above a = go (bool (leb a 7))
  where
    go : (leb a 7 ≡ true) ⊎ (leb a 7 ≡ false) → ltb 7 (capped a) ≡ ltb 7 a
    go (inl e) = rw e
    go (inr e) = let l = leb-false a 7 e in rw (e, lt-ltb 7 a l)

-- ---- the pairs of the words

abbrev back : Pairs → Pairs
back ps = map pair_of (map word_of ps)

above-back : (ps : Pairs) → any above7 (back ps) ≡ any above7 ps
above-back [] = refl
above-back (p ∷ ps) = ap₂ ◌||◌ (ap above7 (pair-back p) ∙ ap₂ ◌||◌ (capped-above p.0) (capped-above p.1)) (above-back ps)

-- where no party is above 7 they are the pairs themselves
same_back : (ps : Pairs) → any above7 ps ≡ false → back ps ≡ ps
same_back [] e = refl
same_back (p ∷ ps) e =
    let here : above7 p ≡ false = or_left (above7 p) (any above7 ps) e in
    let a : capped p.0 ≡ p.0 = capped_same p.0 (ltb-false 7 p.0 (or_left (ltb 7 p.0) (ltb 7 p.1) here)) in
    let b : capped p.1 ≡ p.1 = capped_same p.1 (ltb-false 7 p.1 (or_right (ltb 7 p.0) (ltb 7 p.1) here)) in
    ap₂ ◌∷◌ (pair-back p ∙ ap₂ (λ (x y : ℕ). (x, y)) a b) (same_back ps (or_right (above7 p) (any above7 ps) e))

-- ---- what they come to

length_back : (ps : Pairs) → length (back ps) ≡ length ps
length_back ps = length-map (map word_of ps) pair_of ∙ length-map ps word_of

-- by 15 or by 16, whatever would come else
refused-alike : (t : Bool) (a b : Outcome) → decided (cond t (some 15) (some 16)) a ≡ decided (cond t (some 15) (some 16)) b
refused-alike true a b = refl
refused-alike false a b = refl

back-comes : (ps : Pairs) (lent : ℕ) → start_order (back ps) lent ≡ start_order ps lent
unfolding start_order
back-comes ps lent = go (bool (any above7 ps))
  where
    go : (any above7 ps ≡ true) ⊎ (any above7 ps ≡ false) → start_order (back ps) lent ≡ start_order ps lent
    go (inl e) =
        rw (length_back ps, above-back ps, e) (refused-alike (ltb 64 (length ps) || ltb lent 8) (settled (precedes (back ps))) (settled (precedes ps)))
    go (inr e) = ap (λ (qs : Pairs). start_order qs lent) (same_back ps e)

pub kept-comes : (ps : Pairs) → start_order (map pair_of (kept_of ps)) 8 ≡ start_order ps 8
unfolding start_order
kept-comes ps = go (bool (ltb 64 (length ps)))
  where
    go : (ltb 64 (length ps) ≡ true) ⊎ (ltb 64 (length ps) ≡ false) → start_order (back (take 65 ps)) 8 ≡ start_order ps 8
    go (inl e) =
        let l = ltb-true 64 (length ps) e in
        let n : length (back (take 65 ps)) ≡ 65 = length_back (take 65 ps) ∙ length-take-le 65 ps l in
        rw (n, e)
    go (inr e) =
        let l = ltb-false 64 (length ps) e in
        let whole : take 65 ps ≡ ps = take_all 65 ps (omega arith) in
        rw whole (back-comes ps 8)
