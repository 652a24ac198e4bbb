-- Orders: what the eight places are, that none is an order where there is a circle, and that any other comes later in a dictionary.
use Prim.Native.Nat.{ℕ, zero, suc, ◌+◌, ◌≤◌, ◌<◌}
use mathlib.Core.Path.{◌≡◌, refl, sym, ap, ◌∙◌, subst}
use mathlib.Core.Logic.{◌⊎◌, inl, inr}
use mathlib.Core.Bool.{Bool, true, false, not, cond}
use mathlib.Core.Option.{some}
use mathlib.Core.List.{List, [], ◌∷◌, ◌++◌, append-nil, append_assoc}
use native.Mathlib.Decide.{ℕ_discrete, dec_lt}
use native.Mathlib.Omega.{arith}
use borrow.Author.Tests.{not-true, eq-eqb, lt-ltb, ltb-true}
use lib.Dec.{eqb, ltb}
use lib.ListN.{length}
use Rattle.rules.specs.Lists.{all, keep, In}
use Rattle.rules.specs.Names.{parties}
use Rattle.rules.proofs.ListLaws.{bool, clash, and_left, and_right, all_true, all_of}
use Rattle.rules.proofs.Members.{in-keep, keep-in, in-from, All-in, All-at-in, in_left}
use Rattle.start_order.specs.Pairs.{Pairs, precedes}
use Rattle.start_order.specs.Order.{ready, next, is_in, order}
use Rattle.start_order.specs.Claims.{Chain, Circle, times, EachOnce, IsOrder, MayStand, DictionaryFirst}
use Rattle.start_order.proofs.Pairs.{in-precedes, precedes-in, InRange}
use Rattle.start_order.proofs.Chains.{begins}
use Rattle.start_order.proofs.Places.{is_in-in, in-is_in, not-is_in, next-smallest, Follows, follows, at_place, once, parties-only, times_none}
use Rattle.start_order.proofs.Circles.{all_placed}

-- ---- lists

times-append : (p : ℕ) (xs ys : List ℕ) → times p (xs ++ ys) ≡ times p xs + times p ys
times-append p [] ys = omega arith
times-append p (x ∷ xs) ys = go (eqb x p) (times-append p xs ys)
  where
    go : (b : Bool) → times p (xs ++ ys) ≡ times p xs + times p ys
        → cond b (suc (times p (xs ++ ys))) (times p (xs ++ ys)) ≡ cond b (suc (times p xs)) (times p xs) + times p ys
    go true e = omega arith
    go false e = e

times-in : (p : ℕ) (xs : List ℕ) → In p xs → 1 ≤ times p xs
times-in p [] i = absurd i
times-in p (x ∷ xs) (inl e) = rw (eq-eqb x p e) (omega arith)
times-in p (x ∷ xs) (inr i) = go (eqb x p) (times-in p xs i)
  where
    go : (b : Bool) → 1 ≤ times p xs → 1 ≤ cond b (suc (times p xs)) (times p xs)
    go true l = omega arith
    go false l = l

in-times : (p : ℕ) (xs : List ℕ) → times p xs ≡ 1 → In p xs
in-times p xs e = go (bool (is_in xs p))
  where
    go : (is_in xs p ≡ true) ⊎ (is_in xs p ≡ false) → In p xs
    go (inl t) = is_in-in xs p t
    go (inr f) = let z : times p xs ≡ 0 = times_none p xs (λ i. clash (is_in xs p) (in-is_in xs p i) f) in absurd (omega arith)

-- an element, what stands before it and what after it
record Split (p : ℕ) (l : List ℕ) : Type 0 where
  left : List ℕ
  right : List ℕ
  whole : l ≡ left ++ (p ∷ right)

split : (p : ℕ) (l : List ℕ) → In p l → Split p l
split p [] i = absurd i
split p (x ∷ l) (inl e) = record { left = []; right = l; whole = ap (λ (y : ℕ). y ∷ l) e }
split p (x ∷ l) (inr i) = let s = split p l i in record { left = x ∷ s.left; right = s.right; whole = ap (λ (m : List ℕ). x ∷ m) s.whole }

-- ---- who may stand

module _ (ps : Pairs) (range : InRange ps) (xs : List ℕ) (p : ℕ) where
  pub may-stand : p < 8 → ready (precedes ps) (is_in xs) p ≡ true → MayStand ps xs p
  unfolding ready
  may-stand l h =
      let t : not (is_in xs p) ≡ true = and_left (not (is_in xs p)) (all (is_in xs) (keep (λ a. precedes ps a p) parties)) h in
      record { party = l; unplaced = λ i. clash (is_in xs p) (in-is_in xs p i) (not-true (is_in xs p) t); predecessors = placed }
    where
      placed : (a : ℕ) → In (a, p) ps → In a xs
      placed a i =
          let k : In a (keep (λ a. precedes ps a p) parties) =
          in-keep (λ a. precedes ps a p) a parties (in-from a 0 8 (omega arith) (range a p i).0) (in-precedes ps a p i) in
          let h' = and_right (not (is_in xs p)) (all (is_in xs) (keep (λ a. precedes ps a p) parties)) h in
          is_in-in xs a (All-at-in (λ a. is_in xs a ≡ true) a (keep (λ a. precedes ps a p) parties) (all_true (is_in xs) (keep (λ a. precedes ps a p) parties) h') k)

  pub stands-ready : MayStand ps xs p → ready (precedes ps) (is_in xs) p ≡ true
  unfolding ready
  stands-ready m =
      rw (not-is_in xs p m.unplaced, all_of (is_in xs) (keep (λ a. precedes ps a p) parties) (All-in (λ a. is_in xs a ≡ true) (keep (λ a. precedes ps a p) parties) placed)) refl
    where
      placed : (a : ℕ) → In a (keep (λ a. precedes ps a p) parties) → is_in xs a ≡ true
      placed a i = in-is_in xs a (m.predecessors a (precedes-in ps a p (keep-in (λ a. precedes ps a p) a parties i).1))

module _ (ps : Pairs) (range : InRange ps) where
  -- who is next may stand there, and is the smallest that may
  pub next-stands : (xs : List ℕ) (p : ℕ) → next (precedes ps) (is_in xs) ≡ some p → MayStand ps xs p × ((q : ℕ) → MayStand ps xs q → p ≤ q)
  next-stands xs p e =
      let s = next-smallest (precedes ps) (is_in xs) p e in
      (may-stand ps range xs p s.below s.passes, λ q m. s.least q (omega arith) m.party (stands-ready ps range xs q m))

  -- ---- the eight places

  pub placed-next : (xs ys : List ℕ) (p : ℕ) → order (precedes ps) ≡ xs ++ (p ∷ ys) → next (precedes ps) (is_in xs) ≡ some p
  placed-next xs ys p e = at_place (precedes ps) [] xs ys p (subst (λ (l : List ℕ). Follows (precedes ps) [] l) e (follows (precedes ps) 8 []))

  pub is-order : length (order (precedes ps)) ≡ 8 → IsOrder ps (order (precedes ps))
  is-order e = record { each = each; respects = λ xs ys a b h i. (next-stands xs b (placed-next xs ys b h)).0.predecessors a i }
    where
      f : Follows (precedes ps) [] (order (precedes ps))
      f = follows (precedes ps) 8 []

      each : EachOnce (order (precedes ps))
      each p = go (bool (ltb p 8))
        where
          go : (ltb p 8 ≡ true) ⊎ (ltb p 8 ≡ false) → times p (order (precedes ps)) ≡ cond (ltb p 8) 1 0
          go (inl t) = rw t (once (precedes ps) [] (order (precedes ps)) p f refl (all_placed (precedes ps) e p (ltb-true p 8 t)))
          go (inr u) = rw u (times_none p (order (precedes ps)) (λ i. clash (ltb p 8) (lt-ltb p 8 (parties-only (precedes ps) [] (order (precedes ps)) p f i)) u))

  -- ---- with a circle there is no order

  module _ (ws : List ℕ) (o : IsOrder ps ws) where
    before-it : (n a b : ℕ) → Chain ps n a b → (xs ys : List ℕ) → ws ≡ xs ++ (b ∷ ys) → In a xs
    before-it zero a b i xs ys e = o.respects xs ys a b e i
    before-it (suc n) a b h xs ys e =
        let c : ℕ = h.0 in
        let s = split c xs (before-it n c b h.1.1 xs ys e) in
        let e' : ws ≡ s.left ++ (c ∷ (s.right ++ (b ∷ ys))) = e ∙ ap (λ (l : List ℕ). l ++ (b ∷ ys)) s.whole ∙ append_assoc s.left (c ∷ s.right) (b ∷ ys) in
        subst (λ (l : List ℕ). In a l) (sym s.whole) (in_left a s.left (c ∷ s.right) (o.respects s.left (s.right ++ (b ∷ ys)) a c e' h.1.0))

    pub no-circle : (p : ℕ) → Circle ps p → ⊥
    no-circle p c =
        let l : p < 8 = begins ps c.0 p p c.1 range in
        let t : times p ws ≡ 1 = o.each p ∙ rw (lt-ltb p 8 l) refl in
        let s = split p ws (in-times p ws t) in
        let i : In p s.left = before-it c.0 p p c.1 s.left s.right s.whole in
        let left : 1 ≤ times p s.left = times-in p s.left i in
        let right : 1 ≤ times p (p ∷ s.right) = times-in p (p ∷ s.right) (inl refl) in
        let sum : times p ws ≡ times p s.left + times p (p ∷ s.right) = ap (times p) s.whole ∙ times-append p s.left (p ∷ s.right) in
        omega arith

    -- ---- any other order comes later

    -- whoever stands next in an order may stand there
    next-may : (placed rest : List ℕ) (q : ℕ) → ws ≡ placed ++ (q ∷ rest) → MayStand ps placed q
    next-may placed rest q e = record { party = party (bool (ltb q 8)); unplaced = unplaced; predecessors = λ a i. o.respects placed rest a q e i }
      where
        sum : times q ws ≡ times q placed + times q (q ∷ rest)
        sum = ap (times q) e ∙ times-append q placed (q ∷ rest)

        here : 1 ≤ times q (q ∷ rest)
        here = times-in q (q ∷ rest) (inl refl)

        party : (ltb q 8 ≡ true) ⊎ (ltb q 8 ≡ false) → q < 8
        party (inl t) = ltb-true q 8 t
        party (inr u) = let z : times q ws ≡ 0 = o.each q ∙ rw u refl in let s = sum in let h = here in absurd (omega arith)

        unplaced : In q placed → ⊥
        unplaced i =
            let one : times q ws ≡ 1 = o.each q ∙ rw (lt-ltb q 8 (party (bool (ltb q 8)))) refl in
            let left : 1 ≤ times q placed = times-in q placed i in
            let s = sum in let h = here in omega arith

    first-of-all : (placed us vs : List ℕ) → Follows (precedes ps) placed us → ws ≡ placed ++ vs → DictionaryFirst us vs
    first-of-all placed [] vs f e = tt
    first-of-all placed (u ∷ us) [] f e =
        let m = (next-stands placed u f.0).0 in
        let e' : ws ≡ placed = e ∙ append-nil placed in
        m.unplaced (subst (λ (l : List ℕ). In u l) e' (in-times u ws (o.each u ∙ rw (lt-ltb u 8 m.party) refl)))
    first-of-all placed (u ∷ us) (v ∷ vs) f e = go (dec_lt u v) (ℕ_discrete u v) ((next-stands placed u f.0).1 v (next-may placed vs v e)) (first-of-all (placed ++ (u ∷ [])) us vs f.1)
      where
        go : Dec (u < v) → Dec (u ≡ v) → u ≤ v → (ws ≡ (placed ++ (u ∷ [])) ++ vs → DictionaryFirst us vs) → DictionaryFirst (u ∷ us) (v ∷ vs)
        go (yes l) d h r = inl l
        go (no n) (yes q) h r =
            inr (q, r (e ∙ ap (λ (x : ℕ). placed ++ (x ∷ vs)) (sym q) ∙ sym (append_assoc placed (u ∷ []) vs)))
        go (no n) (no k) h r = absurd (omega (arith, k, n))

    pub dictionary-first : DictionaryFirst (order (precedes ps)) ws
    dictionary-first = first-of-all [] (order (precedes ps)) ws (follows (precedes ps) 8 []) refl
