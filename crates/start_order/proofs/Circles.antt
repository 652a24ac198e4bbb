-- No circle, and there is always a next party: the order has eight places exactly if no party lies on a circle.
use Prim.Native.Nat.{ℕ, zero, suc, ◌+◌, ◌≤◌, ◌<◌}
use mathlib.Core.Path.{◌≡◌, refl, sym, ap, ◌∙◌, subst}
use mathlib.Core.Logic.{◌⊎◌, inl, inr}
use mathlib.Core.Bool.{Bool, true, false, not}
use mathlib.Core.Option.{Option, none, some}
use mathlib.Core.List.{List, [], ◌∷◌, ◌++◌, append_assoc}
use native.Mathlib.Decide.{ℕ_discrete}
use native.Mathlib.Omega.{arith}
use borrow.Author.Tests.{ne_eqb}
use lib.ListN.{length}
use Rattle.rules.specs.Lists.{keep, first, All, In, from}
use Rattle.rules.specs.Names.{parties}
use Rattle.rules.proofs.ListLaws.{bool, clash, all_of}
use Rattle.rules.proofs.Members.{in-keep, keep-in, in-from, from_in, All-in, in_left}
use Rattle.start_order.specs.Pairs.{Relation, chain, on_circle}
use Rattle.start_order.specs.Order.{ready, next, is_in, goes_on, order_from, order}
use Rattle.start_order.proofs.Pairs.{or-false}
use Rattle.start_order.proofs.Chains.{meets, direct}
use Rattle.start_order.proofs.Places.{is_in-in, is_in-snoc, is_in-last, none_of, next-smallest, next-unplaced}

-- ---- those that are not placed

abbrev Unplaced : List ℕ → ℕ → Bool
Unplaced placed q = not (is_in placed q)

unplaced : List ℕ → List ℕ
unplaced placed = keep (Unplaced placed) parties

-- of numbers in a row one is kept less
module _ (f h : ℕ → Bool) (p : ℕ) (same : (q : ℕ) → (p ≡ q → ⊥) → f q ≡ h q) where
  others-kept : (i n : ℕ) → p < i → keep f (from i n) ≡ keep h (from i n)
  others-kept i zero l = refl
  others-kept i (suc n) l =
      let e : f i ≡ h i = same i (λ q. omega arith) in
      rw (e, others-kept (suc i) n (omega arith)) refl

  one_less : f p ≡ true → h p ≡ false → (i n : ℕ) → i ≤ p → p < i + n → length (keep f (from i n)) ≡ suc (length (keep h (from i n)))
  one_less t u i zero l m = absurd (omega arith)
  one_less t u i (suc n) l m = go (ℕ_discrete p i) (bool (h i)) (one_less t u (suc i) n)
    where
      go : Dec (p ≡ i) → (h i ≡ true) ⊎ (h i ≡ false) → (suc i ≤ p → p < suc i + n → length (keep f (from (suc i) n)) ≡ suc (length (keep h (from (suc i) n))))
          → length (keep f (from i (suc n))) ≡ suc (length (keep h (from i (suc n))))
      go (yes e) b r =
          let t' : f i ≡ true = subst (λ (x : ℕ). f x ≡ true) e t in
          let u' : h i ≡ false = subst (λ (x : ℕ). h x ≡ false) e u in
          rw (t', u', others-kept (suc i) n (omega arith)) refl
      go (no k) (inl b) r = let e : f i ≡ true = same i k ∙ b in rw (e, b) (ap suc (r (omega arith) (omega arith)))
      go (no k) (inr b) r = let e : f i ≡ false = same i k ∙ b in rw (e, b) (r (omega arith) (omega arith))

one_placed : (placed : List ℕ) (p : ℕ) → p < 8 → is_in placed p ≡ false → length (unplaced placed) ≡ suc (length (unplaced (placed ++ (p ∷ []))))
unfolding unplaced
one_placed placed p l u =
    one_less (Unplaced placed) (Unplaced (placed ++ (p ∷ []))) p others (rw u refl) (rw (is_in-last placed p) refl) 0 8 (omega arith) l
  where
    others : (q : ℕ) → (p ≡ q → ⊥) → Unplaced placed q ≡ Unplaced (placed ++ (p ∷ [])) q
    others q n = rw (is_in-snoc placed p q, ne_eqb p q n) (ap not (sym (or-false (is_in placed q))))

none-unplaced : (placed : List ℕ) → length (unplaced placed) ≡ 0 → (p : ℕ) → p < 8 → In p placed
unfolding unplaced
none-unplaced placed e p l = go (bool (is_in placed p))
  where
    nothing-in : (xs : List ℕ) → length xs ≡ 0 → In p xs → ⊥
    nothing-in [] z i = i
    nothing-in (x ∷ xs) z i = absurd (omega arith)

    go : (is_in placed p ≡ true) ⊎ (is_in placed p ≡ false) → In p placed
    go (inl t) = is_in-in placed p t
    go (inr f) = absurd (nothing-in (keep (Unplaced placed) parties) e (in-keep (Unplaced placed) p parties (in-from p 0 8 (omega arith) l) (rw f refl)))

module _ (R : Relation) where
  -- ---- eight places hold every party

  full : (n : ℕ) (placed : List ℕ) → length (unplaced placed) ≡ n → length (order_from R n placed) ≡ n → (p : ℕ) → p < 8 → In p (placed ++ order_from R n placed)
  unfolding order_from
  full zero placed u e p l = in_left p placed [] (none-unplaced placed u p l)
  full (suc n) placed u e p l = go (next R (is_in placed)) refl e (λ q. full n (placed ++ (q ∷ [])))
    where
      go : (o : Option ℕ) → next R (is_in placed) ≡ o → length (goes_on o (λ q. q ∷ order_from R n (placed ++ (q ∷ [])))) ≡ suc n
          → ((q : ℕ) → length (unplaced (placed ++ (q ∷ []))) ≡ n → length (order_from R n (placed ++ (q ∷ []))) ≡ n → (p : ℕ) → p < 8
          → In p ((placed ++ (q ∷ [])) ++ order_from R n (placed ++ (q ∷ []))))
          → In p (placed ++ goes_on o (λ q. q ∷ order_from R n (placed ++ (q ∷ []))))
      go none h e r = absurd (omega arith)
      go (some q) h e r =
          let less = one_placed placed q (next-smallest R (is_in placed) q h).below (next-unplaced R (is_in placed) q h) in
          let rest : List ℕ = order_from R n (placed ++ (q ∷ [])) in
          subst (λ (l : List ℕ). In p l) (append_assoc placed (q ∷ []) rest) (r q (omega arith) (omega arith) p l)

  -- ---- without a circle nothing gets stuck

  module _ (acyclic : (p : ℕ) → p < 8 → chain R 8 p p ≡ false) where
    -- of some parties one that no chain leads to from another of them
    record Source (xs : List ℕ) : Type 0 where
      party : ℕ
      among : In party xs
      free : (x : ℕ) → In x xs → chain R 8 x party ≡ false

    source : (u : ℕ) (us : List ℕ) → All (λ x. x < 8) (u ∷ us) → Source (u ∷ us)
    source u [] b = record { party = u; among = inl refl; free = alone }
      where
        alone : (x : ℕ) → In x (u ∷ []) → chain R 8 x u ≡ false
        alone x (inl e) = subst (λ (y : ℕ). chain R 8 y u ≡ false) e (acyclic u b.0)
        alone x (inr i) = absurd i
    source u (v ∷ us) b = go (source v us b.1)
      where
        go : Source (v ∷ us) → Source (u ∷ v ∷ us)
        go s = by (bool (chain R 8 u s.party))
          where
            by : (chain R 8 u s.party ≡ true) ⊎ (chain R 8 u s.party ≡ false) → Source (u ∷ v ∷ us)
            by (inl t) = record { party = u; among = inl refl; free = above }
              where
                above : (x : ℕ) → In x (u ∷ v ∷ us) → chain R 8 x u ≡ false
                above x (inl e) = subst (λ (y : ℕ). chain R 8 y u ≡ false) e (acyclic u b.0)
                above x (inr i) = elim (bool (chain R 8 x u)) [ inl k ↦ clash (chain R 8 x s.party) (meets R 8 x u s.party b.0 k t) (s.free x i) | inr k ↦ k ]
            by (inr f) = record { party = s.party; among = inr s.among; free = below }
              where
                below : (x : ℕ) → In x (u ∷ v ∷ us) → chain R 8 x s.party ≡ false
                below x (inl e) = subst (λ (y : ℕ). chain R 8 y s.party ≡ false) e f
                below x (inr i) = s.free x i

    source-ready : (placed : List ℕ) (s : Source (unplaced placed)) → ready R (is_in placed) s.party ≡ true
    unfolding ready unplaced
    source-ready placed s =
        let unp : not (is_in placed s.party) ≡ true = (keep-in (Unplaced placed) s.party parties s.among).1 in
        rw (unp, all_of (is_in placed) (keep (λ a. R a s.party) parties) (All-in (λ a. is_in placed a ≡ true) (keep (λ a. R a s.party) parties) placed-before)) refl
      where
        placed-before : (a : ℕ) → In a (keep (λ a. R a s.party) parties) → is_in placed a ≡ true
        placed-before a i = go (bool (is_in placed a))
          where
            k : In a parties × (R a s.party ≡ true)
            k = keep-in (λ a. R a s.party) a parties i

            go : (is_in placed a ≡ true) ⊎ (is_in placed a ≡ false) → is_in placed a ≡ true
            go (inl t) = t
            go (inr f) = clash (chain R 8 a s.party) (direct R 8 a s.party k.1) (s.free a (in-keep (Unplaced placed) a parties k.0 (rw f refl)))

    some_next : (placed : List ℕ) (n : ℕ) → length (unplaced placed) ≡ suc n → next R (is_in placed) ≡ none → ⊥
    unfolding unplaced
    some_next placed n e h = go (unplaced placed) refl
      where
        small : (x : ℕ) → In x (unplaced placed) → x < 8
        small x i = from_in x 0 8 (keep-in (Unplaced placed) x parties i).0

        go : (us : List ℕ) → unplaced placed ≡ us → ⊥
        go [] q = let z : 0 ≡ suc n = ap length (sym q) ∙ e in absurd (omega arith)
        go (u ∷ us) q =
            let s : Source (unplaced placed) = subst Source (sym q) (source u us (subst (λ (l : List ℕ). All (λ x. x < 8) l) q (All-in (λ x. x < 8) (unplaced placed) small))) in
            let l : s.party < 8 = small s.party s.among in
            clash (ready R (is_in placed) s.party) (source-ready placed s) (none_of (ready R (is_in placed)) 0 8 h s.party (omega arith) l)

    complete : (n : ℕ) (placed : List ℕ) → length (unplaced placed) ≡ n → length (order_from R n placed) ≡ n
    unfolding order_from
    complete zero placed u = refl
    complete (suc n) placed u = go (next R (is_in placed)) refl (λ q. complete n (placed ++ (q ∷ [])))
      where
        go : (o : Option ℕ) → next R (is_in placed) ≡ o
            → ((q : ℕ) → length (unplaced (placed ++ (q ∷ []))) ≡ n → length (order_from R n (placed ++ (q ∷ []))) ≡ n)
            → length (goes_on o (λ q. q ∷ order_from R n (placed ++ (q ∷ [])))) ≡ suc n
        go none h r = absurd (some_next placed n u h)
        go (some q) h r =
            let less = one_placed placed q (next-smallest R (is_in placed) q h).below (next-unplaced R (is_in placed) q h) in
            ap suc (r q (omega arith))

-- none is placed at first
all-unplaced : length (unplaced []) ≡ 8
unfolding unplaced
all-unplaced = refl

pub all_placed : (R : Relation) → length (order R) ≡ 8 → (p : ℕ) → p < 8 → In p (order R)
all_placed R e p l = full R 8 [] all-unplaced e p l

pub eight-places : (R : Relation) → first (on_circle R) parties ≡ none → length (order R) ≡ 8
unfolding on_circle
eight-places R h = complete R (λ p l. none_of (on_circle R) 0 8 h p (omega arith) l) 8 [] all-unplaced
