-- Loops: the first party that passes a test, and the places of an order, a turn at a time.
use Prim.Native.Nat.{ℕ, zero, suc, ◌+◌, ◌-◌, ◌/◌, ◌%◌, ◌^◌, ◌≤◌, ◌<◌}
use mathlib.Core.Path.{◌≡◌, refl, sym, ap, ◌∙◌, subst, fun_ext}
use mathlib.Core.Logic.{◌⊎◌, inl, inr}
use mathlib.Core.Bool.{Bool, true, false, ◌||◌, false≢true}
use mathlib.Core.Option.{Option, none, some}
use mathlib.Core.List.{List, [], ◌∷◌, ◌++◌, map, append-nil, append_assoc}
use native.Mathlib.Numerals.{add-one}
use native.Mathlib.Omega.{arith}
use borrow.Author.Tests.{ne_eqb, ltb-true, ltb-false, lt-ltb, le-ltb}
use lib.Bits.{bit_or, or_comm, or_lt, or_add_and, and_le_r, or_shr, or_mod}
use lib.Dec.{eqb, ltb}
use lib.ListN.{length, get_or, take, drop, set}
use lib.Seq.{drop-cons, length-take-le, take_all}
use Rattle.std.specs.Prelude.{Some, None}
use Rattle.std.proofs.lemmas.List.{take_more_set}
use Rattle.rules.specs.Lists.{any, first, from}
use Rattle.rules.specs.Names.{parties, bit, with_bit}
use Rattle.rules.proofs.BitLaws.{zero_bit}
use Rattle.rules.proofs.ListLaws.{bool}
use Rattle.start_order.specs.Pairs.{Relation, pair_of}
use Rattle.start_order.specs.Order.{next, is_in, goes_on, order_from, order}
use Rattle.start_order.specs.Call.{above7}
use Rattle.start_order.specs.Answers.{full_order}
use Rattle.start_order.proofs.Pairs.{or_assoc}
use Rattle.start_order.proofs.Places.{is_in-snoc}
use Rattle.start_order.proofs.Sets.{with-bits}

-- ---- the first of the numbers from i on, below n

module _ (t : ℕ → Bool) (i n : ℕ) where
  left : i < n → from i (n - i) ≡ i ∷ from (i + 1) (n - (i + 1))
  left l = let e : n - i ≡ suc (n - (i + 1)) = omega arith in rw (e, add-one) refl

  pub first-here : i < n → t i ≡ true → first t (from i (n - i)) ≡ some i
  first-here l h = ap (first t) (left l) ∙ rw h refl

  pub first_on : i < n → t i ≡ false → first t (from i (n - i)) ≡ first t (from (i + 1) (n - (i + 1)))
  first_on l h = ap (first t) (left l) ∙ rw h refl

  pub first-end : n ≤ i → first t (from i (n - i)) ≡ none
  first-end l = let e : n - i ≡ 0 = omega arith in rw e refl

some-passes : (t : ℕ → Bool) (l : List ℕ) → any t l ≡ true → first t l ≡ none → ⊥
some-passes t [] y n = false≢true y
some-passes t (x ∷ l) y n = go (bool (t x)) (some-passes t l)
  where
    go : (t x ≡ true) ⊎ (t x ≡ false) → (any t l ≡ true → first t l ≡ none → ⊥) → ⊥
    go (inl u) r = let e : some x ≡ none = rw u at n in cc
    go (inr u) r = r (rw u at y) (rw u at n)

-- some party passes, and none before the last: it is the last
pub last_one : (t : ℕ → Bool) (p : ℕ) → p ≡ 7 → first t (from p (8 - p)) ≡ first t parties → any t parties ≡ true → first t parties ≡ some 7
last_one t p e h y = go (bool (t 7))
  where
    at_7 : first t parties ≡ first t (7 ∷ [])
    at_7 = sym h ∙ ap (λ (i : ℕ). first t (from i (8 - i))) e

    go : (t 7 ≡ true) ⊎ (t 7 ≡ false) → first t parties ≡ some 7
    go (inl u) = at_7 ∙ rw u refl
    go (inr u) = let n : first t parties ≡ none = at_7 ∙ rw u refl in absurd (some-passes t parties y n)

-- ---- pair by pair

-- a number above 7 is seen in the bits of both together
or_above : (a b : ℕ) → ltb 7 (bit_or a b) ≡ (ltb 7 a || ltb 7 b)
or_above a b = go (bool (ltb 7 a)) (bool (ltb 7 b))
  where
    more : (a b : ℕ) → a ≤ bit_or a b
    more a b = let s = or_add_and a b in let l = and_le_r a b in omega arith

    go : (ltb 7 a ≡ true) ⊎ (ltb 7 a ≡ false) → (ltb 7 b ≡ true) ⊎ (ltb 7 b ≡ false) → ltb 7 (bit_or a b) ≡ (ltb 7 a || ltb 7 b)
    go (inl t) k = let l = ltb-true 7 a t in let m = more a b in rw t (lt-ltb 7 (bit_or a b) (omega arith))
    go (inr t) (inl u) =
        let l = ltb-true 7 b u in
        let m : b ≤ bit_or a b = subst (λ (w : ℕ). b ≤ w) (or_comm b a) (more b a) in
        rw (t, u) (lt-ltb 7 (bit_or a b) (omega arith))
    go (inr t) (inr u) =
        let x : a < 2 ^ 3 = let l = ltb-false 7 a t in omega arith in
        let y : b < 2 ^ 3 = let l = ltb-false 7 b u in omega arith in
        let o : bit_or a b < 2 ^ 3 = or_lt 3 a b x y in
        rw (t, u) (le-ltb 7 (bit_or a b) (omega arith))

pub seen-above : (s w : ℕ) → above7 (pair_of (bit_or s w)) ≡ (above7 (pair_of s) || above7 (pair_of w))
seen-above s w =
    let upper : bit_or s w / 4294967296 ≡ bit_or (s / 4294967296) (w / 4294967296) = or_shr s w 32 in
    let lower : bit_or s w % 4294967296 ≡ bit_or (s % 4294967296) (w % 4294967296) = or_mod s w 32 in
    rw (upper, lower, or_above (s / 4294967296) (w / 4294967296), or_above (s % 4294967296) (w % 4294967296))
    (go (ltb 7 (s / 4294967296)) (ltb 7 (w / 4294967296)) (ltb 7 (s % 4294967296)) (ltb 7 (w % 4294967296)))
  where
    go : (a b c d : Bool) → ((a || b) || (c || d)) ≡ ((a || c) || (b || d))
    go true b c d = refl
    go false true true d = refl
    go false true false d = refl
    go false false true d = refl
    go false false false d = refl

-- the bits that were seen, with those of one pair more
pub one_seen : (pairs : List ℕ) (i s : ℕ) → i < length pairs
    → (above7 (pair_of s) || any above7 (map pair_of (drop i pairs))) ≡ (above7 (pair_of (bit_or s (get_or pairs i 0))) || any above7 (map pair_of (drop (i + 1) pairs)))
one_seen pairs i s l =
    let w : ℕ = get_or pairs i 0 in
    let rest : Bool = any above7 (map pair_of (drop (i + 1) pairs)) in
    let here : any above7 (map pair_of (drop i pairs)) ≡ (above7 (pair_of w) || rest) = rw add-one (ap (λ (l : List ℕ). any above7 (map pair_of l)) (drop-cons pairs i 0 l)) in
    ap (λ (t : Bool). above7 (pair_of s) || t) here
    ∙ sym (or_assoc (above7 (pair_of s)) (above7 (pair_of w)) rest)
    ∙ ap (λ (t : Bool). t || rest) (sym (seen-above s w))

-- ---- the sets, each mapped in its place

pub map-turn : (g : ℕ → ℕ) (d p : List ℕ) (b v : ℕ) → b < length d → p ≡ take b (map g d) ++ drop b d → v ≡ g (get_or p b 0)
    → set p b v ≡ take (b + 1) (map g d) ++ drop (b + 1) d
map-turn g d p b v l h e = rw (e, h, add-one) (go d b l)
  where
    go : (d : List ℕ) (b : ℕ) → b < length d → set (take b (map g d) ++ drop b d) b (g (get_or (take b (map g d) ++ drop b d) b 0)) ≡ take (suc b) (map g d) ++ drop (suc b) d
    go [] b l = absurd (omega arith)
    go (x ∷ d) zero l = refl
    go (x ∷ d) (suc b) l = ap (λ (t : List ℕ). g x ∷ t) (go d b (omega arith))

-- ---- the order, place by place

-- n places are taken, by those in the set, and the rest of the order follows them
pub record Placing (R : Relation) (places : List ℕ) (placed n : ℕ) : Type 0 where
  pub follows : order R ≡ take n places ++ order_from R (8 - n) (take n places)
  pub same : bit placed ≡ is_in (take n places)

pub none-placed : (R : Relation) (places : List ℕ) → Placing R places 0 0
none-placed R places = record { follows = refl; same = fun_ext (λ q. zero_bit q) }

module _ (R : Relation) (places : List ℕ) (placed n : ℕ) (l : n < 8) (eight : length places ≡ 8) (s : Placing R places placed n) where
  rest : order_from R (8 - n) (take n places) ≡ goes_on (next R (bit placed)) (λ p. p ∷ order_from R (8 - (n + 1)) (take n places ++ (p ∷ [])))
  unfolding order_from
  rest =
      let e : 8 - n ≡ suc (8 - (n + 1)) = omega arith in
      ap (λ (k : ℕ). order_from R k (take n places)) e
      ∙ ap (λ (t : ℕ → Bool). goes_on (next R t) (λ p. p ∷ order_from R (8 - (n + 1)) (take n places ++ (p ∷ [])))) (sym s.same)

  pub one_placed : (p : ℕ) → next R (bit placed) ≡ some p → Placing R (set places n p) (with_bit placed p) (n + 1)
  one_placed p h = record { follows = follows; same = fun_ext (λ q. with-bits placed p q ∙ same q) }
    where
      now : take (n + 1) (set places n p) ≡ take n places ++ (p ∷ [])
      now = take_more_set places n p (omega arith)

      follows : order R ≡ take (n + 1) (set places n p) ++ order_from R (8 - (n + 1)) (take (n + 1) (set places n p))
      follows =
          s.follows
          ∙ ap (λ (t : List ℕ). take n places ++ t) (rest ∙ ap (λ (o : Option ℕ). goes_on o (λ p. p ∷ order_from R (8 - (n + 1)) (take n places ++ (p ∷ [])))) h)
          ∙ sym (append_assoc (take n places) (p ∷ []) (order_from R (8 - (n + 1)) (take n places ++ (p ∷ []))))
          ∙ ap (λ (t : List ℕ). t ++ order_from R (8 - (n + 1)) t) (sym now)

      same : (q : ℕ) → (bit placed q || eqb p q) ≡ is_in (take (n + 1) (set places n p)) q
      same q =
          ap (λ (t : ℕ → Bool). t q || eqb p q) s.same
          ∙ sym (is_in-snoc (take n places) p q)
          ∙ ap (λ (t : List ℕ). is_in t q) (sym now)

  pub stuck : next R (bit placed) ≡ none → None ≡ full_order (order R)
  stuck h =
      let e : order R ≡ take n places = s.follows ∙ ap (λ (t : List ℕ). take n places ++ t) (rest ∙ ap (λ (o : Option ℕ). goes_on o (λ p. p ∷ order_from R (8 - (n + 1)) (take n places ++ (p ∷ [])))) h) ∙ append-nil (take n places) in
      let k : length (take n places) ≡ n = length-take-le n places (omega arith) in
      let other : length (order R) ≡ 8 → ⊥ = λ q. let z : n ≡ 8 = sym k ∙ ap length (sym e) ∙ q in omega arith in
      rw (ne_eqb (length (order R)) 8 other) refl

pub all-taken : (R : Relation) (places : List ℕ) (placed n : ℕ) → 8 ≤ n → n ≤ 8 → length places ≡ 8 → Placing R places placed n → Some places ≡ full_order (order R)
unfolding order_from
all-taken R places placed n low high eight s =
    let e : n ≡ 8 = omega arith in
    let none_left : 8 - n ≡ 0 = omega arith in
    let all : take n places ≡ places = take_all n places (omega arith) in
    let o : order R ≡ places = s.follows ∙ rw none_left (append-nil (take n places)) ∙ all in
    rw (o, eight) refl
