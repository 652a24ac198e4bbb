-- The claims, by name.
use Prim.Native.Nat.{ℕ}
use mathlib.Core.Path.{◌≡◌, refl, sym, ap, ◌∙◌}
use mathlib.Core.Logic.{◌⊎◌, inl, inr}
use mathlib.Core.Bool.{true}
use mathlib.Core.Option.{Option, none, some}
use mathlib.Core.List.{List}
use native.Mathlib.Omega.{arith}
use borrow.Author.Tests.{le-ltb}
use lib.ListN.{length, take, drop}
use lib.Seq.{take_at, drop_at}
use Rattle.rules.specs.Lists.{any, first, In}
use Rattle.rules.specs.Calls.{first_that_applies}
use Rattle.rules.specs.Names.{parties}
use Rattle.rules.specs.Claims.{FirstApplies}
use Rattle.rules.proofs.ListLaws.{clash, passed}
use Rattle.rules.proofs.Members.{any-in, in-any}
use Rattle.rules.proofs.SetLaws.{same_truth}
use Rattle.rules.proofs.Tables.{first-applies, applies-first}
use Rattle.start_order.specs.Pairs.{Pairs, precedes, on_circle}
use Rattle.start_order.specs.Order.{order}
use Rattle.start_order.specs.Call.{Outcome, ordered, circle, refused, settled_by, settled, above7, refusals, decided, start_order, result_after}
use Rattle.start_order.specs.Claims.{Circle, OrderIsOrder, SmallestAtEachPlace, FirstOfAllOrders, NoOrder, NoOrderExactlyWithCircle}
use Rattle.start_order.specs.Claims.{SmallestOnCircle, SamePairsSameAnswer, FirstOrderRefusalDecides, OnlyAnOrderIsWritten}
use Rattle.start_order.proofs.Pairs.{InRange, ranged, same_relation}
use Rattle.start_order.proofs.Chains.{some_chain, chain-of, begins}
use Rattle.start_order.proofs.Places.{Smallest, smallest-of, none_of}
use Rattle.start_order.proofs.Circles.{eight-places}
use Rattle.start_order.proofs.Orders.{next-stands, placed-next, is-order, no-circle, dictionary-first}

-- ---- circles

module _ (ps : Pairs) where
  circle-of : (p : ℕ) → on_circle (precedes ps) p ≡ true → Circle ps p
  unfolding on_circle
  circle-of p h = some_chain ps 8 p p h

  on-circle : InRange ps → (p : ℕ) → Circle ps p → on_circle (precedes ps) p ≡ true
  unfolding on_circle
  on-circle range p c = chain-of ps range c.0 p p c.1

-- ---- what the answer says of the pairs

-- no test applied
record Passed (ps : Pairs) (lent : ℕ) : Type 0 where
  range : InRange ps
  comes : start_order ps lent ≡ settled (precedes ps)

passes : (ps : Pairs) (lent : ℕ) → first_that_applies (refusals ps lent) ≡ none → Passed ps lent
unfolding start_order
passes ps lent e =
    let all = passed (refusals ps lent) e in
    record { range = ranged ps all.1.0; comes = ap (λ (o : Option ℕ). decided o (settled (precedes ps))) e }

refused-by : (ps : Pairs) (lent n : ℕ) → first_that_applies (refusals ps lent) ≡ some n → start_order ps lent ≡ refused n
unfolding start_order
refused-by ps lent n e = ap (λ (o : Option ℕ). decided o (settled (precedes ps))) e

outcomes : (ps : Pairs) (lent : ℕ) → ((n : ℕ) × (start_order ps lent ≡ refused n)) ⊎ Passed ps lent
outcomes ps lent = go (first_that_applies (refusals ps lent)) refl
  where
    go : (o : Option ℕ) → first_that_applies (refusals ps lent) ≡ o → ((n : ℕ) × (start_order ps lent ≡ refused n)) ⊎ Passed ps lent
    go none e = inr (passes ps lent e)
    go (some n) e = inl (n, refused-by ps lent n e)

not-ordered : {X : Type 0} (ws : List ℕ) (n : ℕ) → ordered ws ≡ refused n → X
not-ordered ws n e = let z : ◌≡◌ {A = ℕ} 0 1 = cc in absurd (omega arith)

not-circle : {X : Type 0} (p n : ℕ) → circle p ≡ refused n → X
not-circle p n e = let z : ◌≡◌ {A = ℕ} 0 1 = cc in absurd (omega arith)

circle-ordered : {X : Type 0} (p : ℕ) (ws : List ℕ) → circle p ≡ ordered ws → X
circle-ordered p ws e = let z : ◌≡◌ {A = ℕ} 0 1 = cc in absurd (omega arith)

-- an order, and nobody on a circle
record AnOrder (ps : Pairs) (ws : List ℕ) : Type 0 where
  range : InRange ps
  is : ws ≡ order (precedes ps)
  eight : length (order (precedes ps)) ≡ 8

an-order : (ps : Pairs) (lent : ℕ) (ws : List ℕ) → start_order ps lent ≡ ordered ws → AnOrder ps ws
unfolding settled
an-order ps lent ws e = go (outcomes ps lent)
  where
    by : Passed ps lent → (o : Option ℕ) → first (on_circle (precedes ps)) parties ≡ o → settled_by o (precedes ps) ≡ ordered ws → AnOrder ps ws
    by c none h q = let same : order (precedes ps) ≡ ws = cc in record { range = c.range; is = sym same; eight = eight-places (precedes ps) h }
    by c (some p) h q = circle-ordered p ws q

    go : ((n : ℕ) × (start_order ps lent ≡ refused n)) ⊎ Passed ps lent → AnOrder ps ws
    go (inl r) = not-ordered ws r.0 (sym e ∙ r.1)
    go (inr c) = by c (first (on_circle (precedes ps)) parties) refl (sym c.comes ∙ e)

-- ---- the claims

pub order-is-order : OrderIsOrder
order-is-order ps lent ws e =
    let a = an-order ps lent ws e in
    rw a.is (a.eight, is-order ps a.range a.eight)

pub smallest-at-each-place : SmallestAtEachPlace
smallest-at-each-place ps lent ws e xs ys p s =
    let a = an-order ps lent ws e in
    next-stands ps a.range xs p (placed-next ps a.range xs ys p (sym a.is ∙ s))

pub first-of-all-orders : FirstOfAllOrders
first-of-all-orders ps lent ws e vs o = let a = an-order ps lent ws e in rw a.is (dictionary-first ps a.range vs o)

-- a circle, and the smallest party on one
record ACircle (ps : Pairs) (p : ℕ) : Type 0 where
  range : InRange ps
  smallest : first (on_circle (precedes ps)) parties ≡ some p

a-circle : (ps : Pairs) (lent p : ℕ) → start_order ps lent ≡ circle p → ACircle ps p
unfolding settled
a-circle ps lent p e = go (outcomes ps lent)
  where
    by : Passed ps lent → (o : Option ℕ) → first (on_circle (precedes ps)) parties ≡ o → settled_by o (precedes ps) ≡ circle p → ACircle ps p
    by c none h q = circle-ordered p (order (precedes ps)) (sym q)
    by c (some q) h s = let same : q ≡ p = cc in record { range = c.range; smallest = h ∙ ap some same }

    go : ((n : ℕ) × (start_order ps lent ≡ refused n)) ⊎ Passed ps lent → ACircle ps p
    go (inl r) = not-circle p r.0 (sym e ∙ r.1)
    go (inr c) = by c (first (on_circle (precedes ps)) parties) refl (sym c.comes ∙ e)

pub smallest-on-circle : SmallestOnCircle
smallest-on-circle ps lent p e =
    let a = a-circle ps lent p e in
    let s : Smallest (on_circle (precedes ps)) 0 8 p = smallest-of (on_circle (precedes ps)) 0 8 p a.smallest in
    (circle-of ps p s.passes, λ q c. s.least q (omega arith) (begins ps c.0 q q c.1 a.range) (on-circle ps a.range q c))

pub no-order-exactly-with-circle : NoOrderExactlyWithCircle
unfolding settled
no-order-exactly-with-circle ps lent u = go (outcomes ps lent)
  where
    named : Passed ps lent → (o : Option ℕ) → first (on_circle (precedes ps)) parties ≡ o → (q : ℕ) → Circle ps q → (p : ℕ) × (settled_by o (precedes ps) ≡ circle p)
    named c none h q k =
        clash (on_circle (precedes ps) q) (on-circle ps c.range q k)
        (none_of (on_circle (precedes ps)) 0 8 h q (omega arith) (begins ps k.0 q q k.1 c.range))
    named c (some p) h q k = (p, refl)

    go : ((n : ℕ) × (start_order ps lent ≡ refused n)) ⊎ Passed ps lent → NoOrder ps lent
    go (inl r) = absurd (u r.0 r.1)
    go (inr c) = record {
      exactly = (
        λ a. (a.0, (smallest-on-circle ps lent a.0 a.1).0),
        λ k. let n = named c (first (on_circle (precedes ps)) parties) refl k.0 k.1 in (n.0, c.comes ∙ n.1),
      );
      none = λ p k ws o. no-circle ps c.range ws o p k;
    }

-- ---- the list itself plays no part

pub same-pairs-same-answer : SamePairsSameAnswer
unfolding start_order
same-pairs-same-answer ps qs lent short shorter same =
    let relation : precedes ps ≡ precedes qs = same_relation ps qs (λ a b. (same a b).0) (λ a b. (same a b).1) in
    let above : any above7 ps ≡ any above7 qs = same_truth (any above7 ps) (any above7 qs) (carried ps qs (λ a b. (same a b).0)) (carried qs ps (λ a b. (same a b).1)) in
    rw (le-ltb 64 (length ps) short, le-ltb 64 (length qs) shorter, above, relation) refl
  where
    carried : (ps qs : Pairs) → ((a b : ℕ) → In (a, b) ps → In (a, b) qs) → any above7 ps ≡ true → any above7 qs ≡ true
    carried ps qs there h = let k = any-in above7 ps h in in-any above7 k.0 qs (there k.0.0 k.0.1 k.1.0) k.1.1

-- ---- refusals

pub first-order-refusal-decides : FirstOrderRefusalDecides
unfolding settled
first-order-refusal-decides ps lent n = (λ e. first-applies (refusals ps lent) n (by (first_that_applies (refusals ps lent)) refl e), back)
  where
    settled-refused : {X : Type 0} (o : Option ℕ) → settled_by o (precedes ps) ≡ refused n → X
    settled-refused none e = not-ordered (order (precedes ps)) n e
    settled-refused (some p) e = not-circle p n e

    by : (o : Option ℕ) → first_that_applies (refusals ps lent) ≡ o → start_order ps lent ≡ refused n → first_that_applies (refusals ps lent) ≡ some n
    by none h e = settled-refused (first (on_circle (precedes ps)) parties) (sym (passes ps lent h).comes ∙ e)
    by (some m) h e = let s : refused m ≡ refused n = sym (refused-by ps lent m h) ∙ e in let same : m ≡ n = cc in h ∙ ap some same

    back : FirstApplies (refusals ps lent) n → start_order ps lent ≡ refused n
    back a = refused-by ps lent n (applies-first (refusals ps lent) n a)

-- ---- the lent words

pub only-an-order-is-written : OnlyAnOrderIsWritten
only-an-order-is-written ps result = record { kept = kept (start_order ps (length result)); order = written }
  where
    kept : (o : Outcome) → ((ws : List ℕ) → ¬ (o ≡ ordered ws)) → result_after o result ≡ result
    kept (ordered ws) n = absurd (n ws refl)
    kept (circle p) n = refl
    kept (refused m) n = refl

    written : (ws : List ℕ) → start_order ps (length result) ≡ ordered ws
        → (take 8 (result_after (start_order ps (length result)) result) ≡ ws) × (drop 8 (result_after (start_order ps (length result)) result) ≡ drop 8 result)
    written ws e =
        let eight : length ws ≡ 8 = (order-is-order ps (length result) ws e).0 in
        rw e (take_at ws (drop 8 result) 8 eight, drop_at ws (drop 8 result) 8 eight)
