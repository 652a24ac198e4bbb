-- By the tests of the table, and then by whether the order has eight places.
use Rattle.std.proofs.Common.{◌≡◌, refl, sym, ap, ◌∙◌, true, false, ℕ, List, ◌++◌, map, drop}
use Rattle.rules.specs.Lists.{any, first}
use Rattle.rules.specs.Names.{parties}
use Rattle.rules.specs.Words.{zeros}
use Rattle.start_order.specs.Pairs.{Pairs, Relation, pair_of, precedes, chain, on_circle}
use Rattle.start_order.specs.Order.{order}
use Rattle.start_order.specs.Call.{above7}
use Rattle.start_order.specs.Answers.{relation_of, gathered, full_order}
use Rattle.start_order.proofs.Pairs.{ranged}
use Rattle.start_order.proofs.Outcomes.{settles, too_many, outside, inside, all-gathered, all-eight, some-circle, named, full-order, no-order}
use Rattle.start_order.proofs.start_order.Goals as goal
use borrow.Author.Tests.{not-true, not-false}

-- the sets are the pairs'
relation : (ps : Pairs) → any above7 ps ≡ false → (ws : List ℕ) → ws ≡ gathered (zeros 8) ps → relation_of ws ≡ precedes ps
relation ps none_above ws e = ap relation_of e ∙ all-gathered ps (ranged ps none_above)

pub returns-then-pairs-res : goal.returns-then-pairs-res
returns-then-pairs-res c = settles (too_many c.args.pairs.now c.args.res.now c.if-pairs-res.true) (record { answer = refl; words = refl })

pub returns-then-not-in_range : goal.returns-then-not-in_range
returns-then-not-in_range c =
    let above : any above7 (map pair_of c.args.pairs.now) ≡ true = not-false _ (sym c.in_range.ensures ∙ c.if-not-in_range.true) in
    settles (outside c.args.pairs.now c.args.res.now c.if-pairs-res.false above) (record { answer = refl; words = refl })

pub returns-in-Some : goal.returns-in-Some
returns-in-Some c =
    let ps : Pairs = map pair_of c.args.pairs.now in
    let none_above : any above7 ps ≡ false = not-true _ (sym c.in_range.ensures ∙ c.if-not-in_range.false) in
    let R = relation ps none_above c.gather-waits.result c.gather-waits.ensures in
    let taken = full-order (order (precedes ps)) c.in-Some.places (ap (λ (S : Relation). full_order (order S)) (sym R) ∙ sym c.arrange.ensures ∙ c.in-Some.is) in
    settles (inside c.args.pairs.now c.args.res.now c.if-pairs-res.false none_above ∙ all-eight ps none_above taken.0)
    (record { answer = refl; words = c.write_places.ensures ∙ ap (λ (l : List ℕ). l ++ drop 8 c.args.res.now) (sym taken.1) })

pub smallest-requires : goal.smallest-requires
unfolding on_circle
smallest-requires c =
    let ps : Pairs = map pair_of c.args.pairs.now in
    let none_above : any above7 ps ≡ false = not-true _ (sym c.in_range.ensures ∙ c.if-not-in_range.false) in
    let R = relation ps none_above c.gather-waits.result c.gather-waits.ensures in
    let not_full = no-order (order (precedes ps)) (ap (λ (S : Relation). full_order (order S)) (sym R) ∙ sym c.arrange.ensures ∙ c.in_default.is) in
    ap (λ (S : Relation). any (λ p. S p p) parties) (c.close.ensures ∙ ap (λ (S : Relation). chain S 8) R) ∙ some-circle ps none_above not_full

pub returns : goal.returns
returns c =
    let ps : Pairs = map pair_of c.args.pairs.now in
    let none_above : any above7 ps ≡ false = not-true _ (sym c.in_range.ensures ∙ c.if-not-in_range.false) in
    let R = relation ps none_above c.gather-waits.result c.gather-waits.ensures in
    let smallest = ap (λ (S : Relation). first (λ p. S p p) parties) (sym (c.close.ensures ∙ ap (λ (S : Relation). chain S 8) R)) ∙ c.smallest.ensures in
    settles (inside c.args.pairs.now c.args.res.now c.if-pairs-res.false none_above ∙ named (precedes ps) _ smallest)
    (record { answer = refl; words = refl })
