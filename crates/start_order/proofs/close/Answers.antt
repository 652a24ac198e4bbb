-- The chains by way of one party more.
use Rattle.std.proofs.Common.{◌≡◌, refl, ap, ◌∙◌, ◌&&◌, ◌||◌, List, ℕ, ◌+◌, add-one}
use Rattle.start_order.specs.Pairs.{Relation, chain}
use Rattle.start_order.specs.Answers.{relation_of}
use Rattle.start_order.proofs.Sets.{joined-relation}
use Rattle.start_order.proofs.close.Goals as goal

-- one party more on the way
further : (R : Relation) (ws : List ℕ) (k : ℕ) → relation_of ws ≡ chain R k
    → (λ a b. relation_of ws a b || (relation_of ws a k && relation_of ws k b)) ≡ chain R (k + 1)
unfolding chain
further R ws k e = rw add-one (ap {B = Relation} (λ S a b. S a b || (S a k && S k b)) e)

pub loop-k-init : goal.loop-k-init
unfolding chain
loop-k-init c = refl

pub loop-k-preserved : goal.loop-k-preserved
loop-k-preserved c =
    ap relation_of c.join.ensures
    ∙ joined-relation c.loop-k.waits c.loop-k.k
    ∙ further (relation_of c.args.waits.now) c.loop-k.waits c.loop-k.k c.loop-k.invariant
