-- The start order, place by place.
use Rattle.std.specs.Prelude.{Bool, not, ◌&&◌, List, [], ◌∷◌, ◌++◌, ℕ, zero, suc, eqb}
use Rattle.std.proofs.Math.Option.{Option, none, some}
use Rattle.rules.specs.Lists.{all, any, keep, first}
use Rattle.rules.specs.Names.{parties}
use Rattle.start_order.specs.Pairs.{Relation}

-- O1: the parties that have to be started before p
abbrev pub predecessors : Relation → ℕ → List ℕ
predecessors R p = keep (λ a. R a p) parties

-- O3: p is not yet placed, and its predecessors all are
unfoldable pub ready : Relation → (ℕ → Bool) → ℕ → Bool
ready R placed p = not (placed p) && all placed (predecessors R p)

-- O3: the smallest of those
abbrev pub next : Relation → (ℕ → Bool) → Option ℕ
next R placed = first (ready R placed) parties

abbrev pub is_in : List ℕ → ℕ → Bool
is_in xs p = any (λ x. eqb x p) xs

-- what goes on with a party, if there is one
abbrev pub goes_on : Option ℕ → (ℕ → List ℕ) → List ℕ
goes_on none more = []
goes_on (some p) more = more p

-- O3: up to n places more, after those that are placed
unfoldable pub order_from : Relation → ℕ → List ℕ → List ℕ
order_from R zero placed = []
order_from R (suc n) placed = goes_on (next R (is_in placed)) (λ p. p ∷ order_from R n (placed ++ (p ∷ [])))

-- O3: eight places
abbrev pub order : Relation → List ℕ
order R = order_from R 8 []
