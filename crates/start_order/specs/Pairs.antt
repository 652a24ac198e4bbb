-- Pairs "a before b", chains of pairs, and circles.
use Rattle.std.specs.Prelude.{Bool, ◌&&◌, ◌||◌, List, ℕ, zero, suc, ◌/◌, ◌%◌, eqb}
use Rattle.rules.specs.Lists.{any}

-- O1: party.0 is to be started before party.1
abbrev pub Pairs : Type 0
Pairs = List (ℕ × ℕ)

-- O1: the pair of a word: one party in its upper half, the other in its lower
abbrev pub pair_of : ℕ → ℕ × ℕ
pair_of w = (w / 4294967296, w % 4294967296)

-- which party is a predecessor of which
abbrev pub Relation : Type 0
Relation = ℕ → ℕ → Bool

-- O1: a is a predecessor of b: some pair says so
unfoldable pub precedes : Pairs → Relation
precedes ps a b = any (λ p. eqb p.0 a && eqb p.1 b) ps

-- O2: a chain leads from a to b, and all parties between them are below k
unfoldable pub chain : Relation → ℕ → Relation
chain R zero a b = R a b
chain R (suc k) a b = chain R k a b || (chain R k a k && chain R k k b)

-- O2: a chain leads from the party back to itself; every party is below 8
unfoldable pub on_circle : Relation → ℕ → Bool
on_circle R p = chain R 8 p p
