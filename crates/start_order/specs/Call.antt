-- The call: the order, or the smallest party on a circle, or the refusal.
use Rattle.std.specs.Prelude.{Bool, ◌||◌, List, [], ◌∷◌, ◌++◌, map, ℕ, ltb, length, drop}
use Rattle.std.proofs.Math.Option.{Option, none, some}
use Rattle.rules.specs.Lists.{any, first}
use Rattle.rules.specs.Calls.{Table, first_that_applies}
use Rattle.rules.specs.Names.{parties}
use Rattle.start_order.specs.Pairs.{Pairs, Relation, pair_of, precedes, on_circle}
use Rattle.start_order.specs.Order.{order}

pub data Outcome : Type 0 where
  ordered : List ℕ → Outcome
  circle : ℕ → Outcome
  refused : ℕ → Outcome

-- O4: by the smallest party on a circle, if there is one
abbrev pub settled_by : Option ℕ → Relation → Outcome
settled_by none R = ordered (order R)
settled_by (some p) R = circle p

-- O4
unfoldable pub settled : Relation → Outcome
settled R = settled_by (first (on_circle R) parties) R

-- R16: a party of the pair is above 7
abbrev pub above7 : ℕ × ℕ → Bool
above7 p = ltb 7 p.0 || ltb 7 p.1

-- R15, R16: the table, for that many lent words
abbrev pub refusals : Pairs → ℕ → Table
refusals ps lent = (ltb 64 (length ps) || ltb lent 8, 15) ∷ (any above7 ps, 16) ∷ []

abbrev pub decided : Option ℕ → Outcome → Outcome
decided none o = o
decided (some n) o = refused n

-- O4
unfoldable pub start_order : Pairs → ℕ → Outcome
start_order ps lent = decided (first_that_applies (refusals ps lent)) (settled (precedes ps))

-- O4: the lent words afterwards
abbrev pub result_after : Outcome → List ℕ → List ℕ
result_after (ordered ws) result = ws ++ drop 8 result
result_after (circle p) result = result
result_after (refused n) result = result

-- O4: the call, on the words of pairs and of the result
abbrev pub call_on : List ℕ → List ℕ → Outcome
call_on pairs result = start_order (map pair_of pairs) (length result)
