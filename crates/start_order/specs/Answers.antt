-- The code's sets of parties, and its answers, as what the definitions give.
use Rattle.std.specs.Prelude.{◌≡◌, cond, List, [], ◌∷◌, ℕ, eqb, length, get_or, Result, Ok, Err, Some, None}
use Rattle.std.specs.Prelude as code
use Rattle.std.specs.Int.Bits.{bit_or}
use Rattle.refusal.specs.declared.Refusal.{Refusal}
use Rattle.refusal.specs.Numbers.{numbered}
use Rattle.rules.specs.Names.{bit, set_bit}
use Rattle.start_order.specs.Pairs.{Pairs, Relation}
use Rattle.start_order.specs.Call.{Outcome, ordered, circle, refused, result_after}
use Rattle.start_order.specs.declared.Start.{Start}
use Rattle.start_order.specs.declared.Start.TheVariants as start

-- O1: eight sets, of each party that of its predecessors: bit a of set b says that a is a predecessor of b
abbrev pub relation_of : List ℕ → Relation
relation_of ws a b = bit (get_or ws b 0) a

-- O1: the sets with the pairs added, one after another
abbrev pub gathered : List ℕ → Pairs → List ℕ
gathered ws [] = ws
gathered ws (p ∷ ps) = gathered (set_bit p.1 p.0 ws) ps

-- O3: the order, if it has eight places
abbrev pub full_order : List ℕ → code.Option (List ℕ)
full_order ws = cond (eqb (length ws) 8) (Some ws) None

-- O2: a party's set, with what leads to k if k is in it
abbrev pub joined_by : ℕ → ℕ → ℕ → ℕ
joined_by via k set = cond (bit set k) (bit_or set via) set

-- O4: the code's answer, with the refusal's number
abbrev pub answer_in : Outcome → Result Start ℕ
answer_in (ordered ws) = Ok start.Order
answer_in (circle p) = Ok (start.Circle p)
answer_in (refused n) = Err n

-- O4: the answer, and every lent word afterwards
pub record Settled (o : Outcome) (r : Result Start Refusal) (result after : List ℕ) : Type 0 where
  pub answer : numbered r ≡ answer_in o
  pub words : after ≡ result_after o result
