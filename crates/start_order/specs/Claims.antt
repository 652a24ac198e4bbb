-- What is claimed of the start order.
use Rattle.std.specs.Prelude.{◌≡◌, ◌⊎◌, cond, List, [], ◌∷◌, ◌++◌, ℕ, zero, suc, ◌≤◌, ◌<◌, eqb, ltb, length, take, drop}
use Rattle.rules.specs.Lists.{In}
use Rattle.rules.specs.Claims.{Iff, FirstApplies}
use Rattle.start_order.specs.Pairs.{Pairs}
use Rattle.start_order.specs.Call.{Outcome, ordered, circle, refused, refusals, start_order, result_after}

-- ---- chains and circles, of any length

-- O2: a chain of n + 1 pairs from a to b
abbrev pub Chain : Pairs → ℕ → ℕ → ℕ → Type 0
Chain ps zero a b = In (a, b) ps
Chain ps (suc n) a b = (c : ℕ) × (In (a, c) ps × Chain ps n c b)

-- O2: the party lies on a circle
abbrev pub Circle : Pairs → ℕ → Type 0
Circle ps p = (n : ℕ) × Chain ps n p p

-- ---- orders

-- how often a party stands in a list
abbrev pub times : ℕ → List ℕ → ℕ
times p [] = 0
times p (x ∷ xs) = cond (eqb x p) (suc (times p xs)) (times p xs)

-- N1: each of the eight parties once, and nothing else
abbrev pub EachOnce : List ℕ → Type 0
EachOnce ws = (p : ℕ) → times p ws ≡ cond (ltb p 8) 1 0

-- O1: wherever b stands, its predecessors stand before it
abbrev pub Respects : Pairs → List ℕ → Type 0
Respects ps ws = (xs ys : List ℕ) (a b : ℕ) → ws ≡ xs ++ (b ∷ ys) → In (a, b) ps → In a xs

-- an order in which the programs may be started
pub record IsOrder (ps : Pairs) (ws : List ℕ) : Type 0 where
  pub each : EachOnce ws
  pub respects : Respects ps ws

-- O3: after these parties p may stand: it is not among them, and its predecessors all are
pub record MayStand (ps : Pairs) (xs : List ℕ) (p : ℕ) : Type 0 where
  pub party : p < 8
  pub unplaced : ¬ In p xs
  pub predecessors : (a : ℕ) → In (a, p) ps → In a xs

-- the one comes first in a dictionary, or they are the same
abbrev pub DictionaryFirst : List ℕ → List ℕ → Type 0
DictionaryFirst [] vs = Unit
DictionaryFirst (w ∷ ws) [] = ⊥
DictionaryFirst (w ∷ ws) (v ∷ vs) = (w < v) ⊎ ((w ≡ v) × DictionaryFirst ws vs)

-- ---- the claims

-- O3: what is answered is an order: eight places, each party once, every pair respected
abbrev pub OrderIsOrder : Type 0
OrderIsOrder = (ps : Pairs) (lent : ℕ) (ws : List ℕ) → start_order ps lent ≡ ordered ws → (length ws ≡ 8) × IsOrder ps ws

-- O3: at each place stands the smallest party that may stand there
abbrev pub SmallestAtEachPlace : Type 0
SmallestAtEachPlace =
    (ps : Pairs) (lent : ℕ) (ws : List ℕ) → start_order ps lent ≡ ordered ws → (xs ys : List ℕ) (p : ℕ) → ws ≡ xs ++ (p ∷ ys)
    → MayStand ps xs p × ((q : ℕ) → MayStand ps xs q → p ≤ q)

-- O3: of all orders it is the first
abbrev pub FirstOfAllOrders : Type 0
FirstOfAllOrders =
    (ps : Pairs) (lent : ℕ) (ws : List ℕ) → start_order ps lent ≡ ordered ws → (vs : List ℕ) → IsOrder ps vs → DictionaryFirst ws vs

-- R15, R16: the call is not refused
abbrev pub Unrefused : Pairs → ℕ → Type 0
Unrefused ps lent = (n : ℕ) → ¬ (start_order ps lent ≡ refused n)

-- O4: an unrefused call answers "circle" exactly if a party lies on one; and then there is no order at all
pub record NoOrder (ps : Pairs) (lent : ℕ) : Type 0 where
  pub exactly : Iff ((p : ℕ) × (start_order ps lent ≡ circle p)) ((p : ℕ) × Circle ps p)
  pub none : (p : ℕ) → Circle ps p → (ws : List ℕ) → ¬ IsOrder ps ws

abbrev pub NoOrderExactlyWithCircle : Type 0
NoOrderExactlyWithCircle = (ps : Pairs) (lent : ℕ) → Unrefused ps lent → NoOrder ps lent

-- O4: the party that is named is the smallest that lies on a circle
abbrev pub SmallestOnCircle : Type 0
SmallestOnCircle =
    (ps : Pairs) (lent p : ℕ) → start_order ps lent ≡ circle p → Circle ps p × ((q : ℕ) → Circle ps q → p ≤ q)

-- O4: neither the order of the pairs nor how often one comes plays a part, up to 64 of them
abbrev pub SamePairsSameAnswer : Type 0
SamePairsSameAnswer =
    (ps qs : Pairs) (lent : ℕ) → length ps ≤ 64 → length qs ≤ 64 → ((a b : ℕ) → Iff (In (a, b) ps) (In (a, b) qs))
    → start_order ps lent ≡ start_order qs lent

-- R15, R16: a call is refused by a number exactly when that number's test is the first that applies
abbrev pub FirstOrderRefusalDecides : Type 0
FirstOrderRefusalDecides =
    (ps : Pairs) (lent n : ℕ) → Iff (start_order ps lent ≡ refused n) (FirstApplies (refusals ps lent) n)

-- O4: a refused call and a circle leave every lent word; an order comes first, and the words past it are kept
pub record Lent (o : Outcome) (result : List ℕ) : Type 0 where
  pub kept : ((ws : List ℕ) → ¬ (o ≡ ordered ws)) → result_after o result ≡ result
  pub order : (ws : List ℕ) → o ≡ ordered ws → (take 8 (result_after o result) ≡ ws) × (drop 8 (result_after o result) ≡ drop 8 result)

abbrev pub OnlyAnOrderIsWritten : Type 0
OnlyAnOrderIsWritten = (ps : Pairs) (result : List ℕ) → Lent (start_order ps (length result)) result
