-- The program's whole output as a function of its whole input.
use Rattle.std.specs.Prelude.{List, [], ◌∷◌, ◌++◌, ℕ}
use Rattle.numbers.specs.Numbers.{decimal, refusal_text}
use Rattle.start_order.specs.Call.{Outcome, ordered, circle, refused}
use Rattle.order_file.specs.File.{read_file}

-- O8: a blank (32) and the number of each
abbrev pub parties_text : List ℕ → List ℕ
parties_text [] = []
parties_text (p ∷ ps) = 32 ∷ (decimal p ++ parties_text ps)

-- O8: "order" and the parties
unfoldable pub order_text : List ℕ → List ℕ
order_text ws = 111 ∷ 114 ∷ 100 ∷ 101 ∷ 114 ∷ (parties_text ws ++ (10 ∷ []))

-- O8: "circle" and the party
unfoldable pub circle_text : ℕ → List ℕ
circle_text p = 99 ∷ 105 ∷ 114 ∷ 99 ∷ 108 ∷ 101 ∷ 32 ∷ (decimal p ++ (10 ∷ []))

-- O8
abbrev pub output_of : Outcome → List ℕ
output_of (ordered ws) = order_text ws
output_of (circle p) = circle_text p
output_of (refused n) = refusal_text n

-- O8: the output
abbrev pub output : List ℕ → List ℕ
output file = output_of (read_file file)
