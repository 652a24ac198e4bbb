-- Fields and lists of fields: read from bytes, and rendered to bytes.
use Rattle.std.specs.Prelude.{Bool, false, cond, List, [], ◌∷◌, ◌++◌, ℕ, ◌+◌, ◌*◌, eqb, leb, ℤ, length, take, drop}
use Rattle.std.proofs.Math.Option.{Option, none, some}
use Rattle.rules.specs.Names.{key_in_range, stored, partition, key}
use Rattle.rules.specs.Fields.{Field, message, name, wildcard, at_least, at_most, bad, field}
use Rattle.numbers.specs.Numbers.{decimal, decimal_key, key_of}
use Rattle.numbers.specs.Parts.{parts}
use Rattle.text.specs.Numbers.{unsigned, signed}

-- ---- one field

-- F1: the word of a kind and a value
abbrev pub of_kind : ℕ → Option ℕ → Option ℕ
of_kind kind none = none
of_kind kind (some v) = some (kind * 4294967296 + v)

-- T6: a key from -31 to 31 as it is stored
abbrev pub stored_in : Option ℤ → Option ℕ
stored_in none = none
stored_in (some k) = cond (key_in_range k) (some (stored k)) none

-- T6: the wildcard, where nothing follows
abbrev pub wildcard_before : List ℕ → Option ℕ
wildcard_before [] = some 12884901888
wildcard_before (b ∷ bs) = none

-- T6: `m` (109), `p` (112), `g` (103) or `l` (108) and an unsigned number, `k` (107) and a key, or `*` (42)
unfoldable pub read_field : List ℕ → Option ℕ
read_field [] = none
read_field (b ∷ bs) =
    cond (eqb b 109) (of_kind 0 (unsigned bs))
    (cond (eqb b 112) (of_kind 1 (unsigned bs))
    (cond (eqb b 107) (of_kind 2 (stored_in (signed bs)))
    (cond (eqb b 42) (wildcard_before bs)
    (cond (eqb b 103) (of_kind 4 (unsigned bs))
    (cond (eqb b 108) (of_kind 5 (unsigned bs))
    none)))))

-- T6: a bad field is never found, and so `?` (63) never rendered
abbrev pub rendered : Field → List ℕ
rendered (message v) = 109 ∷ decimal v
rendered (name (partition c)) = 112 ∷ decimal c
rendered (name (key s)) = 107 ∷ decimal_key (key_of s)
rendered wildcard = 42 ∷ []
rendered (at_least v) = 103 ∷ decimal v
rendered (at_most v) = 108 ∷ decimal v
rendered bad = 63 ∷ []

-- T6
unfoldable pub render_field : ℕ → List ℕ
render_field w = rendered (field w)

-- ---- lists of fields

abbrev pub both : Option ℕ → Option (List ℕ) → Option (List ℕ)
both none ws = none
both (some w) none = none
both (some w) (some ws) = some (w ∷ ws)

-- T8: every part's field
abbrev pub read_each : List (List ℕ) → Option (List ℕ)
read_each [] = some []
read_each (p ∷ ps) = both (read_field p) (read_each ps)

-- T8: at most sixteen
abbrev pub up_to_sixteen : Option (List ℕ) → Option (List ℕ)
up_to_sixteen none = none
up_to_sixteen (some ws) = cond (leb (length ws) 16) (some ws) none

-- T8: `-` (45) alone
abbrev pub is_dash : List ℕ → Bool
is_dash [] = false
is_dash (b ∷ []) = eqb b 45
is_dash (b ∷ c ∷ bs) = false

-- T8: `-` is no field; else 1 to 16 fields, joined by commas (44)
unfoldable pub read_fields : List ℕ → Option (List ℕ)
read_fields bs = cond (is_dash bs) (some []) (up_to_sixteen (read_each (parts 44 bs)))

abbrev pub onto : Option ℕ → List ℕ → List ℕ
onto none ws = []
onto (some w) ws = w ∷ ws

-- T9: the fields of the parts before the first unreadable one
abbrev pub leading : List (List ℕ) → List ℕ
leading [] = []
leading (p ∷ ps) = onto (read_field p) (leading ps)

-- T9: the words that were lent for the fields, after reading: sixteen at most are written, and none from an unreadable part on
unfoldable pub words_after : List ℕ → List ℕ → List ℕ
words_after bs lent = let ws = take 16 (leading (parts 44 bs)) in ws ++ drop (length ws) lent

-- T10: further fields, each after a comma
abbrev pub render_more : List ℕ → List ℕ
render_more [] = []
render_more (w ∷ ws) = 44 ∷ (render_field w ++ render_more ws)

-- T10
unfoldable pub render_fields : List ℕ → List ℕ
render_fields [] = 45 ∷ []
render_fields (w ∷ ws) = render_field w ++ render_more ws
