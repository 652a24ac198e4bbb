-- Field words: what kind of thing a word is, which names it carries, and what agrees with it.
use Rattle.std.specs.Prelude.{Bool, true, false, ◌||◌, cond, List, [], ◌∷◌, ◌++◌, ℕ, ◌+◌, ◌*◌, ◌/◌, ◌%◌, eqb, leb, ltb}
use Rattle.rules.specs.Names.{Name, partition, key}

-- F2: what a field word is; `at_least` and `at_most` are the bounds
pub data Field : Type 0 where
  message : ℕ → Field
  name : Name → Field
  wildcard : Field
  at_least : ℕ → Field
  at_most : ℕ → Field
  bad : Field

-- F2: by kind 0 to 5, each with its range of values; a larger kind is bad
abbrev pub field_of : ℕ → ℕ → Field
field_of kind value =
    cond (eqb kind 0) (message value)
    (cond (eqb kind 1) (cond (ltb value 64) (name (partition value)) bad)
    (cond (eqb kind 2) (cond (ltb value 63) (name (key value)) bad)
    (cond (eqb kind 3) (cond (eqb value 0) wildcard bad)
    (cond (eqb kind 4) (at_least value)
    (cond (eqb kind 5) (at_most value)
    bad)))))

-- F1: a field word is kind × 2^32 + value
unfoldable pub field : ℕ → Field
field w = field_of (w / 4294967296) (w % 4294967296)

-- F1, F2: the word of a field that carries the name
abbrev pub name_word : Name → ℕ
name_word (partition c) = 1 * 4294967296 + c
name_word (key k) = 2 * 4294967296 + k

-- F3: a message, a partition or a key: what a put may carry
abbrev pub is_data : Field → Bool
is_data (message v) = true
is_data (name n) = true
is_data wildcard = false
is_data (at_least v) = false
is_data (at_most v) = false
is_data bad = false

-- F2
abbrev pub is_wildcard : Field → Bool
is_wildcard (message v) = false
is_wildcard (name n) = false
is_wildcard wildcard = true
is_wildcard (at_least v) = false
is_wildcard (at_most v) = false
is_wildcard bad = false

-- F2
abbrev pub is_bound : Field → Bool
is_bound (message v) = false
is_bound (name n) = false
is_bound wildcard = false
is_bound (at_least v) = true
is_bound (at_most v) = true
is_bound bad = false

-- F3
unfoldable pub put_field : ℕ → Bool
put_field w = is_data (field w)

-- F4: what a template may carry
unfoldable pub template_field : ℕ → Bool
template_field w = is_data (field w) || (is_wildcard (field w) || is_bound (field w))

-- F5: the name in a field, if it carries one
abbrev pub name_in : Field → List Name
name_in (message v) = []
name_in (name n) = n ∷ []
name_in wildcard = []
name_in (at_least v) = []
name_in (at_most v) = []
name_in bad = []

-- F5: the names in a list of field words
abbrev pub names_in : List ℕ → List Name
names_in [] = []
names_in (w ∷ ws) = name_in (field w) ++ names_in ws

-- M2: a message that passes the test
abbrev pub message_that : (ℕ → Bool) → Field → Bool
message_that test (message v) = test v
message_that test (name n) = false
message_that test wildcard = false
message_that test (at_least v) = false
message_that test (at_most v) = false
message_that test bad = false

-- M2: what agrees with a template's field, the word t: anything, a message in the range of a bound, or the same word
abbrev pub agrees_with : Field → ℕ → ℕ → Bool
agrees_with wildcard t f = true
agrees_with (at_least v) t f = message_that (leb v) (field f)
agrees_with (at_most v) t f = message_that (λ m. leb m v) (field f)
agrees_with (message v) t f = eqb t f
agrees_with (name n) t f = eqb t f
agrees_with bad t f = eqb t f

-- M2: a template's field agrees with an entry's
unfoldable pub field_agrees : ℕ → ℕ → Bool
field_agrees t f = agrees_with (field t) t f
