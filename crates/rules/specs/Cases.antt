-- The twelve cases, (a) to (l), as one table.
use Rattle.std.specs.Prelude.{◌≡◌, Bool, true, false, List, [], ◌∷◌, ◌++◌, ℕ, zero, suc, ◌*◌, ◌^◌, ℤ, pos, negsuc}
use Rattle.rules.specs.Lists.{All}
use Rattle.rules.specs.Names.{Name, partition, key, co_key, stored, default_partition, set_bit}
use Rattle.rules.specs.Partitions.{only}
use Rattle.rules.specs.Fields.{name, field, name_word}
use Rattle.rules.specs.Matching.{Pair, pair, Op, receiving, taking}
use Rattle.rules.specs.State.{holds}
use Rattle.rules.specs.Calls.{Call, put, seek, done, found, nothing, refused}
use Rattle.rules.specs.Words.{zeros, decode, opening}
use Rattle.rules.specs.Runs.{run, Reply, replies}

-- field words as the console writes them: m, p, k and *
abbrev pub m : ℕ → ℕ
m v = v

abbrev pub p : ℕ → ℕ
p c = name_word (partition c)

abbrev pub k : ℤ → ℕ
k v = name_word (key (stored v))

abbrev pub any : ℕ
any = 3 * 4294967296

-- party 0 has partition 5 and key 4, party 1 partition 5 and key -4
abbrev pub roster : List ℕ
roster = (2 ^ 5 ∷ 2 ^ 5 ∷ zeros 6) ++ (2 ^ 35 ∷ 2 ^ 27 ∷ zeros 6)

-- for (k), parties 0 and 2 have partition 0 besides
abbrev pub with_default : List ℕ
with_default = set_bit 0 default_partition (set_bit 2 default_partition roster)

-- the space as an opening leaves it, over old contents of 0
abbrev pub start : List ℕ → List ℕ
start listed = (opening (zeros 1809) listed).space

-- a case: what is asked, and what is expected
pub data Case : Type 0 where
  -- opened anew with the roster, the calls in a row get these answers and fields
  answered : List ℕ → List (Call (List ℕ)) → List Reply → Case
  -- after these calls, the party holds the name, or doesn't
  held : List ℕ → List (Call (List ℕ)) → ℕ → Name → Bool → Case
  -- the key's co-key
  co_keys : ℤ → ℤ → Case
  -- the name's word
  worded : Name → ℕ → Case

abbrev pub Follows : Case → Type 0
Follows (answered listed cs rs) = replies (λ c. true) (start listed) cs ≡ rs
Follows (held listed cs who n b) = holds (decode (run (start listed) cs)) who n ≡ b
Follows (co_keys a b) = co_key a ≡ b
Follows (worded n w) = (name_word n ≡ w) × (field w ≡ name n)

-- the pair of the set of partition 5 with key 4, and with key -4
abbrev pub own : Pair ℤ
own = pair (only 5) (pos 4)

abbrev pub other : Pair ℤ
other = pair (only 5) (negsuc 3)

-- partition 0 with key 0
abbrev pub defaults : Pair ℤ
defaults = pair (only 0) (pos 0)

abbrev pub asks : Op → ℕ → Pair ℤ → List ℕ → Call (List ℕ)
asks op who q t = seek op who q t (zeros 8)

abbrev pub puts : ℕ → Pair ℤ → List ℕ → Call (List ℕ)
puts who q fs = put who q q fs

-- n times the same, before the rest
abbrev pub times : {A : Type 0} → ℕ → A → List A → List A
times zero x xs = xs
times (suc n) x xs = x ∷ times n x xs

abbrev pub carrying : List (Call (List ℕ))
carrying = puts 0 defaults (p 5 ∷ k (pos 4) ∷ []) ∷ asks receiving 2 defaults (any ∷ any ∷ []) ∷ []

abbrev pub twelve : List Case
twelve =
    -- (a) to (e)
    answered roster
    (puts 0 own (m 7 ∷ m 120 ∷ [])
    ∷ asks receiving 1 other (m 7 ∷ any ∷ [])
    ∷ asks taking 0 other (any ∷ any ∷ [])
    ∷ asks taking 1 other (any ∷ any ∷ [])
    ∷ asks receiving 1 other (any ∷ any ∷ [])
    ∷ [])
    ((done, []) ∷ (found 2, m 7 ∷ m 120 ∷ []) ∷ (refused 14, []) ∷ (found 2, m 7 ∷ m 120 ∷ []) ∷ (nothing, []) ∷ [])
    -- (f)
    ∷ co_keys (pos 31) (negsuc 30)
    ∷ co_keys (pos 0) (pos 0)
    -- (g)
    ∷ worded (partition 5) 4294967301
    -- (h)
    ∷ worded (key (stored (pos 4))) 8589934627
    -- (i)
    ∷ answered roster
    (puts 0 own (m 1 ∷ []) ∷ puts 0 own (m 2 ∷ []) ∷ asks taking 1 other (any ∷ []) ∷ [])
    ((done, []) ∷ (done, []) ∷ (found 1, m 1 ∷ []) ∷ [])
    -- (j)
    ∷ answered roster
    (times 17 (puts 0 own (m 1 ∷ [])) (asks taking 1 other (any ∷ []) ∷ puts 0 own (m 1 ∷ []) ∷ []))
    (times 16 (done, []) ((refused 8, []) ∷ (found 1, m 1 ∷ []) ∷ (done, []) ∷ []))
    -- (k)
    ∷ answered with_default carrying ((done, []) ∷ (found 2, p 5 ∷ k (pos 4) ∷ []) ∷ [])
    ∷ held with_default carrying 2 (partition 5) true
    ∷ held with_default carrying 2 (key (stored (pos 4))) true
    ∷ held with_default carrying 2 (key (stored (negsuc 3))) false
    -- (l)
    ∷ answered roster (puts 8 defaults [] ∷ []) ((refused 2, []) ∷ [])
    ∷ []

abbrev pub TwelveCases : Type 0
TwelveCases = All Follows twelve
