-- The code's answers, as the rules' words and numbers.
use Rattle.std.specs.Prelude.{not, List, ◌∷◌, ◌++◌, ℕ, ◌+◌, ◌≤◌, ℤ, take, drop, Option, Some, None, Result, Ok, Err}
use Rattle.std.proofs.Math.Option as rule
use Rattle.rules.specs.Partitions.{sets}
use Rattle.rules.specs.Fields.{names_in}
use Rattle.rules.specs.Matching.{Pair, stored_pair, Op, matches}
use Rattle.rules.specs.State.{give_all}
use Rattle.rules.specs.Calls.{Answer, done, found, nothing, refused, first_that_applies, seek_table}
use Rattle.rules.specs.Words.{row_start, encode, decode, sound}
use Rattle.refusal.specs.Numbers.{number}
use Rattle.refusal.specs.declared.Refusal.{Refusal}
use Rattle.search.specs.Place.{place}

-- C5: "done", or the refusal's number
abbrev pub done_meant : Result (Unit {0}) Refusal → Answer
done_meant (Ok u) = done
done_meant (Err r) = refused (number r)

-- C5: "found" with the count, "none", or the refusal's number
abbrev pub found_meant : Result (Option ℕ) Refusal → Answer
found_meant (Ok (Some n)) = found n
found_meant (Ok None) = nothing
found_meant (Err r) = refused (number r)

-- C5: the answers that calls give: at most 8 fields, and a refusal of at most 14
abbrev pub Small : Answer → Type 0
Small done = Unit {0}
Small (found n) = n ≤ 8
Small nothing = Unit {0}
Small (refused n) = n ≤ 14

-- C5: "found" with the count n, "none", or the refusal's number, by what was sought
abbrev pub answered : Result (Option ℕ) ℕ → ℕ → Answer
answered (Ok (Some r)) n = found n
answered (Ok None) n = nothing
answered (Err k) n = refused k

abbrev pub sought_by : rule.Option ℕ → Option ℕ → Result (Option ℕ) ℕ
sought_by (rule.some n) f = Err n
sought_by rule.none f = Ok f

-- R1 to R7, R13, R14, M5: the first refusal that applies, or where the search finds the oldest match
unfoldable pub sought_in : List ℕ → Op → ℕ → Pair ℤ → List ℕ → ℕ → Result (Option ℕ) ℕ
sought_in ws op who p t room =
    sought_by (first_that_applies ((not (sound ws), 1) ∷ seek_table sets (decode ws) who p t room)) (place (matches sets op (stored_pair p) t) (decode ws).entries)

-- L4: the first n field words of row r
abbrev pub fields_at : ℕ → ℕ → List ℕ → List ℕ
fields_at r n ws = take n (drop (row_start r + 6) ws)

-- C3, C8: the result once an entry was sought: the fields of the one found come first, or no word changes
abbrev pub written : Result (Option ℕ) ℕ → ℕ → List ℕ → List ℕ → List ℕ
written (Ok (Some r)) n ws result = fields_at r n ws ++ drop n result
written (Ok None) n ws result = result
written (Err k) n ws result = result

-- C3, C4: the space once the party holds the names in the fields of the entry found, before that is removed; or no word changes
abbrev pub granted : Result (Option ℕ) ℕ → ℕ → ℕ → List ℕ → List ℕ
granted (Ok (Some r)) who n ws = encode (give_all who (names_in (fields_at r n ws)) (decode ws))
granted (Ok None) who n ws = ws
granted (Err k) who n ws = ws
