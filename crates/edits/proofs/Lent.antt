-- The rows lent from their starts on: how the words of a sound space change where one is written, or where they close up.
use mathlib.Core.Path.{◌≡◌, sym}
use mathlib.Core.Bool.{true}
use mathlib.Core.List.{List, [], ◌∷◌, ◌++◌}
use Prim.Native.Nat.{ℕ, suc, ◌+◌, ◌*◌, ◌-◌, ◌<◌}
use native.Mathlib.Omega.{arith}
use borrow.Rule.Slice.PartMut.{put_mid, Post-is}
use lib.ListN.{get_or, take, drop, set}
use Rattle.rules.specs.Matching.{Entry}
use Rattle.rules.specs.State.{with_entries}
use Rattle.rules.specs.Words.{row_start, zeros, row_of, encode, decode, sound}
use Rattle.rules.proofs.Back.{sound-facts}
use Rattle.rules.proofs.Edits.{put-edit, take-edit}

-- C2: the row past the live ones is written, and word 0 is more by one
pub added : (ws row : List ℕ) (e : Entry) {at : ℕ} → sound ws ≡ true → get_or ws 0 0 < 128 → at ≡ row_start (get_or ws 0 0) → row ≡ row_of e
    → set (put_mid at (at + 14 - at) ws row) 0 (get_or ws 0 0 + 1) ≡ encode (with_entries ((decode ws).entries ++ (e ∷ [])) (decode ws))
added ws row e {at} s l from is =
    let len = (sound-facts ws s).len in
    let to : at + 14 ≡ 31 + 14 * get_or ws 0 0 = omega arith in
    rw (is, Post-is at (at + 14) ws (omega arith), to, from) (sym (put-edit ws s e l))

-- C4: the live rows from row r on close up, and word 0 is less by one
pub removed : (ws part : List ℕ) (r : ℕ) {at end : ℕ} → sound ws ≡ true → r < get_or ws 0 0 → at ≡ row_start r → end ≡ row_start (get_or ws 0 0)
    → part ≡ drop 14 (take (end - at) (drop at ws)) ++ zeros 14
    → set (put_mid at (end - at) ws part) 0 (get_or ws 0 0 - 1)
    ≡ encode (with_entries (take r (decode ws).entries ++ drop (suc r) (decode ws).entries) (decode ws))
removed ws part r {at} {end} s l from to is =
    let facts = sound-facts ws s in
    let k : end - at ≡ 14 * (get_or ws 0 0 - r) = omega arith in
    rw (is, Post-is at end ws (omega arith), k, from, to) (sym (take-edit ws s r l))
