-- What a call has passed once no test turns it away.
use Prim.Native.Nat.{ℕ, ◌≤◌, ◌<◌}
use mathlib.Core.Path.{◌≡◌, refl, sym, ap}
use mathlib.Core.Bool.{Bool, true, false, not, ◌||◌}
use mathlib.Core.Option.{none}
use mathlib.Core.List.{List, ◌∷◌}
use native.Mathlib.Omega.{arith}
use borrow.Author.Tests.{ltb-false}
use lib.Dec.{eqb, ltb}
use lib.IntN.{ℤ}
use lib.ListN.{length, get_or}
use Rattle.std.specs.Prelude.{Result, Ok, Err}
use Rattle.refusals.specs.Admissions.{admitted_by}
use Rattle.refusals.proofs.Tables.{same_Ok, same_Err, ok-err}
use Rattle.rules.specs.Names.{key_in_range}
use Rattle.rules.specs.Partitions.{sets}
use Rattle.rules.specs.Matching.{Pair}
use Rattle.rules.specs.Calls.{put, Table, first_that_applies, bad_pair, put_table, seek_table}
use Rattle.rules.specs.Words.{decode, sound}
use Rattle.rules.specs.Claims.{Passes}
use Rattle.rules.specs.Lists.{All}
use Rattle.rules.proofs.ListLaws.{passed, or_left, or_right, not-false}
use Rattle.rules.proofs.KeyLaws.{pair-in-range}
use Rattle.rules.proofs.Back.{decode-len}
use Rattle.rules.proofs.Decided.{passes-sound, passes-table}
use Rattle.rules.proofs.Demand2.{rows-suffice}

few-passed : (t : List ℕ) → (eqb (length t) 0 || ltb 8 (length t)) ≡ false → length t ≤ 8
few-passed t h = ltb-false 8 (length t) (or_right (eqb (length t) 0) (ltb 8 (length t)) h)

pub record SeekPassed (ws : List ℕ) (who : ℕ) (p : Pair ℤ) (t : List ℕ) (room : ℕ) : Type 0 where
  pub is_sound : sound ws ≡ true
  pub party : who < 8
  pub few : length t ≤ 8
  pub range : key_in_range p.key ≡ true
  pub fits : length t ≤ room

pub seek-passed : (ws : List ℕ) (who : ℕ) (p : Pair ℤ) (t : List ℕ) (room : ℕ)
    → first_that_applies ((not (sound ws), 1) ∷ seek_table sets (decode ws) who p t room) ≡ none → SeekPassed ws who p t room
unfolding seek_table
seek-passed ws who p t room e =
    let tests : Table = (not (sound ws), 1) ∷ seek_table sets (decode ws) who p t room in
    let r : All (λ t. t.0 ≡ false) tests = passed tests e in
    let h : who ≤ 7 = ltb-false 7 who r.1.0 in
    record {
      is_sound = not-false (sound ws) r.0;
      party = omega arith;
      few = few-passed t r.1.1.0;
      range = pair-in-range p r.1.1.1.0;
      fits = ltb-false room (length t) r.1.1.1.1.1.1.1.1.0;
    }

pub record PutPassed (ws : List ℕ) (r t : Pair ℤ) (fs : List ℕ) : Type 0 where
  pub is_sound : sound ws ≡ true
  pub few : length fs ≤ 8
  pub read_range : key_in_range r.key ≡ true
  pub take_range : key_in_range t.key ≡ true
  pub room : get_or ws 0 0 < 128

pub put-passed : (ws : List ℕ) (who : ℕ) (r t : Pair ℤ) (fs : List ℕ) → Passes ws (put who r t fs) → PutPassed ws r t fs
unfolding put_table
put-passed ws who r t fs e =
    let s : sound ws ≡ true = passes-sound ws (put who r t fs) e in
    let p : All (λ t. t.0 ≡ false) (put_table sets (decode ws) who r t fs) = passed (put_table sets (decode ws) who r t fs) (passes-table ws (put who r t fs) e) in
    let room : length (decode ws).entries < 128 = (rows-suffice ws s).1 who r t fs e in
    record {
      is_sound = s;
      few = few-passed fs p.1.0;
      read_range = pair-in-range r (or_left (bad_pair sets r) (bad_pair sets t) p.1.1.0);
      take_range = pair-in-range t (or_right (bad_pair sets r) (bad_pair sets t) p.1.1.0);
      room = omega (arith, decode-len ws);
    }

-- an admission, back to its verdict
pub admitted-refused : (v : Result (Unit {0}) ℕ) (p : Bool) (n : ℕ) → Err n ≡ admitted_by v p → Err n ≡ v
admitted-refused (Err k) p n e = ap (λ (j : ℕ). Err j) (same_Err n k e)
admitted-refused (Ok u) p n e = absurd (ok-err (not p) n (sym e))

pub admitted-passed : (v : Result (Unit {0}) ℕ) (p b : Bool) → Ok b ≡ admitted_by v p → (Ok tt ≡ v) × (b ≡ not p)
admitted-passed (Err k) p b e = absurd (ok-err b k e)
admitted-passed (Ok u) p b e = (refl, same_Ok b (not p) e)
