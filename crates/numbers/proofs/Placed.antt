-- Parts that are placed one after another.
use Prim.Native.Nat.{ℕ, ◌+◌, ◌≤◌}
use mathlib.Core.Path.{◌≡◌, subst}
use mathlib.Core.List.{List, [], ◌++◌}
use native.Mathlib.Omega.{arith}
use lib.ListN.{length}
use Rattle.numbers.specs.Written.{Written}
use Rattle.numbers.proofs.Placing.{written_none, left-room, right-room, written_both}

-- from `at` on, ys is left of the whole, which begins at `at₀`
pub record Unfinished (out₀ : List ℕ) (at₀ : ℕ) (whole out : List ℕ) (at : ℕ) (ys : List ℕ) : Type 0 where
  pub room : at + length ys ≤ length out
  pub completes : (after : List ℕ) (end : ℕ) → Written out at ys after end → Written out₀ at₀ whole after end

pub begun : (out : List ℕ) (at : ℕ) (whole : List ℕ) → at + length whole ≤ length out → Unfinished out at whole out at whole
begun out at whole h = record { room = h; completes = λ after end w. w }

-- by what it is, and from the front
pub begun-as : {out : List ℕ} {at : ℕ} {whole ys : List ℕ} → whole ≡ ys → at + length whole ≤ length out → Unfinished out at whole out at ys
begun-as {out} {at} {whole} {ys} e h = subst (λ (l : List ℕ). Unfinished out at whole out at l) e (begun out at whole h)

pub begun-front : (out whole : List ℕ) → length whole ≤ length out → Unfinished out 0 whole out 0 whole
begun-front out whole h = begun out 0 whole (omega arith)

module _ {out₀ : List ℕ} {at₀ : ℕ} {whole out : List ℕ} {at : ℕ} (xs ys : List ℕ) (u : Unfinished out₀ at₀ whole out at (xs ++ ys)) where
  pub part_room : at + length xs ≤ length out
  part_room = left-room out at xs ys u.room

  pub part-done : {mid : List ℕ} {next : ℕ} → Written out at xs mid next → Unfinished out₀ at₀ whole mid next ys
  part-done {mid} {next} w =
      record {
        room = right-room out at xs ys u.room mid next w;
        completes = λ after end v. u.completes after end (written_both out at xs ys u.room mid next after end w v);
      }

-- nothing is left
pub finished : {out₀ : List ℕ} {at₀ : ℕ} {whole out : List ℕ} {at : ℕ} → Unfinished out₀ at₀ whole out at [] → Written out₀ at₀ whole out at
finished {out₀} {at₀} {whole} {out} {at} u = u.completes out at (written_none out at)
