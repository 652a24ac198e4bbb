-- Bytes written one part after another.
use Prim.Native.Nat.{ℕ, ◌+◌, ◌-◌, ◌≤◌, ◌<◌}
use mathlib.Core.Path.{◌≡◌, refl, sym, ap, ◌∙◌}
use mathlib.Core.List.{List, [], ◌∷◌, ◌++◌, append_assoc}
use native.Mathlib.Nat.{add_assoc}
use native.Mathlib.Numerals.{add-one}
use native.Mathlib.Omega.{arith}
use borrow.Rule.Slice.PartMut.{put_mid}
use lib.ListN.{length, set, take, drop, length-append, length-take, length-drop, take-append-drop}
use lib.Seq.{set_split, take_at, drop_at, drop-drop}
use Rattle.numbers.specs.Written.{placed, Written}

opened : (out : List ℕ) (at : ℕ) (xs : List ℕ) → placed out at xs ≡ take at out ++ (xs ++ drop (at + length xs) out)
unfolding placed
opened out at xs = refl

module _ (out : List ℕ) (at : ℕ) (xs : List ℕ) (room : at + length xs ≤ length out) where
  front : length (take at out ++ xs) ≡ at + length xs
  front = simp (length-append, length-take) (omega arith)

  split : placed out at xs ≡ (take at out ++ xs) ++ drop (at + length xs) out
  split = opened out at xs ∙ sym (append_assoc (take at out) xs (drop (at + length xs) out))

  pub length-placed : length (placed out at xs) ≡ length out
  length-placed = rw split (simp (length-append, length-take, length-drop) (omega arith))

  take-placed : take (at + length xs) (placed out at xs) ≡ take at out ++ xs
  take-placed = rw split (take_at (take at out ++ xs) (drop (at + length xs) out) (at + length xs) front)

  drop-placed : drop (at + length xs) (placed out at xs) ≡ drop (at + length xs) out
  drop-placed = rw split (drop_at (take at out ++ xs) (drop (at + length xs) out) (at + length xs) front)

  placed_on : (ys : List ℕ) → placed (placed out at xs) (at + length xs) ys ≡ placed out at (xs ++ ys)
  placed_on ys =
      let P : List ℕ = placed out at xs in
      let far : drop (at + length xs + length ys) P ≡ drop (at + length (xs ++ ys)) out =
      sym (drop-drop (length ys) (at + length xs) P) ∙ ap (drop (length ys)) drop-placed
      ∙ drop-drop (length ys) (at + length xs) out
      ∙ ap (λ (n : ℕ). drop n out) (add_assoc at (length xs) (length ys) ∙ ap (λ (n : ℕ). at + n) (sym (length-append xs ys))) in
      let D : List ℕ = drop (at + length (xs ++ ys)) out in
      opened P (at + length xs) ys
      ∙ rw (take-placed, far) (append_assoc (take at out) xs (ys ++ D) ∙ ap (λ (l : List ℕ). take at out ++ l) (sym (append_assoc xs ys D)))
      ∙ sym (opened out at (xs ++ ys))

-- as many bytes as the slice from there on has
pub written_slice : (out : List ℕ) (at : ℕ) (bs : List ℕ) → Written out at bs (put_mid at (at + length bs - at) out bs) (at + length bs)
unfolding placed
written_slice out at bs =
    let e : at + length bs - at ≡ length bs = omega arith in
    record { bytes = rw (e, drop-drop (length bs) at out) refl; ends = refl }

-- one byte
pub written_byte : (out : List ℕ) (at b : ℕ) → at < length out → Written out at (b ∷ []) (set out at b) (at + 1)
unfolding placed
written_byte out at b h = record { bytes = set_split out at b h ∙ rw add-one; ends = refl }

-- a part, and then a part from its end on
pub written_on : {out : List ℕ} {at : ℕ} {xs ys mid after : List ℕ} {next end : ℕ} → at + length xs ≤ length out
    → Written out at xs mid next → Written mid next ys after end → Written out at (xs ++ ys) after end
written_on {out} {at} {xs} {ys} room a b =
    record {
      bytes = b.bytes ∙ rw (a.bytes, a.ends) (placed_on out at xs room ys);
      ends = b.ends ∙ rw (a.ends, length-append xs ys) (add_assoc at (length xs) (length ys));
    }

-- room for two parts is room for the first, and then for the second
module _ (out : List ℕ) (at : ℕ) (xs ys : List ℕ) (room : at + length (xs ++ ys) ≤ length out) where
  pub left-room : at + length xs ≤ length out
  left-room = let l = length-append xs ys in omega arith

  pub right-room : (mid : List ℕ) (next : ℕ) → Written out at xs mid next → next + length ys ≤ length mid
  right-room mid next w =
      let l = length-append xs ys in
      let same : length mid ≡ length out = ap length w.bytes ∙ length-placed out at xs left-room in
      omega (arith, w.ends)

  pub written_both : (mid : List ℕ) (next : ℕ) (after : List ℕ) (end : ℕ) → Written out at xs mid next → Written mid next ys after end
      → Written out at (xs ++ ys) after end
  written_both mid next after end a b = written_on left-room a b

pub written_none : (out : List ℕ) (at : ℕ) → Written out at [] out at
unfolding placed
written_none out at =
    let e : at + 0 ≡ at = omega arith in
    record { bytes = rw e (sym (take-append-drop at out)); ends = sym e }

-- what is written from the front fits where it is
pub written-fits : {out bs after : List ℕ} {end : ℕ} → Written out 0 bs after end → end ≤ length after
unfolding placed
written-fits {out} {bs} w = let l = ap length w.bytes ∙ length-append bs (drop (0 + length bs) out) in omega (arith, w.ends)
