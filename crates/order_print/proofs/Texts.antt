-- The texts that are printed, by the parts that the code writes one after another.
use Prim.Native.Nat.{ℕ, ◌+◌, ◌*◌, ◌≤◌, ◌<◌}
use mathlib.Core.Path.{◌≡◌, refl}
use mathlib.Core.Logic.{inl, inr}
use mathlib.Core.List.{List, [], ◌∷◌, ◌++◌}
use native.Mathlib.Numerals.{add-one}
use native.Mathlib.Omega.{arith}
use lib.ListN.{length, get_or, drop, length-append, drop_of_length-le}
use lib.Seq.{drop-cons}
use Rattle.rules.specs.Lists.{In}
use Rattle.numbers.specs.Numbers.{decimal}
use Rattle.numbers.proofs.Decimal.{decimal-small}
use Rattle.order_print.specs.Printed.{parties_text, order_text, circle_text}

-- ---- party by party

module _ (ps : List ℕ) (i : ℕ) where
  pub one-party : i < length ps → parties_text (drop i ps) ≡ (32 ∷ []) ++ (decimal (get_or ps i 0) ++ parties_text (drop (i + 1) ps))
  one-party h = rw (add-one, drop-cons ps i 0)

  pub no-parties : length ps ≤ i → parties_text (drop i ps) ≡ []
  no-parties h = rw (drop_of_length-le ps h)

-- ---- how many bytes they take

one-digit : (p : ℕ) → p < 8 → length (decimal p) ≡ 1
one-digit p h = rw (decimal-small p (omega arith))

parties-length : (ps : List ℕ) → ((p : ℕ) → In p ps → p < 8) → length (parties_text ps) ≡ 2 * length ps
parties-length [] h = refl
parties-length (p ∷ ps) h =
    let d = one-digit p (h p (inl refl)) in
    let l = length-append (decimal p) (parties_text ps) in
    let r = parties-length ps (λ q i. h q (inr i)) in
    omega arith

-- a line that is printed has at most 22 bytes
pub order-short : (ps : List ℕ) → ((p : ℕ) → In p ps → p < 8) → length ps ≡ 8 → length (order_text ps) ≤ 22
unfolding order_text
order-short ps h e =
    let r = parties-length ps h in
    let l = length-append (parties_text ps) (10 ∷ []) in
    omega arith

pub circle-short : (p : ℕ) → p < 8 → length (circle_text p) ≤ 22
unfolding circle_text
circle-short p h =
    let d = one-digit p h in
    let l = length-append (decimal p) (10 ∷ []) in
    omega arith
