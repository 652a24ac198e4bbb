-- Lists of starts: the entry for a row, and how one check of all entries gives the rule at each.
use mathlib.Core.Path.{◌≡◌, refl, ap, ◌∙◌}
use mathlib.Core.Logic.{◌⊎◌, inl, inr}
use mathlib.Core.Bool.{Bool, true, false, ◌&&◌, cond}
use mathlib.Core.List.{List, [], ◌∷◌}
use Prim.Native.Nat.{ℕ, zero, suc, ◌+◌, ◌<◌, ◌≤◌}
use native.Mathlib.Omega.{arith}
use borrow.Author.Tests.{eq-eqb, ne_eqb, eqb-true, eqb-false, leb-true, leb-false}
use lib.Dec.{eqb, leb}
use lib.ListN.{length, get_or, take, drop}
use Rattle.rules.proofs.ListLaws.{bool, and_left, and_right}
use Rattle.rules.specs.Words.{row_start}
use Rattle.starts.specs.Listed.{listed}

-- the entry in place i is the one for row first + i
pub listed_at : (xs : List ℕ) (first row beyond i : ℕ) → row ≡ first + i → i < length xs → listed xs first row beyond ≡ get_or xs i 0
unfolding listed
listed_at [] first row beyond i e l = absurd (omega arith)
listed_at (x ∷ xs) first row beyond zero e l = rw (eq-eqb row first (omega arith))
listed_at (x ∷ xs) first row beyond (suc i) e l =
    let h : (row ≡ first) → ⊥ = λ q. omega arith in
    rw (ne_eqb row first h) (listed_at xs (suc first) row beyond i (omega arith) (omega arith))

-- a row that no entry is for
pub listed-none : (xs : List ℕ) (first row beyond : ℕ) → ((i : ℕ) → i < length xs → row ≡ first + i → ⊥) → listed xs first row beyond ≡ beyond
unfolding listed
listed-none [] first row beyond h = refl
listed-none (x ∷ xs) first row beyond h =
    rw (ne_eqb row first (λ e. h 0 (omega arith) (omega arith)))
    (listed-none xs (suc first) row beyond (λ i l e. h (suc i) (omega arith) (omega arith)))

-- a list is its first n entries, and beyond them the others
listed-part : (n : ℕ) (xs : List ℕ) (first row beyond : ℕ) → n ≤ length xs
    → listed (take n xs) first row (listed (drop n xs) (first + n) row beyond) ≡ listed xs first row beyond
unfolding listed
listed-part zero xs first row beyond l = let e : first + 0 ≡ first = omega arith in ap (λ (k : ℕ). listed xs k row beyond) e
listed-part (suc n) [] first row beyond l = absurd (omega arith)
listed-part (suc n) (x ∷ xs) first row beyond l =
    let e : first + suc n ≡ suc first + n = omega arith in
    let k : n ≤ length xs = omega arith in
    ap (cond (eqb row first) x)
    (ap (λ (k : ℕ). listed (take n xs) (suc first) row (listed (drop n xs) k row beyond)) e ∙ listed-part n xs (suc first) row beyond k)

-- a line of eight, where what stands beyond it is the answer of the lines after it
pub listed-line : (xs : List ℕ) (first row beyond : ℕ) {rest answer : ℕ} → 8 ≤ length xs → rest ≡ listed (drop 8 xs) (first + 8) row beyond
    → answer ≡ listed (take 8 xs) first row rest → answer ≡ listed xs first row beyond
listed-line xs first row beyond l e h = h ∙ ap (listed (take 8 xs) first row) e ∙ listed-part 8 xs first row beyond l

-- eight tests, four at a time: `omega` splits no more than six
lower : (first row : ℕ) → (row ≡ first → ⊥) → (row ≡ first + 1 → ⊥) → (row ≡ first + 2 → ⊥) → (row ≡ first + 3 → ⊥)
    → (i : ℕ) → i < 4 → row ≡ first + i → ⊥
lower first row a b c d i l e = omega arith

upper : (first row : ℕ) → (row ≡ first + 4 → ⊥) → (row ≡ first + 5 → ⊥) → (row ≡ first + 6 → ⊥) → (row ≡ first + 7 → ⊥)
    → (i : ℕ) → 4 ≤ i → i < 8 → row ≡ first + i → ⊥
upper first row a b c d i k l e = omega arith

pub none-of-eight : (first row : ℕ) → (row ≡ first → ⊥) → (row ≡ first + 1 → ⊥) → (row ≡ first + 2 → ⊥) → (row ≡ first + 3 → ⊥)
    → (row ≡ first + 4 → ⊥) → (row ≡ first + 5 → ⊥) → (row ≡ first + 6 → ⊥) → (row ≡ first + 7 → ⊥)
    → (i : ℕ) → i < 8 → row ≡ first + i → ⊥
none-of-eight first row a b c d e f g h i l q = go (bool (leb 4 i))
  where
    go : (leb 4 i ≡ true) ⊎ (leb 4 i ≡ false) → ⊥
    go (inl t) = upper first row e f g h i (leb-true 4 i t) l q
    go (inr t) = lower first row a b c d i (leb-false 4 i t) q

-- the check: every entry is the start of its row
abbrev pub agree : ℕ → List ℕ → Bool
agree first [] = true
agree first (x ∷ xs) = eqb x (row_start first) && agree (suc first) xs

-- the law: where the check holds, each entry is the rule's
pub agree_at : (xs : List ℕ) (first row beyond : ℕ) → agree first xs ≡ true → first ≤ row → row < first + length xs
    → listed xs first row beyond ≡ row_start row
unfolding listed
agree_at [] first row beyond h l u = absurd (omega arith)
agree_at (x ∷ xs) first row beyond h l u =
    go (bool (eqb row first))
    (λ k. agree_at xs (suc first) row beyond (and_right (eqb x (row_start first)) (agree (suc first) xs) h) (omega arith) (omega arith))
  where
    go : (eqb row first ≡ true) ⊎ (eqb row first ≡ false) → (first < row → listed xs (suc first) row beyond ≡ row_start row)
        → listed (x ∷ xs) first row beyond ≡ row_start row
    go (inl t) again =
        let here : row ≡ first = eqb-true row first t in
        let right : x ≡ row_start first = eqb-true x (row_start first) (and_left (eqb x (row_start first)) (agree (suc first) xs) h) in
        rw t (omega arith)
    go (inr f) again = let there : (row ≡ first) → ⊥ = eqb-false row first f in rw f (again (omega arith))

-- L4: the list of the code, eight to a line
abbrev pub starts : List ℕ
starts =
    17 ∷ 31 ∷ 45 ∷ 59 ∷ 73 ∷ 87 ∷ 101 ∷ 115 ∷
    129 ∷ 143 ∷ 157 ∷ 171 ∷ 185 ∷ 199 ∷ 213 ∷ 227 ∷
    241 ∷ 255 ∷ 269 ∷ 283 ∷ 297 ∷ 311 ∷ 325 ∷ 339 ∷
    353 ∷ 367 ∷ 381 ∷ 395 ∷ 409 ∷ 423 ∷ 437 ∷ 451 ∷
    465 ∷ 479 ∷ 493 ∷ 507 ∷ 521 ∷ 535 ∷ 549 ∷ 563 ∷
    577 ∷ 591 ∷ 605 ∷ 619 ∷ 633 ∷ 647 ∷ 661 ∷ 675 ∷
    689 ∷ 703 ∷ 717 ∷ 731 ∷ 745 ∷ 759 ∷ 773 ∷ 787 ∷
    801 ∷ 815 ∷ 829 ∷ 843 ∷ 857 ∷ 871 ∷ 885 ∷ 899 ∷
    913 ∷ 927 ∷ 941 ∷ 955 ∷ 969 ∷ 983 ∷ 997 ∷ 1011 ∷
    1025 ∷ 1039 ∷ 1053 ∷ 1067 ∷ 1081 ∷ 1095 ∷ 1109 ∷ 1123 ∷
    1137 ∷ 1151 ∷ 1165 ∷ 1179 ∷ 1193 ∷ 1207 ∷ 1221 ∷ 1235 ∷
    1249 ∷ 1263 ∷ 1277 ∷ 1291 ∷ 1305 ∷ 1319 ∷ 1333 ∷ 1347 ∷
    1361 ∷ 1375 ∷ 1389 ∷ 1403 ∷ 1417 ∷ 1431 ∷ 1445 ∷ 1459 ∷
    1473 ∷ 1487 ∷ 1501 ∷ 1515 ∷ 1529 ∷ 1543 ∷ 1557 ∷ 1571 ∷
    1585 ∷ 1599 ∷ 1613 ∷ 1627 ∷ 1641 ∷ 1655 ∷ 1669 ∷ 1683 ∷
    1697 ∷ 1711 ∷ 1725 ∷ 1739 ∷ 1753 ∷ 1767 ∷ 1781 ∷ 1795 ∷ []

-- the single check of all its entries, which the prover computes
pub starts-checked : agree 0 starts ≡ true
starts-checked = refl
