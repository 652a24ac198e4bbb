-- The first test of a table that applies: of a table in parts, and of the tables of calls.
use mathlib.Core.Path.{◌≡◌, refl, sym, ap, ap₂, ◌∙◌, subst}
use mathlib.Core.Logic.{◌⊎◌, inl, inr}
use mathlib.Core.Bool.{Bool, true, false, cond}
use mathlib.Core.Option.{Option, none, some}
use mathlib.Core.List.{List, [], ◌∷◌, ◌++◌}
use Prim.Native.Nat.{ℕ, ◌≤◌}
use native.Mathlib.Omega.{arith}
use lib.Dec.{ltb}
use lib.IntN.{ℤ}
use lib.ListN.{length}
use Rattle.rules.specs.Lists.{All}
use Rattle.rules.specs.Partitions.{sets}
use Rattle.rules.specs.Matching.{Pair, stored_pair}
use Rattle.rules.specs.State.{State}
use Rattle.rules.specs.Calls.{Table, first_that_applies, short_test, full_test, name_tests, put_tests, seek_tests, put_table, seek_table}
use Rattle.rules.specs.Claims.{FirstApplies}
use Rattle.rules.proofs.ListLaws.{bool}

-- what the first part says, or else the second
abbrev pub either : Option ℕ → Option ℕ → Option ℕ
either none p = p
either (some n) p = some n

pub first-append : (xs ys : Table) → first_that_applies (xs ++ ys) ≡ either (first_that_applies xs) (first_that_applies ys)
first-append [] ys = refl
first-append (x ∷ xs) ys = go (bool x.0) (first-append xs ys)
  where
    go : (x.0 ≡ true) ⊎ (x.0 ≡ false) → first_that_applies (xs ++ ys) ≡ either (first_that_applies xs) (first_that_applies ys)
        → first_that_applies (x ∷ (xs ++ ys)) ≡ either (first_that_applies (x ∷ xs)) (first_that_applies ys)
    go (inl h) again = rw h refl
    go (inr h) again = rw h again

pub in_order : (xs ys zs : Table)
    → first_that_applies (xs ++ (ys ++ zs)) ≡ either (first_that_applies xs) (either (first_that_applies ys) (first_that_applies zs))
in_order xs ys zs = rw (first-append xs (ys ++ zs), first-append ys zs) refl

-- with a test more before both
pub either-after : (b : Bool) (n : ℕ) (o p : Option ℕ) → cond b (some n) (either o p) ≡ either (cond b (some n) o) p
either-after true n o p = refl
either-after false n o p = refl

pub neither : (o p q : Option ℕ) → either o (either p q) ≡ none → (o ≡ none) × (p ≡ none)
neither none none q e = (refl, refl)
neither none (some n) q e = let z : ◌≡◌ {A = ℕ} 0 1 = cc in absurd (omega arith)
neither (some n) p q e = let z : ◌≡◌ {A = ℕ} 0 1 = cc in absurd (omega arith)

pub first-within : (most : ℕ) (ts : Table) (n : ℕ) → All (λ t. t.1 ≤ most) ts → first_that_applies ts ≡ some n → n ≤ most
first-within most [] n h e = let z : ◌≡◌ {A = ℕ} 0 1 = cc in absurd (omega arith)
first-within most (t ∷ ts) n h e = go (bool t.0) (first-within most ts n h.1)
  where
    go : (t.0 ≡ true) ⊎ (t.0 ≡ false) → (first_that_applies ts ≡ some n → n ≤ most) → n ≤ most
    go (inl b) r = let e' : some t.1 ≡ some n = rw b at e in let q : t.1 ≡ n = cc in subst (λ (k : ℕ). k ≤ most) q h.0
    go (inr b) r = r (rw b at e)

pub first-applies : (ts : Table) (n : ℕ) → first_that_applies ts ≡ some n → FirstApplies ts n
first-applies [] n e = let z : ◌≡◌ {A = ℕ} 0 1 = cc in absurd (omega arith)
first-applies (t ∷ ts) n e = go (bool t.0) (first-applies ts n)
  where
    go : (t.0 ≡ true) ⊎ (t.0 ≡ false) → (first_that_applies ts ≡ some n → FirstApplies ts n) → FirstApplies (t ∷ ts) n
    go (inl h) r =
        let e' : some t.1 ≡ some n = rw h at e in
        let q : t.1 ≡ n = cc in
        record { before = []; after = ts; table = ap₂ (λ (b : Bool) (m : ℕ). (b, m) ∷ ts) h q; none_before = tt }
    go (inr h) r =
        let q : FirstApplies ts n = r (rw h at e) in
        record { before = t ∷ q.before; after = q.after; table = ap (λ x. t ∷ x) q.table; none_before = (h, q.none_before) }

pub applies-first : (ts : Table) (n : ℕ) → FirstApplies ts n → first_that_applies ts ≡ some n
applies-first ts n h = rw h.table (go h.before h.none_before)
  where
    go : (before : Table) → All (λ t. t.0 ≡ false) before → first_that_applies (before ++ ((true, n) ∷ h.after)) ≡ some n
    go [] k = refl
    go (t ∷ ts) k = rw k.0 (go ts k.1)

-- R6, by whether the result is short
abbrev pub six : Bool → Option ℕ
six short = cond short (some 6) none

-- C7: the order of the tables: R2 to R5, then the names, then R6 or R8
pub seek-order : (s : State) (who : ℕ) (p : Pair ℤ) (t : List ℕ) (room : ℕ)
    → first_that_applies (seek_table sets s who p t room)
    ≡ either (first_that_applies (seek_tests sets [] who p t)) (either (first_that_applies (name_tests sets s who (stored_pair p ∷ []) t)) (six (ltb room (length t))))
unfolding seek_table
seek-order s who p t room = in_order (seek_tests sets [] who p t) (name_tests sets s who (stored_pair p ∷ []) t) (short_test t room)

-- so where no test applies, none of names does
pub seek-passed : (s : State) (who : ℕ) (p : Pair ℤ) (t : List ℕ) (room : ℕ) → first_that_applies (seek_table sets s who p t room) ≡ none
    → first_that_applies (name_tests sets s who (stored_pair p ∷ []) t) ≡ none
seek-passed s who p t room e =
    (neither (first_that_applies (seek_tests sets [] who p t)) (first_that_applies (name_tests sets s who (stored_pair p ∷ []) t)) (six (ltb room (length t)))
    (sym (seek-order s who p t room) ∙ e)).1

put_order : (s : State) (who : ℕ) (r t : Pair ℤ) (fs : List ℕ)
    → first_that_applies (put_table sets s who r t fs)
    ≡ either (first_that_applies (put_tests sets [] who r t fs))
    (either (first_that_applies (name_tests sets s who (stored_pair r ∷ stored_pair t ∷ []) fs)) (first_that_applies (full_test s who)))
unfolding put_table
put_order s who r t fs = in_order (put_tests sets [] who r t fs) (name_tests sets s who (stored_pair r ∷ stored_pair t ∷ []) fs) (full_test s who)

pub put-passed : (s : State) (who : ℕ) (r t : Pair ℤ) (fs : List ℕ) → first_that_applies (put_table sets s who r t fs) ≡ none
    → first_that_applies (name_tests sets s who (stored_pair r ∷ stored_pair t ∷ []) fs) ≡ none
put-passed s who r t fs e =
    (neither (first_that_applies (put_tests sets [] who r t fs)) (first_that_applies (name_tests sets s who (stored_pair r ∷ stored_pair t ∷ []) fs))
    (first_that_applies (full_test s who)) (sym (put_order s who r t fs) ∙ e)).1
