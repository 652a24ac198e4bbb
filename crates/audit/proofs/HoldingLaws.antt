-- The holdings, tested key word by key word.
use mathlib.Core.Path.{◌≡◌, refl, sym, ap, ◌∙◌}
use mathlib.Core.Bool.{Bool, true, false, not, ◌&&◌, and-false, and-true}
use mathlib.Core.List.{List, [], ◌∷◌}
use Prim.Native.Nat.{ℕ, suc, ◌+◌}
use native.Mathlib.Numerals.{add-one}
use native.Mathlib.Omega.{arith}
use lib.ListN.{length, get_or, take, drop, length-take, length-drop}
use lib.Seq.{get_or-drop, drop-drop}
use Rattle.rules.specs.Lists.{all, from}
use Rattle.rules.specs.Names.{bit, held_in}
use Rattle.rules.specs.State.{holds}
use Rattle.rules.specs.Words.{decode, holdings_ok}
use Rattle.rules.proofs.ListLaws.{all_same}

-- S4, S5: key 0 is held, and bit 63 is clear
abbrev pub good : ℕ → Bool
good w = bit w 31 && not (bit w 63)

regroup : (x y a b : Bool) → ((x && a) && (y && b)) ≡ ((x && y) && (a && b))
regroup false y a b = refl
regroup true false a b = and-false a
regroup true true a b = refl

all-both : (p q : ℕ → Bool) (l : List ℕ) → all (λ w. p w && q w) l ≡ (all p l && all q l)
all-both p q [] = refl
all-both p q (w ∷ l) = ap (λ (b : Bool). (p w && q w) && b) (all-both p q l) ∙ regroup (p w) (all p l) (q w) (all q l)

-- a test of words, party by party: each party's word is the one in its place
by-place : (p : ℕ → Bool) (ks : List ℕ) (i : ℕ) (rest : List ℕ) → drop i ks ≡ rest → all (λ who. p (get_or ks who 0)) (from i (length rest)) ≡ all p rest
by-place p ks i [] e = refl
by-place p ks i (k ∷ rest) e =
    let here : get_or ks (i + 0) 0 ≡ k = sym (get_or-drop i ks 0 0) ∙ ap (λ (l : List ℕ). get_or l 0 0) e in
    let at : i + 0 ≡ i = omega arith in
    let next : drop (i + 1) ks ≡ rest = sym (drop-drop 1 i ks) ∙ ap (drop 1) e in
    rw (rw at at here, by-place p ks (suc i) rest (rw add-one at next)) refl

pub holdings-by : (ws : List ℕ) → length ws ≡ 1809 → all good (take 8 (drop 9 ws)) ≡ holdings_ok (decode ws)
unfolding decode holds held_in
holdings-by ws len =
    let keys : List ℕ = take 8 (drop 9 ws) in
    let eight : length keys ≡ 8 = simp (length-take, length-drop) (omega arith) in
    let has_key = λ (w : ℕ). bit w 31 && true in
    all_same good (λ w. has_key w && not (bit w 63)) (λ w. ap (λ (b : Bool). b && not (bit w 63)) (sym (and-true (bit w 31)))) keys
    ∙ all-both has_key (λ w. not (bit w 63)) keys
    ∙ ap (λ (b : Bool). b && all (λ w. not (bit w 63)) keys)
    (sym (by-place has_key keys 0 keys refl) ∙ ap (λ (n : ℕ). all (λ who. has_key (get_or keys who 0)) (from 0 n)) eight)
