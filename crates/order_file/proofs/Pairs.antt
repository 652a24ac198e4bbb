-- A line by its items: two numbers, with no blank in the second.
use Prim.Native.Nat.{ℕ, ◌+◌, ◌*◌, ◌≤◌}
use mathlib.Core.Path.{◌≡◌, refl, sym, ap, ◌∙◌}
use mathlib.Core.Logic.{◌⊎◌, inl, inr}
use mathlib.Core.Bool.{true, false, ◌&&◌, cond}
use mathlib.Core.List.{List, [], ◌∷◌}
use mathlib.Core.Option.{Option, none, some}
use native.Mathlib.Omega.{arith}
use borrow.Author.Tests.{leb-true, ne_eqb}
use lib.Dec.{eqb, leb}
use Rattle.std.specs.Prelude.{Some, None}
use Rattle.rules.specs.Lists.{all}
use Rattle.rules.proofs.ListLaws.{bool, clash, and_left, and_right}
use Rattle.numbers.specs.Numbers.{is_digit, starts_well, natural}
use Rattle.numbers.specs.Parts.{before, beyond, parts}
use Rattle.numbers.proofs.NumbersBack.{free, part-last}
use Rattle.order_file.specs.File.{both, pair_by, read_pair}
use Rattle.order_file.specs.Answers.{capped, party_of, word_in}

-- ---- the items

digits-free : (bs : List ℕ) → all is_digit bs ≡ true → free 32 bs ≡ true
digits-free [] e = refl
digits-free (b ∷ bs) e =
    let d : is_digit b ≡ true = and_left (is_digit b) (all is_digit bs) e in
    let n : b ≡ 32 → ⊥ = λ q. clash (is_digit b) d (ap is_digit q) in
    rw (ne_eqb b 32 n) (digits-free bs (and_right (is_digit b) (all is_digit bs) e))

natural-free : (bs : List ℕ) (v : ℕ) → natural bs ≡ some v → free 32 bs ≡ true
unfolding natural
natural-free bs v e = go (bool (starts_well bs && all is_digit bs)) e
  where
    go : ((starts_well bs && all is_digit bs) ≡ true) ⊎ ((starts_well bs && all is_digit bs) ≡ false) → natural bs ≡ some v → free 32 bs ≡ true
    go (inl t) h = digits-free bs (and_right (starts_well bs) (all is_digit bs) t)
    go (inr f) h = let k : none ≡ some v = rw f at h in absurd cc

before-all : (bs : List ℕ) → beyond 32 bs ≡ [] → before 32 bs ≡ bs
before-all [] e = refl
before-all (b ∷ bs) e =
    elim (eqb b 32) as (λ t. cond t (before 32 bs ∷ beyond 32 bs) (beyond 32 bs) ≡ [] → cond t [] (b ∷ before 32 bs) ≡ b ∷ bs)
    [ true ↦ λ k. absurd cc | false ↦ λ k. ap (λ (l : List ℕ). b ∷ l) (before-all bs k) ] e

both-none : (o : Option ℕ) → both o none ≡ none
both-none none = refl
both-none (some a) = refl

-- no blank in the line
pub one-item : (line : List ℕ) → parts 32 line ≡ line ∷ [] → read_pair line ≡ none
unfolding read_pair
one-item line e = rw e refl

-- what stands after the first blank is the second number, or none
pub two_items : (line first second : List ℕ) → parts 32 line ≡ first ∷ parts 32 second → read_pair line ≡ both (natural first) (natural second)
unfolding read_pair
two_items line first second e = ap pair_by e ∙ by_second (natural second) refl
  where
    alone : (bs : List (List ℕ)) → beyond 32 second ≡ bs → natural second ≡ none → pair_by (first ∷ before 32 second ∷ bs) ≡ none
    alone [] h n = rw (before-all second h, n) (both-none (natural first))
    alone (c ∷ more) h n = refl

    by_second : (o : Option ℕ) → natural second ≡ o → pair_by (first ∷ parts 32 second) ≡ both (natural first) (natural second)
    by_second none n = alone (beyond 32 second) refl n ∙ rw n (sym (both-none (natural first)))
    by_second (some v) n = ap (λ (ps : List (List ℕ)). pair_by (first ∷ ps)) (part-last 32 second (natural-free second v n))

-- ---- the parties

pub capped_le : (v : ℕ) → capped v ≤ 8
capped_le v = go (bool (leb v 7))
  where
    go : (leb v 7 ≡ true) ⊎ (leb v 7 ≡ false) → capped v ≤ 8
    go (inl e) = let l = leb-true v 7 e in rw e (omega arith)
    go (inr e) = rw e (omega arith)

-- what is read of the items
module _ (o q : Option ℕ) where
  pub first_unread : party_of o ≡ None → None ≡ word_in (both o q)
  first_unread h = go o h
    where
      go : (o : Option ℕ) → party_of o ≡ None → None ≡ word_in (both o q)
      go none h = refl
      go (some a) h = absurd cc

  pub second-unread : party_of q ≡ None → None ≡ word_in (both o q)
  second-unread h = go o q h
    where
      go : (o q : Option ℕ) → party_of q ≡ None → None ≡ word_in (both o q)
      go none q h = refl
      go (some a) none h = refl
      go (some a) (some b) h = absurd cc

  pub pair_read : (a b : ℕ) → party_of o ≡ Some a → party_of q ≡ Some b → Some (a * 4294967296 + b) ≡ word_in (both o q)
  pair_read a b h k = go o q h k
    where
      go : (o q : Option ℕ) → party_of o ≡ Some a → party_of q ≡ Some b → Some (a * 4294967296 + b) ≡ word_in (both o q)
      go none q h k = absurd cc
      go (some x) none h k = absurd cc
      go (some x) (some y) h k = let e : capped x ≡ a = cc in let f : capped y ≡ b = cc in rw (← e, ← f) refl
