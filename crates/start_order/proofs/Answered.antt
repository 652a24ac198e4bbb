-- What an answer says: which outcome it stands for, and that its numbers are small.
use Prim.Native.Nat.{ℕ, ◌≤◌, ◌<◌}
use mathlib.Core.Path.{◌≡◌, refl, sym, ap, ◌∙◌}
use mathlib.Core.Logic.{◌⊎◌, inl, inr}
use mathlib.Core.Bool.{true, false, ◌||◌}
use mathlib.Core.List.{List, [], ◌++◌, append-nil}
use mathlib.Core.Option.{Option, none, some}
use native.Mathlib.Omega.{arith}
use lib.Dec.{ltb}
use lib.ListN.{length, drop, drop_of_length-le}
use Rattle.rules.specs.Lists.{In, any, first}
use Rattle.rules.specs.Names.{parties}
use Rattle.rules.proofs.ListLaws.{bool}
use Rattle.start_order.specs.Pairs.{Pairs, Relation, precedes, on_circle}
use Rattle.start_order.specs.Order.{order}
use Rattle.start_order.specs.Call.{Outcome, ordered, circle, refused, settled_by, settled, above7, start_order, result_after}
use Rattle.std.specs.Prelude.{Result, Ok, Err}
use Rattle.refusal.specs.declared.Refusal.{Refusal}
use Rattle.refusal.specs.Numbers.{number, numbered}
use Rattle.start_order.specs.Answers.{answer_in, Settled}
use Rattle.start_order.specs.declared.Start.{Start}
use Rattle.start_order.specs.declared.Start.TheVariants as start
use Rattle.start_order.proofs.Places.{smallest-of, follows, parties-only}

-- ---- the outcome

module _ (o : Outcome) (r : Result Start Refusal) (places after : List ℕ) (s : Settled o r places after) where
  pub was-ordered : r ≡ Ok start.Order → length places ≡ 8 → o ≡ ordered after
  was-ordered e l = go o s.words (ap numbered (sym e) ∙ s.answer)
    where
      go : (o : Outcome) → after ≡ result_after o places → ◌≡◌ {A = Result Start ℕ} (Ok start.Order) (answer_in o) → o ≡ ordered after
      go (ordered ws) w q =
          let short : length places ≤ 8 = omega arith in
          let d : drop 8 places ≡ [] = drop_of_length-le places short in
          ap ordered (sym (w ∙ ap (λ (l : List ℕ). ws ++ l) d ∙ append-nil ws))
      go (circle p) w q = absurd cc
      go (refused n) w q = absurd cc

  pub was-circle : (p : ℕ) → r ≡ Ok (start.Circle p) → o ≡ circle p
  was-circle p e = go o (ap numbered (sym e) ∙ s.answer)
    where
      go : (o : Outcome) → ◌≡◌ {A = Result Start ℕ} (Ok (start.Circle p)) (answer_in o) → o ≡ circle p
      go (ordered ws) q = absurd cc
      go (circle m) q = let x : m ≡ p = cc in ap circle x
      go (refused n) q = absurd cc

  pub was-refused : (e : Refusal) → r ≡ Err e → o ≡ refused (number e)
  was-refused e h = go o (ap numbered (sym h) ∙ s.answer)
    where
      go : (o : Outcome) → ◌≡◌ {A = Result Start ℕ} (Err (number e)) (answer_in o) → o ≡ refused (number e)
      go (ordered ws) q = absurd cc
      go (circle p) q = absurd cc
      go (refused n) q = let x : n ≡ number e = cc in ap refused x

-- ---- the parties of an outcome are below 8, and its refusal is one from `low` to 16

abbrev pub Bounded : ℕ → Outcome → Type 0
Bounded low (ordered ws) = (p : ℕ) → In p ws → p < 8
Bounded low (circle p) = p < 8
Bounded low (refused n) = (low ≤ n) × (n ≤ 16)

pub lower : (low high : ℕ) → low ≤ high → (o : Outcome) → Bounded high o → Bounded low o
lower low high l (ordered ws) h = h
lower low high l (circle p) h = h
lower low high l (refused n) h = (omega (arith, h.0), h.1)

settled-bounded : (low : ℕ) (R : Relation) → Bounded low (settled R)
unfolding settled
settled-bounded low R = go (first (on_circle R) parties) refl
  where
    go : (o : Option ℕ) → first (on_circle R) parties ≡ o → Bounded low (settled_by o R)
    go none e = λ p i. parties-only R [] (order R) p (follows R 8 []) i
    go (some p) e = (smallest-of (on_circle R) 0 8 p e).below

pub start-bounded : (ps : Pairs) (lent : ℕ) → Bounded 15 (start_order ps lent)
unfolding start_order
start-bounded ps lent = go (bool (ltb 64 (length ps) || ltb lent 8)) (bool (any above7 ps))
  where
    go : ((ltb 64 (length ps) || ltb lent 8) ≡ true) ⊎ ((ltb 64 (length ps) || ltb lent 8) ≡ false) → (any above7 ps ≡ true) ⊎ (any above7 ps ≡ false)
        → Bounded 15 (start_order ps lent)
    go (inl e) h = rw e (omega arith, omega arith)
    go (inr e) (inl h) = rw (e, h) (omega arith, omega arith)
    go (inr e) (inr h) = rw (e, h) (settled-bounded 15 (precedes ps))
