-- A call that was made, and its reply, which is short.
use Prim.Native.Nat.{ℕ, ◌+◌, ◌*◌, ◌≤◌}
use mathlib.Core.Path.{◌≡◌, sym, ap₂, subst}
use mathlib.Core.List.{List, [], ◌∷◌, ◌++◌}
use native.Mathlib.Omega.{arith}
use native.Mathlib.Nat.{le_trans}
use lib.ListN.{length, length-append, length-take}
use Rattle.rules.specs.Calls.{Answer, done, found, nothing, refused}
use Rattle.rules.specs.Words.{Exit, exit}
use Rattle.rules.specs.Runs.{found_in}
use Rattle.space.specs.Answers.{Small}
use Rattle.numbers.specs.Numbers.{decimal}
use Rattle.text.specs.Fields.{render_fields}
use Rattle.numbers.proofs.Keys.{decimal-short}
use Rattle.text.proofs.Room.{fields-short}
use Rattle.session.specs.Transcript.{answer_text, reply_text, unreadable}
use Rattle.numbers.specs.Written.{Written}
use Rattle.session.specs.Steps.{count_of, Made, Replied}

number_short : (n : ℕ) → n ≤ 1000000 → length (decimal n) ≤ 7
number_short n h = decimal-short 6 n (omega arith)

answer-short : (a : Answer) → Small a → length (answer_text a) ≤ 5
unfolding answer_text
answer-short done h = omega arith
answer-short (found n) h = omega arith
answer-short nothing h = omega arith
answer-short (refused n) h = let l : length (decimal n) ≤ 2 = decimal-short 1 n (omega arith) in omega arith

found-few : (a : Answer) (result : List ℕ) → Small a → length (found_in a result) ≤ 8
found-few done result h = omega arith
found-few (found n) result h = let l = length-take n result in omega arith
found-few nothing result h = omega arith
found-few (refused n) result h = omega arith

pub reply-short : (n : ℕ) (x : Exit) → n ≤ 1000000 → Small x.answer → length (reply_text n x) ≤ 256
unfolding reply_text
reply-short n x h s =
    let fields : List ℕ = render_fields (found_in x.answer x.result) in
    let a = number_short n h in
    let b = answer-short x.answer s in
    let few = found-few x.answer x.result s in
    let c : length fields ≤ 12 * length (found_in x.answer x.result) + 1 = fields-short (found_in x.answer x.result) in
    let d : length (fields ++ (10 ∷ [])) ≡ length fields + 1 = length-append fields (10 ∷ []) in
    let e = length-append (answer_text x.answer) (32 ∷ (fields ++ (10 ∷ []))) in
    let f = length-append (decimal n) (32 ∷ (answer_text x.answer ++ (32 ∷ (fields ++ (10 ∷ []))))) in
    omega arith

pub unreadable-short : (n : ℕ) → n ≤ 1000000 → length (unreadable n) ≤ 256
unfolding unreadable
unreadable-short n h =
    let a = number_short n h in
    let b = length-append (decimal n) (32 ∷ 117 ∷ 110 ∷ 114 ∷ 101 ∷ 97 ∷ 100 ∷ 97 ∷ 98 ∷ 108 ∷ 101 ∷ 10 ∷ []) in
    omega arith

pub count_small : (a : Answer) → Small a → count_of a ≤ 8
count_small done h = omega arith
count_small (found n) h = h
count_small nothing h = omega arith
count_small (refused n) h = omega arith

-- ---- a reply that was printed, of a call that was made
module _ (number : ℕ) (a : Answer) (ws result : List ℕ) (x : Exit) (m : Made a ws result x) where
  is-small : Small x.answer → Small a
  is-small h = subst Small (sym m.answer) h

  text-is : reply_text number (exit a [] result) ≡ reply_text number x
  unfolding reply_text
  text-is = ap₂ (λ (b : Answer) (fs : List ℕ). decimal number ++ (32 ∷ (answer_text b ++ (32 ∷ (render_fields fs ++ (10 ∷ [])))))) m.answer m.fields

  pub reply-room : (room : ℕ) → number ≤ 1000000 → 256 ≤ room → Small x.answer → length (reply_text number (exit a [] result)) ≤ room
  reply-room room h l s = le_trans (reply-short number (exit a [] result) h (is-small s)) l

  pub count_room : Small x.answer → count_of a ≤ 8
  count_room s = count_small a (is-small s)

  pub replied : {out after : List ℕ} {k : ℕ} → Written out 0 (reply_text number (exit a [] result)) after k → Replied number x ws out after k
  replied {out} {after} {k} w =
      record { left = m.left; written = subst (λ (t : List ℕ). Written out 0 t after k) text-is w }
