-- What a file comes to: by its start, by its lines, and by the words of its pairs.
use Prim.Native.Nat.{ℕ}
use mathlib.Core.Path.{◌≡◌, refl, sym, ap, ap₂, ◌∙◌, subst}
use mathlib.Core.List.{List, [], map}
use mathlib.Core.Option.{Option, none, some}
use native.Mathlib.Omega.{arith}
use lib.ListN.{length}
use Rattle.std.specs.Prelude as code
use Rattle.std.specs.Prelude.{Some, None, Result, Ok, Err, ok_or}
use Rattle.refusal.specs.declared.Refusal.{Refusal}
use Rattle.refusal.specs.Numbers.{number}
use Rattle.numbers.specs.Lines.{begun_with}
use Rattle.start_order.specs.Pairs.{Pairs, pair_of}
use Rattle.start_order.specs.Call.{Outcome, refused, start_order, call_on}
use Rattle.start_order.specs.Answers.{Settled}
use Rattle.start_order.specs.declared.Start.{Start}
use Rattle.start_order.proofs.Outcomes.{settles}
use Rattle.start_order.proofs.Answered.{Bounded, lower, start-bounded}
use Rattle.order_file.specs.File.{read_pairs, names_line, from_pairs, from_start, read_file}
use Rattle.order_file.specs.Answers.{kept_of, words_in}
use Rattle.order_file.proofs.Kept.{kept-comes}

-- ---- its parties are below 8, and its refusal is one from 10 to 16

pub pairs-bounded : (o : Option Pairs) → Bounded 11 (from_pairs o)
pairs-bounded none = (omega arith, omega arith)
pairs-bounded (some ps) = lower 11 15 (omega arith) (start_order ps 8) (start-bounded ps 8)

pub file-bounded : (file : List ℕ) → Bounded 10 (read_file file)
unfolding read_file
file-bounded file = go (begun_with 4096 names_line file)
  where
    go : (o : Option (List (List ℕ))) → Bounded 10 (from_start o)
    go none = (omega arith, omega arith)
    go (some ls) = lower 10 11 (omega arith) (from_pairs (read_pairs [] ls)) (pairs-bounded (read_pairs [] ls))

-- ---- by the start of the file, and by its lines

pub bad-comes : (file : List ℕ) → begun_with 4096 names_line file ≡ none → read_file file ≡ refused 10
unfolding read_file
bad-comes file e = rw e

pub lines-come : (file : List ℕ) (ls : List (List ℕ)) → begun_with 4096 names_line file ≡ some ls → read_file file ≡ from_pairs (read_pairs [] ls)
unfolding read_file
lines-come file ls e = rw e

-- ---- by what the reader answered

unread : (o : Option Pairs) → None ≡ words_in o → o ≡ none
unread none e = refl
unread (some ps) e = absurd cc

read : (o : Option Pairs) (ws : List ℕ) → Some ws ≡ words_in o → (ps : Pairs) × ((o ≡ some ps) × (ws ≡ kept_of ps))
read none ws e = absurd cc
read (some ps) ws e = let x : ws ≡ kept_of ps = cc in (ps, (refl, x))

-- what `ok_or` makes of an option
pub ok-or-err : {A : Type 0} (o : code.Option A) (e x : Refusal) → ok_or o e ≡ Err x → (o ≡ None) × (x ≡ e)
ok-or-err None e x h = let y : x ≡ e = cc in (refl, y)
ok-or-err (Some a) e x h = absurd cc

pub ok-or-ok : {A : Type 0} (o : code.Option A) (e : Refusal) (a : A) → ok_or o e ≡ Ok a → o ≡ Some a
ok-or-ok None e a h = absurd cc
ok-or-ok (Some b) e a h = let y : b ≡ a = cc in ap Some y

pub refused-settled : (o : Outcome) (e : Refusal) (places : List ℕ) → o ≡ refused (number e) → Settled o (Err e) places places
refused-settled o e places h = settles h (record { answer = refl; words = refl })

module _ (file : List ℕ) (ls : List (List ℕ)) (begun : begun_with 4096 names_line file ≡ some ls) where
  pub unread-comes : None ≡ words_in (read_pairs [] ls) → read_file file ≡ refused 11
  unread-comes h = lines-come file ls begun ∙ ap from_pairs (unread (read_pairs [] ls) h)

  pub words-settle : (ws : List ℕ) → Some ws ≡ words_in (read_pairs [] ls) → (r : Result Start Refusal) (places after : List ℕ) → length places ≡ 8
      → Settled (call_on ws places) r places after → Settled (read_file file) r places after
  words-settle ws h r places after l s =
      let k = read (read_pairs [] ls) ws h in
      let same : call_on ws places ≡ read_file file =
      ap₂ (λ (vs : List ℕ) (m : ℕ). start_order (map pair_of vs) m) k.1.1 l
      ∙ kept-comes k.0
      ∙ sym (lines-come file ls begun ∙ ap from_pairs k.1.0) in
      subst (λ (o : Outcome). Settled o r places after) same s
