-- A set of partitions, read part by part: the set so far, the least that may follow and the parts that are left decide.
use Prim.Native.Nat.{ℕ, suc, ◌+◌, ◌≤◌, ◌<◌}
use mathlib.Core.Path.{◌≡◌, sym, ap, ◌∙◌}
use mathlib.Core.List.{List}
use mathlib.Core.Option.{Option, none, some}
use native.Mathlib.Numerals.{add-one}
use borrow.Author.Tests.{le-leb, lt-leb}
use denote.Ref.{Bor}
use Rattle.std.specs.Prelude as code
use Rattle.std.specs.Prelude.{Some, None}
use Rattle.std.proofs.lemmas.Iterator.{YieldsList}
use Rattle.rules.specs.Names.{with_bit}
use Rattle.numbers.specs.Numbers.{natural}
use Rattle.refusal.specs.Given.{given}
use Rattle.numbers.proofs.Splits.{item-first, none-left}
use Rattle.text.specs.Numbers.{up_to}
use Rattle.text.specs.Partitions.{not_below, and_then, set_from, read_partitions}

-- with parts left to come from s, those before it are in the set
pub record Joining {S : Type 0} (steps : S → code.Option (Bor (List ℕ)) → S → Type 0) (text : List ℕ) (set least : ℕ) (s : S) : Type 0 where
  pub left : List (List ℕ)
  pub come : YieldsList steps (λ x. x.now) s left
  pub whole : read_partitions text ≡ set_from least set left

module _ {S : Type 0} {steps : S → code.Option (Bor (List ℕ)) → S → Type 0} {text : List ℕ} {set least : ℕ} {s : S} (j : Joining steps text set least s) (t : S) where
  pub joined-all : steps s None t → Some set ≡ given (read_partitions text)
  joined-all k = sym (ap given (j.whole ∙ ap (set_from least set) (none-left j.come k)))

  -- a part comes
  module _ (x : Bor (List ℕ)) (k : steps s (Some x) t) where
    part : {o : Option ℕ} → up_to 63 (natural x.now) ≡ o → read_partitions text ≡ and_then (not_below least o) (λ c. set_from (suc c) (with_bit set c) (item-first j.come k).0)
    part e =
        j.whole ∙ ap (set_from least set) (item-first j.come k).1
        ∙ ap (λ (q : Option ℕ). and_then (not_below least q) (λ c. set_from (suc c) (with_bit set c) (item-first j.come k).0)) e

    -- it is no partition
    pub stopped : up_to 63 (natural x.now) ≡ none → None ≡ given (read_partitions text)
    stopped e = sym (ap given (part e))

    module _ {c : ℕ} (e : up_to 63 (natural x.now) ≡ some c) where
      -- it is not past the one before it
      pub falling : c < least → None ≡ given (read_partitions text)
      falling l = let none_is : read_partitions text ≡ none = part e ∙ rw (lt-leb least c l) in sym (ap given none_is)

      pub joining-on : least ≤ c → {more : ℕ} → more ≡ with_bit set c → Joining steps text more (c + 1) t
      joining-on l b =
          record {
            left = (item-first j.come k).0;
            come = (item-first j.come k).2;
            whole = part e ∙ rw (le-leb least c l) (rw (b, add-one c));
          }
