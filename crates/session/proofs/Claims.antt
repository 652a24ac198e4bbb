-- The claims of the whole output: no other output begins as `input too long` does.
use mathlib.Core.Path.{◌≡◌, refl, sym, ap, ◌∙◌}
use mathlib.Core.Logic.{◌⊎◌, inl, inr}
use mathlib.Core.Bool.{Bool, true, false, cond}
use mathlib.Core.List.{List, [], ◌∷◌, ◌++◌}
use Prim.Native.Nat.{ℕ, ◌<◌}
use native.Mathlib.Omega.{arith}
use borrow.Author.Tests.{ltb-true, ltb-false}
use lib.Dec.{ltb}
use lib.ListN.{length, get_or}
use Rattle.rules.specs.Claims.{Iff}
use Rattle.rules.specs.Words.{zeros}
use Rattle.rules.proofs.ListLaws.{bool}
use Rattle.numbers.specs.Parts.{parts, same}
use Rattle.session.specs.Transcript.{giving, too_long, input_names, output_names, transcript, from_start, output, unreadable}
use Rattle.session.specs.Claims.{TooLong}

-- an input that is not too long prints `line ..` first
first_byte : (ls : List (List ℕ)) → get_or (from_start ls) 0 0 ≡ 108
unfolding unreadable output_names
first_byte [] = refl
first_byte (l ∷ []) = refl
first_byte (l ∷ m ∷ ls) = go (same l input_names)
  where
    go : (b : Bool) → get_or (cond b (output_names ++ transcript (giving (zeros 16)) 2 (m ∷ ls)) (unreadable 1)) 0 0 ≡ 108
    go true = refl
    go false = refl

pub too_long_lem : TooLong
unfolding too_long output
too_long_lem input = go (bool (ltb 65536 (length input)))
  where
    differs : from_start (parts 10 input) ≡ too_long → ⊥
    differs e =
        let z : ◌≡◌ {A = ℕ} 108 105 = sym (first_byte (parts 10 input)) ∙ ap (λ (l : List ℕ). get_or l 0 0) e in
        omega arith

    go : (ltb 65536 (length input) ≡ true) ⊎ (ltb 65536 (length input) ≡ false) → Iff (output input ≡ too_long) (65536 < length input)
    go (inl h) = rw h (λ e. ltb-true 65536 (length input) h, λ l. refl)
    go (inr h) = rw h (λ e. absurd (differs e), λ l. absurd (omega (arith, ltb-false 65536 (length input) h)))
