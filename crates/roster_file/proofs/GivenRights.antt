-- What a line gives is in range, and the line that is printed of a right gives that right.
use Prim.Native.Nat.{ℕ, ◌≤◌, suc-le-suc}
use mathlib.Core.Path.{◌≡◌, refl, ap, ◌∙◌, subst}
use mathlib.Core.Bool.{true}
use mathlib.Core.List.{List, [], ◌∷◌, ◌++◌}
use mathlib.Core.Option.{some}
use native.Mathlib.Omega.{arith}
use borrow.Author.Tests.{le-leb}
use lib.IntN.{pos}
use Rattle.rules.specs.Names.{Name, partition, key, NameInRange}
use Rattle.numbers.specs.Numbers.{whole, decimal, decimal_key, key_of}
use Rattle.numbers.specs.Parts.{parts}
use Rattle.numbers.proofs.Keys.{key-of}
use Rattle.numbers.proofs.NumbersBack.{natural-back, whole_back, decimal-free, key-free, free, part_then, part-last}
use Rattle.roster_line.specs.Rights.{gives, said_by, read_line}
use Rattle.roster_file.specs.Printed.{right_text}
use Rattle.roster_line.proofs.Lines.{InRange, line-in-range}

pub gives_same : (w who : ℕ) (m n : Name) → gives w m ≡ gives who n → (w ≡ who) × (m ≡ n)
gives_same w who m n e = let p : w ≡ who = cc in let q : m ≡ n = cc in (p, q)

pub given-range : (line : List ℕ) (who : ℕ) (n : Name) → read_line line ≡ gives who n → (who ≤ 7) × NameInRange n
given-range line who n e = subst InRange e (line-in-range line)

-- ---- a right's line gives the right

-- its three items: the party, the letter of the kind, and the number
items : (who b : ℕ) (t : List ℕ) → free 32 (b ∷ []) ≡ true → free 32 t ≡ true
    → parts 32 (decimal who ++ (32 ∷ b ∷ 32 ∷ t)) ≡ decimal who ∷ (b ∷ []) ∷ t ∷ []
items who b t e f =
    part_then 32 (decimal who) (b ∷ 32 ∷ t) (decimal-free 32 refl who)
    ∙ ap (λ (ps : List (List ℕ)). decimal who ∷ ps) (part_then 32 (b ∷ []) t e ∙ ap (λ (ps : List (List ℕ)). (b ∷ []) ∷ ps) (part-last 32 t f))

pub line-back : (who : ℕ) (n : Name) → who ≤ 7 → NameInRange n → read_line (right_text who n) ≡ gives who n
unfolding read_line right_text
line-back who (partition c) h k =
    let w : whole (decimal c) ≡ some (pos c) = whole_back (pos c) in
    ap said_by (items who 112 (decimal c) refl (decimal-free 32 refl c))
    ∙ rw (natural-back who, w, le-leb who 7 h, le-leb 0 c (omega arith), le-leb c 63 k)
line-back who (key s) h k =
    let r = key-of s (suc-le-suc k) in
    ap said_by (items who 107 (decimal_key (key_of s)) refl (key-free 32 (record { digit = refl; minus = refl }) (key_of s)))
    ∙ rw (natural-back who, whole_back (key_of s)) (rw (le-leb who 7 h, r.0, r.1))
