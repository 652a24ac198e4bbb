-- How many bytes a rendered list of fields takes at most.
use Prim.Native.Nat.{ℕ, ◌+◌, ◌*◌, ◌/◌, ◌%◌, ◌≤◌, ◌<◌}
use mathlib.Core.List.{List, [], ◌∷◌, ◌++◌}
use native.Mathlib.Omega.{arith}
use lib.ListN.{length, length-append}
use Rattle.rules.specs.Fields.{field_of, field}
use Rattle.rules.proofs.FieldLaws.{by_kind}
use Rattle.numbers.proofs.Keys.{decimal-short, key-short}
use Rattle.text.specs.Fields.{rendered, render_field, render_more, render_fields}

kind-short : (k v : ℕ) → v < 4294967296 → length (rendered (field_of k v)) ≤ 11
kind-short k v h =
    let l = decimal-short 9 v (omega arith) in
    by_kind (λ f. length (rendered f) ≤ 11) k v
    (λ e. omega arith)
    (λ e r. omega arith)
    (λ e r. let s = key-short v (omega arith) in omega arith)
    (λ e r. omega arith)
    (λ e. omega arith)
    (λ e. omega arith)
    (omega arith)

pub field-short : (w : ℕ) → length (render_field w) ≤ 11
unfolding render_field field
field-short w = kind-short (w / 4294967296) (w % 4294967296) (omega arith)

-- a field before the rest of the list
joined-short : (w : ℕ) (ws : List ℕ) → length (render_more ws) ≤ 12 * length ws → length (render_field w ++ render_more ws) ≤ 12 * length ws + 11
joined-short w ws h = let m = field-short w in let s = length-append (render_field w) (render_more ws) in omega arith

more-short : (ws : List ℕ) → length (render_more ws) ≤ 12 * length ws
more-short [] = omega arith
more-short (w ∷ ws) = let l = joined-short w ws (more-short ws) in omega arith

-- eleven bytes a field and a comma between two; one byte for none
pub fields-short : (fs : List ℕ) → length (render_fields fs) ≤ 12 * length fs + 1
unfolding render_fields
fields-short [] = omega arith
fields-short (w ∷ ws) = let l = joined-short w ws (more-short ws) in omega arith
