-- What is rendered of a list of fields reads back as that list.
use Prim.Native.Nat.{ℕ, ◌+◌, ◌*◌, ◌/◌, ◌%◌, ◌<◌}
use mathlib.Core.Path.{◌≡◌, refl, ap, ap₂, ◌∙◌}
use mathlib.Core.Bool.{Bool, true, false, ◌||◌}
use mathlib.Core.List.{List, [], ◌∷◌, ◌++◌, map, append-nil}
use mathlib.Core.Option.{some}
use native.Mathlib.Nat.{div-add-mod'}
use native.Mathlib.Omega.{arith}
use borrow.Author.Tests.{le-leb}
use lib.Dec.{eqb}
use lib.ListN.{length}
use Rattle.rules.specs.Lists.{all}
use Rattle.rules.specs.Names.{partition, key}
use Rattle.rules.specs.Fields.{Field, message, name, wildcard, at_least, at_most, bad, field_of, field, is_data, is_wildcard, is_bound, template_field}
use Rattle.rules.proofs.ListLaws.{clash, and_left, and_right}
use Rattle.rules.proofs.FieldLaws.{by_kind}
use Rattle.numbers.specs.Numbers.{decimal, decimal_key, key_of}
use Rattle.numbers.specs.Parts.{parts}
use Rattle.numbers.proofs.Keys.{key-of}
use Rattle.numbers.proofs.NumbersBack.{Outside, free, decimal-free, key-free, part_then, part-last}
use Rattle.text.specs.Fields.{of_kind, read_field, rendered, render_field}
use Rattle.text.specs.Fields.{both, read_each, up_to_sixteen, is_dash, read_fields, render_more, render_fields}
use Rattle.text.specs.Claims.{RenderedReadsBack}
use Rattle.text.proofs.Numbers.{number-back, key_back}

-- ---- one field

abbrev allowed : Field → Bool
allowed f = is_data f || (is_wildcard f || is_bound f)

stored_back : (s : ℕ) → s < 63 → read_field (rendered (name (key s))) ≡ some (2 * 4294967296 + s)
unfolding read_field
stored_back s h =
    let k = key-of s h in
    rw (key_back (key_of s) k.0) (rw (k.0, k.1))

-- by kind: what a template may carry
kind-back : (k v : ℕ) → v < 4294967296 → allowed (field_of k v) ≡ true → read_field (rendered (field_of k v)) ≡ some (k * 4294967296 + v)
unfolding read_field
kind-back k v h =
    let number = number-back v (omega arith) in
    by_kind (λ f. allowed f ≡ true → read_field (rendered f) ≡ some (k * 4294967296 + v)) k v
    (λ e a. rw e (ap (of_kind 0) number))
    (λ e r a. rw e (ap (of_kind 1) number))
    (λ e r a. rw e (stored_back v r))
    (λ e r a. rw (e, r))
    (λ e a. rw e (ap (of_kind 4) number))
    (λ e a. rw e (ap (of_kind 5) number))
    (λ a. clash false a refl)

pub field_back : (w : ℕ) → template_field w ≡ true → read_field (render_field w) ≡ some w
unfolding template_field field render_field
field_back w h =
    kind-back (w / 4294967296) (w % 4294967296) (omega arith) h ∙ ap some (div-add-mod' w 4294967296)

-- ---- no comma stands in a field

comma : Outside 44
comma = record { digit = refl; minus = refl }

rendered-free : (f : Field) → free 44 (rendered f) ≡ true
rendered-free (message v) = decimal-free 44 refl v
rendered-free (name (partition c)) = decimal-free 44 refl c
rendered-free (name (key s)) = key-free 44 comma (key_of s)
rendered-free wildcard = refl
rendered-free (at_least v) = decimal-free 44 refl v
rendered-free (at_most v) = decimal-free 44 refl v
rendered-free bad = refl

field-free : (w : ℕ) → free 44 (render_field w) ≡ true
unfolding render_field
field-free w = rendered-free (field w)

-- ---- a list of fields

parts-back : (w : ℕ) (ws : List ℕ) → parts 44 (render_field w ++ render_more ws) ≡ map render_field (w ∷ ws)
parts-back w [] = ap (parts 44) (append-nil (render_field w)) ∙ part-last 44 (render_field w) (field-free w)
parts-back w (v ∷ vs) =
    part_then 44 (render_field w) (render_field v ++ render_more vs) (field-free w)
    ∙ ap (λ (ps : List (List ℕ)). render_field w ∷ ps) (parts-back v vs)

each_back : (fs : List ℕ) → all template_field fs ≡ true → read_each (map render_field fs) ≡ some fs
each_back [] e = refl
each_back (w ∷ ws) e =
    ap₂ both (field_back w (and_left (template_field w) (all template_field ws) e)) (each_back ws (and_right (template_field w) (all template_field ws) e))

undashed : (b : ℕ) (bs : List ℕ) → eqb b 45 ≡ false → is_dash (b ∷ bs) ≡ false
undashed b [] e = e
undashed b (c ∷ cs) e = refl

-- no field begins with `-`
field-undashed : (f : Field) (more : List ℕ) → is_dash (rendered f ++ more) ≡ false
field-undashed (message v) more = undashed 109 (decimal v ++ more) refl
field-undashed (name (partition c)) more = undashed 112 (decimal c ++ more) refl
field-undashed (name (key s)) more = undashed 107 (decimal_key (key_of s) ++ more) refl
field-undashed wildcard more = undashed 42 more refl
field-undashed (at_least v) more = undashed 103 (decimal v ++ more) refl
field-undashed (at_most v) more = undashed 108 (decimal v ++ more) refl
field-undashed bad more = undashed 63 more refl

pub rendered-reads-back : RenderedReadsBack
unfolding read_fields render_fields render_field
rendered-reads-back [] h l = refl
rendered-reads-back (w ∷ ws) h l =
    rw (field-undashed (field w) (render_more ws))
    (ap up_to_sixteen (ap read_each (parts-back w ws) ∙ each_back (w ∷ ws) h) ∙ rw (le-leb (length (w ∷ ws)) 16 l))
