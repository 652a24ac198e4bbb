-- The party, a blank, the name and a line feed are written one after another.
use Rattle.std.proofs.Common.{ℕ, ◌+◌, ◌≤◌, List, [], ◌∷◌, ◌++◌, length}
use Rattle.rules.specs.Names.{Name}
use Rattle.numbers.specs.Numbers.{decimal}
use Rattle.numbers.specs.Written.{Written}
use Rattle.numbers.proofs.Placed.{Unfinished, begun-as, part_room, part-done}
use Rattle.roster_file.specs.Printed.{name_text, right_text}
use Rattle.roster_print.specs.Answers.{named}
use Rattle.roster_print.proofs.Texts.{right-parts}
use Rattle.roster_print.proofs.render_right.Goals as goal

module _ (out : List ℕ) (at who : ℕ) (n : Name) (h : at + length (right_text who n ++ (10 ∷ [])) ≤ length out) where
  -- the line, of which `left` is still to be written from `next` on
  abbrev Lining : List ℕ → ℕ → List ℕ → Type 0
  Lining now next left = Unfinished out at (right_text who n ++ (10 ∷ [])) now next left

  start : Lining out at (decimal who ++ ((32 ∷ []) ++ (name_text n ++ (10 ∷ []))))
  start = begun-as (right-parts who n) h

  module _ (out₁ : List ℕ) (a : ℕ) (party : Written out at (decimal who) out₁ a) where
    after-party : Lining out₁ a ((32 ∷ []) ++ (name_text n ++ (10 ∷ [])))
    after-party = part-done (decimal who) _ start party

    module _ (out₂ : List ℕ) (b : ℕ) (blank : Written out₁ a (32 ∷ []) out₂ b) where
      after-blank : Lining out₂ b (name_text n ++ (10 ∷ []))
      after-blank = part-done (32 ∷ []) _ after-party blank

      after-name : (out₃ : List ℕ) (end : ℕ) → Written out₂ b (name_text n) out₃ end → Lining out₃ end (10 ∷ [])
      after-name out₃ end name = part-done (name_text n) _ after-blank name

pub decimal-requires : goal.decimal-requires
decimal-requires c = part_room (decimal c.args.party) _ (start _ _ _ (named c.args.kind c.args.c) c.requires)

pub place-requires : goal.place-requires
place-requires c = part_room (32 ∷ []) _ (after-party _ _ _ (named c.args.kind c.args.c) c.requires _ _ c.decimal.ensures.written)

pub render_name-requires : goal.render_name-requires
render_name-requires c =
    let name = named c.args.kind c.args.c in
    part_room (name_text name) _ (after-blank _ _ _ name c.requires _ _ c.decimal.ensures.written _ _ c.place.ensures.written)

pub place-requires-2 : goal.place-requires-2
place-requires-2 c =
    (after-name _ _ _ (named c.args.kind c.args.c) c.requires _ _ c.decimal.ensures.written _ _ c.place.ensures.written _ _
    c.render_name.ensures.written).room

pub returns-clause-written : goal.returns-clause-written
returns-clause-written c =
    (after-name _ _ _ (named c.args.kind c.args.c) c.requires _ _ c.decimal.ensures.written _ _ c.place.ensures.written _ _
    c.render_name.ensures.written).completes _ _ c.place-2.ensures.written
