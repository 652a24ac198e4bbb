-- `hold_name` meets its contract: the word that it writes is the one that changes where the party gains the name that the field carries.
use Rattle.std.proofs.Common.{◌≡◌, ℕ, [], refl, sym, ◌∙◌, arith}
use Rattle.rules.specs.Names.{partition, key}
use Rattle.rules.specs.Fields.{name_in}
use Rattle.rules.proofs.Back.{sound-facts}
use Rattle.words.specs.Kind.{meant}
use Rattle.words.specs.declared.Field.{Field}
use Rattle.words.specs.declared.Field.TheVariants.{Message, Partition, Key, Wildcard, AtLeast, AtMost, Bad}
use Rattle.holdings.proofs.Holding.{name-ok, hold-none, hold-partition, hold-key}
use Rattle.holdings.proofs.hold_name.Goals as goal

pub set_bit-requires : goal.set_bit-requires
set_bit-requires c =
    let len = (sound-facts _ c.requires.0).len in
    let ok = name-ok c.args.w (partition c.in-Partition.c) (sym c.in-Partition.ensures) in
    (omega arith, omega (arith, ok))

pub set_bit-requires-in-Key : goal.set_bit-requires-in-Key
set_bit-requires-in-Key c =
    let len = (sound-facts _ c.requires.0).len in
    let ok = name-ok c.args.w (key c.in-Key.k) (sym c.in-Key.ensures) in
    (omega arith, omega (arith, ok))

pub returns-in-Partition : goal.returns-in-Partition
returns-in-Partition c =
    c.set_bit.ensures ∙ hold-partition c.args.space.now c.requires.0 c.args.party _ _ c.requires.1 (sym c.in-Partition.ensures)

pub returns-in-Key : goal.returns-in-Key
returns-in-Key c =
    c.set_bit-in-Key.ensures ∙ hold-key c.args.space.now c.requires.0 c.args.party _ _ c.requires.1 (sym c.in-Key.ensures)

-- what is neither a partition nor a key carries no name
nameless : (x : Field) → ((p : ℕ) → x ≡ Partition p → ⊥) → ((k : ℕ) → x ≡ Key k → ⊥) → name_in (meant x) ≡ []
nameless (Message v) p k = refl
nameless (Partition c) p k = absurd (p c refl)
nameless (Key s) p k = absurd (k s refl)
nameless Wildcard p k = refl
nameless (AtLeast v) p k = refl
nameless (AtMost v) p k = refl
nameless Bad p k = refl

pub returns-in_default : goal.returns-in_default
returns-in_default c =
    hold-none c.args.space.now c.requires.0 c.args.party _ _ (sym c.from.ensures) (nameless c.from.result c.in_default.not-Partition c.in_default.not-Key)
