-- The code's field kinds, as the fields that they stand for, and the fields of a template that are no bounds.
use Rattle.std.specs.Prelude.{Bool, ◌||◌, ℕ}
use Rattle.rules.specs.Names.{partition, key}
use Rattle.rules.specs.Fields as fields
use Rattle.words.specs.declared.Field.{Field}
use Rattle.words.specs.declared.Field.TheVariants.{Message, Partition, Key, Wildcard, AtLeast, AtMost, Bad}

-- F2
abbrev pub meant : Field → fields.Field
meant (Message v) = fields.message v
meant (Partition c) = fields.name (partition c)
meant (Key k) = fields.name (key k)
meant Wildcard = fields.wildcard
meant (AtLeast v) = fields.at_least v
meant (AtMost v) = fields.at_most v
meant Bad = fields.bad

-- F4: what a template may carry, but for the bounds
unfoldable pub plain : ℕ → Bool
plain w = fields.is_data (fields.field w) || fields.is_wildcard (fields.field w)
