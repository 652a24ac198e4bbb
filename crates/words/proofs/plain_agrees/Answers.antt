-- `plain_agrees` meets its contract: of the words that are no bounds only the wildcard's agrees with other words too.
use Rattle.std.proofs.Common.{◌≡◌, ℕ, true, false, sym}
use Rattle.rules.specs.Fields.{field, is_bound}
use Rattle.rules.proofs.FieldLaws.{plain-test, no_bound}
use Rattle.words.specs.Kind.{plain}
use Rattle.words.proofs.plain_agrees.Goals as goal

unbounded : (w : ℕ) → plain w ≡ true → is_bound (field w) ≡ false
unfolding plain
unbounded w h = no_bound (field w) h

pub returns : goal.returns
returns c = sym (plain-test c.args.t c.args.f (unbounded c.args.t c.requires))
