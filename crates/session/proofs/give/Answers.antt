-- Before the space is open the partition is added, and then the key.
use Rattle.std.proofs.Common.{refl, ap, ◌∙◌, List, ℕ, ◌+◌}
use Rattle.session.specs.Transcript.{with_name, given}
use Rattle.lines.specs.Read.{name_of}
use Rattle.session.proofs.give.Goals as goal

pub returns : goal.returns
unfolding given
returns c =
    let gift = c.add_name-2.ensures ∙ ap (λ (l : List ℕ). with_name (8 + c.args.party) (name_of c.args.key) l) c.add_name.ensures in
    (c.in-Giving.is, gift, rw c.in-Giving.is refl)
