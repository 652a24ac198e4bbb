-- `put_names` meets its contract: what the party holds is tested in its two words, by both pairs and by the fields.
use Rattle.std.proofs.Common.{arith, [], ◌∷◌}
use Rattle.rules.specs.Fields.{names_in}
use Rattle.rules.specs.Matching.{stored_pair}
use Rattle.words.specs.Pairs.{meant}
use Rattle.held.proofs.Held.{WordsOf, held-names, held-partitions, held-keys, only-partitions, only-key}
use Rattle.held.proofs.Tables.{names-by}
use Rattle.held.proofs.put_names.Goals as goal

pub returns : goal.returns
returns c =
    let read = stored_pair (meant c.args.read) in
    let take = stored_pair (meant c.args.take) in
    let h = c.holdings_of-holdings in
    let words : WordsOf c.args.space.now c.args.party h.result.partitions h.result.keys =
    record { party = omega arith; partitions_are = h.ensures.partitions; keys_are = h.ensures.keys }
    in
    names-by _
    (held-partitions words read (take ∷ []) c.set_held.ensures (only-partitions words take c.set_held-2.ensures))
    (held-keys words read (take ∷ []) c.key_held.ensures (only-key words take c.key_held-2.ensures))
    (held-names words (names_in c.args.fields.now)) c.missing.ensures
