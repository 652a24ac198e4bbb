-- `seek_names` meets its contract: what the party holds is tested in its two words, by the pair and by the fields.
use Rattle.std.proofs.Common.{arith}
use Rattle.rules.specs.Fields.{names_in}
use Rattle.rules.specs.Matching.{stored_pair}
use Rattle.words.specs.Pairs.{meant}
use Rattle.held.proofs.Held.{WordsOf, held-names, only-partitions, only-key}
use Rattle.held.proofs.Tables.{names-by}
use Rattle.held.proofs.seek_names.Goals as goal

pub returns : goal.returns
returns c =
    let pair = stored_pair (meant c.args.pair) in
    let h = c.holdings_of-holdings in
    let words : WordsOf c.args.space.now c.args.party h.result.partitions h.result.keys =
    record { party = omega arith; partitions_are = h.ensures.partitions; keys_are = h.ensures.keys }
    in
    names-by _ (only-partitions words pair c.set_held-within.ensures) (only-key words pair c.key_held-has_key.ensures)
    (held-names words (names_in c.args.template.now)) c.missing.ensures
