-- What holds at a row, where no older entry has matched, and at a field, where those before it agree.
use Rattle.std.proofs.Common.{◌≡◌, ◌≤◌, ◌-◌, Bool, ℕ, List, length, drop}
use Rattle.rules.specs.Names.{co_stored}
use Rattle.rules.specs.Partitions.{sets}
use Rattle.rules.specs.Matching.{pair, Entry, fields_agree, matches}
use Rattle.rules.specs.Words.{decode}
use Rattle.search.specs.Place.{meant, place}
use Rattle.search.specs.declared.Op.{Op}
use Rattle.search.proofs.Places.{past}
use Rattle.search.proofs.LiveRows.{entry_on, LiveRow}
use Rattle.search.proofs.search.Given as goal

abbrev pub sought : Op → ℕ → ℕ → List ℕ → Entry → Bool
sought op set cokey template = matches sets (meant op) (pair set (co_stored cokey)) template

-- at a row: none of the entries before it matches
abbrev pub invariant-rows : goal.invariant-rows
invariant-rows l =
    record {
      size : length l.space ≡ 1809;
      few : l.live ≤ 128;
      bound : l.row ≤ l.live;
      older : place (sought l.fn.op l.partitions l.cokey l.template) (decode l.space).entries
          ≡ past l.row (place (sought l.fn.op l.partitions l.cokey l.template) (drop l.row (decode l.space).entries));
    }

abbrev pub decreases-rows : goal.decreases-rows
decreases-rows l = l.live - l.row

-- at a field: those before it agree
abbrev pub invariant-fields : goal.invariant-fields
invariant-fields l =
    record {
      live : LiveRow l.space l.row l.at;
      same : length (entry_on l.space l.at).fields ≡ length l.template;
      bound : l.i ≤ length l.template;
      rest : fields_agree l.template (entry_on l.space l.at).fields ≡ fields_agree (drop l.i l.template) (drop l.i (entry_on l.space l.at).fields);
    }

abbrev pub decreases-fields : goal.decreases-fields
decreases-fields l = length l.template - l.i
