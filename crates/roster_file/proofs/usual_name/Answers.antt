-- By the kind and the sign: a number that stands there, in its range.
use Rattle.std.proofs.Common.{◌≡◌, ℕ, ◌-◌, ◌≤◌, List, ◌∷◌, length, take, drop, arith}
use borrow.Author.Tests.{ltb-false}
use Rattle.roster_file.proofs.UsualLines.{first_two, first_three, partition-name, key-name, minus-name}
use Rattle.roster_file.proofs.usual_name.Goals as goal
use Rattle.roster_file.proofs.usual_name.Goals.{then-text-lt3+in-112+in-32-1, else-text-lt3+in-112+in-32-1, then-text-lt3+in-107+in-32-1, else-text-lt3+in-107+in-32+in_default-1}

pub returns-else-v-gt31 : goal.returns-else-v-gt31
returns-else-v-gt31 c =
    minus-name c.args.text.now _ c.args.party _ _ c.in_ok-v-in-107.ensures
    (first_three c.args.text.now 107 32 45 c.in-107.len_at_least (omega arith) (omega arith) (omega arith)) c.if-v-gt31.false c.if-v-eq0.false _ c.key.ensures

pub returns-else-v-gt63 : goal.returns-else-v-gt63
returns-else-v-gt63 c =
    let t : List ℕ = c.args.text.now in
    let l : 2 ≤ length t = omega (arith, ltb-false) in
    let e : t ≡ 112 ∷ 32 ∷ take (length t - 2) (drop 2 t) = elim c.in-112-1.branch [
      | then-text-lt3+in-112+in-32-1 w ↦ first_two t 112 32 l (omega arith) (omega arith)
      | else-text-lt3+in-112+in-32-1 w ↦ first_two t 112 32 l (omega arith) (omega arith)
    ] in
    partition-name t _ c.args.party _ _ c.in_ok-v-in-112.ensures e c.if-v-gt63.false _ c.partition.ensures

pub returns-else-v-gt31-2 : goal.returns-else-v-gt31-2
returns-else-v-gt31-2 c =
    let t : List ℕ = c.args.text.now in
    let l : 2 ≤ length t = omega (arith, ltb-false) in
    let e : t ≡ 107 ∷ 32 ∷ take (length t - 2) (drop 2 t) = elim c.in-107-2-1.branch [
      | then-text-lt3+in-107+in-32-1 w ↦ first_two t 107 32 l (omega arith) (omega arith)
      | else-text-lt3+in-107+in-32+in_default-1 w ↦ first_two t 107 32 l (omega arith) (omega arith)
    ] in
    key-name t _ c.args.party _ _ c.in_ok-v-in-107-2.ensures e c.if-v-gt31-2.false _ c.key-in-107-2.ensures
