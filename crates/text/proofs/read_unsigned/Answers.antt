-- What the reader of natural numbers answers, where 32 bits hold it.
use Rattle.std.proofs.Common.{ap, ◌∙◌}
use Rattle.std.specs.Result.{result_ok}
use Rattle.text.specs.Numbers.{unsigned}
use Rattle.text.proofs.Numbers.{ok-natural}
use Rattle.text.proofs.read_unsigned.Goals as goal

pub returns : goal.returns
unfolding unsigned
returns c = c.ok.ensures.value ∙ ap result_ok c.read_natural.ensures.value ∙ ok-natural _ _
