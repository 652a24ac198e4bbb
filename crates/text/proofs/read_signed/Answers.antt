-- What the reader of whole numbers answers, where 32 bits hold it.
use Rattle.std.proofs.Common.{ap, ◌∙◌}
use Rattle.std.specs.Result.{result_ok}
use Rattle.text.specs.Numbers.{signed}
use Rattle.text.proofs.Numbers.{ok-whole}
use Rattle.text.proofs.read_signed.Goals as goal

pub returns : goal.returns
unfolding signed
returns c = c.ok.ensures.value ∙ ap result_ok c.read_whole.ensures ∙ ok-whole _
