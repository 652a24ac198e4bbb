-- By what the line reads as: an unreadable one, a gift or a call.
use Rattle.std.proofs.Common.{◌≡◌, refl, sym, List, ℕ, Option, Some, None}
use Rattle.std.proofs.Math.Option as math
use Rattle.std.proofs.Math.Option.{some}
use Rattle.lines.specs.Lines.{give, read_line}
use Rattle.session.specs.Steps.{Ready, Gave, StepIs}
use Rattle.session.specs.declared.Session.{Session}
use Rattle.session.specs.declared.Session.TheVariants.{Giving}
use Rattle.session.proofs.Follow.{step-unreadable, step-late, asked-goes, give-goes}
use Rattle.session.proofs.step_line.Goals as goal

-- a gift, by what `give` answers
gave : (s : Session) (roster roster' space line out : List ℕ) (who : ℕ) (p k : math.Option ℕ) → Ready s space → read_line line ≡ some (give who p k)
    → (r : Option (Session × ℕ)) → Gave r s who p k roster roster' → StepIs r s line roster roster' space space out out
gave s roster roster' space line out who p k ready read None g = (rw g.0.1 (step-late line space g.0.0 who p k read), g.1, refl, refl)
gave s roster roster' space line out who p k ready read (Some r) g =
    let first : Ready Giving space = rw g.0 at ready in
    rw (g.0, g.1, g.2) (give-goes roster space line out who p k first read)

pub returns-in_err-read : goal.returns-in_err-read
returns-in_err-read c =
    rw c.from_residual.ensures (step-unreadable _ c.args.s c.args.roster.now c.args.space.now (sym c.in_err-read.ensures.is), refl, refl, refl)

pub returns-in-Give : goal.returns-in-Give
returns-in-Give c =
    let read = rw c.in-Give.is at c.in_ok-read.ensures.is in
    gave _ _ _ _ _ _ _ _ _ c.requires.1 (sym read) c.give.result c.give.ensures

pub returns-in-Ask : goal.returns-in-Ask
returns-in-Ask c =
    let read = rw c.in-Ask.is at c.in_ok-read.ensures.is in
    asked-goes _ _ _ _ _ c.requires.1 (sym read) _ _ _ _ _ _ c.open_first-number.ensures.value c.open_first-number.ensures.space_after c.reply-k.ensures
