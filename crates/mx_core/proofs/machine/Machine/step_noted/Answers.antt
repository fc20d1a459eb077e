use Rattle.std.proofs.Common.{sym, subst}
use Rattle.mx_core.specs.Kept.{state_of}
use Rattle.mx_core.specs.Way.Noting.{IfWent}
use Rattle.mx_core.specs.Undoing.{TakesBack}
use Rattle.mx_core.proofs.machine.Machine.step_noted.Goals as goal

pub returns-clause-back : goal.returns-clause-back
returns-clause-back c =
    subst (λ t. IfWent c.step_with_note-noted.result (λ note. TakesBack note t (state_of c.args.self.now))) (sym c.keep_code.ensures) c.step_with_note-noted.ensures.back
