use Rattle.std.proofs.Common.{sym}
use Rattle.mx_expr.proofs.StepLaws.{reading-stop}
use Rattle.mx_expr.proofs.parsing.read.Goals as goal

pub returns-in-Err : goal.returns-in-Err
returns-in-Err c = λ ne.
    sym (reading-stop _ _ _ _ _ c.args.field.now c.loop-b.b-index c.loop-b-test.true c.loop-b.invariant (sym (c.in-Err.ensures (λ e. ne (cc)))))
