use Rattle.std.proofs.Common.{Result, sym, ap, ◌∙◌}
use Rattle.mx_core.specs.Way.Calls.{left}
use Rattle.mx_core.specs.Kept.{state_of}
use Rattle.mx_code.specs.declared.stop.Stop.{Stop}
use Rattle.mx_core.proofs.Results.Plain.{load_given}
use Rattle.mx_core.proofs.machine.Machine.load.Goals as goal

pub returns-then-a-ge-STACK_SEGMENT : goal.returns-then-a-ge-STACK_SEGMENT
returns-then-a-ge-STACK_SEGMENT c =
    let s = state_of c.args.self.now in
    ap (λ (r : Result (Unit {0}) Stop). (r, state_of c.load_apart.new.self)) c.into_result.ensures
    ∙ c.load_apart.ensures ∙ ap (left s) (sym (load_given c.args.how s c.args.i.now _ _ c.y_operand-y.ensures c.z_operand-z.ensures))
