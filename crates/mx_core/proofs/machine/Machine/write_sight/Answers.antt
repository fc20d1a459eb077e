use Rattle.std.proofs.Common.{subst}
use Rattle.mx_core.specs.Way.Stepping.{ShowsSight}
use Rattle.mx_core.proofs.Traced.{sight-told}
use Rattle.mx_core.proofs.machine.Machine.write_sight.Goals as goal

pub returns-in_default : goal.returns-in_default
returns-in_default c = λ _.
    subst (ShowsSight c.put_sight.new.trace) (sight-told _ _ c.new-i.result _ _ c.new-i.ensures c.operation.ensures c.in_default.not-Resume c.in_default.not-CompareAndSwap c.sight_by_operation.ensures.value) c.put_sight.ensures
