use Rattle.std.proofs.Common.{arith, subst}
use Rattle.mx_multi.specs.Schedules.{AreNames}
use Rattle.mx_top.proofs.CountedProcessors.{counted-most, counted-names}
use Rattle.mx_top.proofs.schedules.count_processors.Goals as goal

pub overflow_add-result : goal.overflow_add-result
overflow_add-result c =
    let most = counted-most 1 c.args.schedule.now (omega arith) c.requires in
    let same = c.greatest.ensures in omega (arith, most, same)

pub returns-clause-most : goal.returns-clause-most
returns-clause-most c =
    let most = counted-most 1 c.args.schedule.now (omega arith) c.requires in
    let same = c.greatest.ensures in omega (arith, most, same)

pub returns-clause-names : goal.returns-clause-names
returns-clause-names c = subst (λ n. AreNames n c.args.schedule.now) c.greatest.ensures (counted-names 1 c.args.schedule.now)
