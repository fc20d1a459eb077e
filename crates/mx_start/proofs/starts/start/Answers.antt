use Rattle.std.proofs.Common.{◌∙◌, ap}
use Rattle.mx_start.specs.Start.{start, with_octas, pool, pool_octas}
use Rattle.mx_start.specs.Started.{begun}
use Rattle.mx_start.proofs.starts.start.Goals as goal

pub returns : goal.returns
unfolding start
returns c = λ ne. c.with_arguments.ensures ne ∙ ap (λ s. begun (with_octas s pool (pool_octas c.args.args.now))) c.in_ok-machine.ensures
