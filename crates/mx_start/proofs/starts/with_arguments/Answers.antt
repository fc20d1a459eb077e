use Rattle.std.proofs.Common.{sym, ap, ◌∙◌}
use Rattle.mx_core.specs.Kept.{state_of}
use Rattle.mx_start.specs.Started.{begun}
use Rattle.mx_start.proofs.StoredOctas.{pool-past}
use Rattle.mx_start.proofs.starts.with_arguments.Goals as goal

pub returns-in-Ok-None : goal.returns-in-Ok-None
returns-in-Ok-None c = λ _. ap begun (sym (pool-past (state_of c.args.machine) c.args.args.now (sym c.in-Ok-None.ensures ∙ c.in-Ok-None.field-0-is)))
