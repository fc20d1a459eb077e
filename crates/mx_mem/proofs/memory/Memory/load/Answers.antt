use Rattle.std.proofs.Common.{◌∙◌}
use Rattle.mx_mem.proofs.Views.{nonzero-paged}
use Rattle.mx_mem.proofs.memory.Memory.load.Goals as goal

pub returns-clause-paged : goal.returns-clause-paged
returns-clause-paged c = λ ne. nonzero-paged c.args.self.now c.args.a (λ e. ne (c.octa.ensures ∙ e))
