use Rattle.std.proofs.Common.{sym, ◌∙◌}
use Rattle.mx_mem.proofs.Spaces.{octa-is-answer}
use Rattle.mx_mem.proofs.space.MemorySpace.octa_at.Goals as goal

pub returns : goal.returns
returns c = octa-is-answer c.args.self.now c.args.a c.load.result (sym c.is_negative.ensures ∙ c.if-is_negative.false) c.load.type_inv c.load.ensures.value
