use Rattle.std.proofs.Common.{sym, ◌∙◌}
use Rattle.mx_core.proofs.Spaces.Bytes.{octa-is-answer}
use Rattle.mx_core.proofs.space.MachineSpace.octa_at.Goals as goal

pub returns : goal.returns
returns c = octa-is-answer c.args.self.now c.args.a c.octa.result (sym c.is_negative.ensures ∙ c.if-is_negative.false) c.octa.type_inv c.octa.ensures
