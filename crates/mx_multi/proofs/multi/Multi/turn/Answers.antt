use Rattle.std.proofs.Common.{◌∙◌, sym}
use Rattle.mx_multi.proofs.Seating.{idle-takes}
use Rattle.mx_multi.proofs.multi.Multi.turn.Goals as goal

pub returns-then-halted-clause-turn : goal.returns-then-halted-clause-turn
returns-then-halted-clause-turn g c = idle-takes _ _ _ _ (sym c.halted.ensures ∙ c.if-halted.true)
