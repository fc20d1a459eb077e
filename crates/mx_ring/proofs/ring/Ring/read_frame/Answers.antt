use Rattle.std.proofs.Common.{refl}
use Rattle.mx_ring.proofs.Frames.{no-frame}
use Rattle.mx_ring.proofs.ring.Ring.read_frame.Goals as goal

pub returns-in_default-clause-answer : goal.returns-in_default-clause-answer
returns-in_default-clause-answer c = rw (← c.self.view_is) (rw (no-frame c.self.inside.hidden.stack c.args.i (c.area_up_to.ensures.none c.in_default.is)) refl)
