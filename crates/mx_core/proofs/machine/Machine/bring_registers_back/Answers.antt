use Rattle.mx_core.proofs.Kept.Marks.{unsave_marks, frame_inside}
use Rattle.mx_core.proofs.machine.Machine.bring_registers_back.Goals as goal

pub invariant_of-self : goal.invariant_of-self
invariant_of-self c =
    let inside = frame_inside _ _ _ (c.in-Ok.ensures.answer) in
    (c.self.invariant.0, c.self.invariant.1, λ t. unsave_marks _ _ _ _ c.know_bounds.ensures inside c.in-Ok.ensures.ok c.hidden-self-inside.ensures.value)
