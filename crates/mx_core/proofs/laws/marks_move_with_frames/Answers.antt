use Rattle.mx_core.proofs.StepMarks.{applied-mark, destination-mark}
use Rattle.mx_core.proofs.laws.marks_move_with_frames.Goals as goal

pub returns : goal.returns
returns c = record { left = applied-mark; destination = destination-mark }
