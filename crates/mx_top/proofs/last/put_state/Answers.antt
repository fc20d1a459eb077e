use Rattle.std.proofs.Common.{◌∙◌}
use Rattle.mx_files.proofs.WrittenLines.{writes-line, writes-lacking}
use Rattle.mx_top.specs.Runs.{state_lines}
use Rattle.mx_top.proofs.last.put_state.Goals as goal

pub returns-in-Ok : goal.returns-in-Ok
unfolding state_lines
returns-in-Ok g c = writes-line _ _ _ _ _ _ _ (c.as_slice.ensures ∙ c.in-Ok.ensures) c.write_line.ensures

pub returns-in-Err : goal.returns-in-Err
unfolding state_lines
returns-in-Err g c = writes-lacking _ _ _
