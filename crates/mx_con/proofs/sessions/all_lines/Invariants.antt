use Rattle.std.proofs.Common.{◌+◌}
use Rattle.mx_core.specs.Kept.{state_of}
use Rattle.mx_con.specs.Clauses.{world_of, StepsWithin}
use Rattle.mx_con.specs.SessionPlans.{most_input, lines_of_session}
use Rattle.mx_con.proofs.ListedSessions.{LinesLeft}
use Rattle.mx_con.proofs.sessions.all_lines.Given as goal

abbrev pub invariant-loop-turn : goal.invariant-loop-turn
invariant-loop-turn g l = record {
  rest : LinesLeft g.H.Host.told g.H.Host.faults l.fn.host l.host (world_of l.fn.runner (g.H.Host.told l.fn.host)) (world_of l.runner (g.H.Host.told l.host))
      (most_input + 1) l.turn l.fn.steps l.dialog (lines_of_session (most_input + 1) l.fn.steps l.fn.dialog);
  bound : StepsWithin l.fn.steps (state_of l.fn.runner.machine) (state_of l.runner.machine);
}
