use Rattle.std.proofs.Common.{◌≡◌, take, drop, Ok}
use Rattle.mx_core.specs.Kept.{state_of}
use Rattle.mx_back.specs.History.{AreNotesOf, states_before}
use Rattle.mx_files.proofs.WrittenLines.{Writes}
use Rattle.mx_top.specs.Runs.{state_lines, reached}
use Rattle.mx_top.proofs.last.put_states.Given as goal

-- the lines of the states so far were written, and the others are still kept
abbrev pub invariant-loop-taken : goal.invariant-loop-taken
invariant-loop-taken g l = record {
  written : Writes (g.H.Host.told l.fn.host) (g.H.Host.told l.host) (g.H.Host.faults l.fn.host) (g.H.Host.faults l.host) (Ok tt)
      (state_lines (take l._taken (states_before l.fn.back (state_of l.fn.machine))));
  left : states_before l.back (state_of l.machine) ≡ drop l._taken (states_before l.fn.back (state_of l.fn.machine));
  reached : state_of l.machine ≡ reached (state_of l.fn.machine) (take l._taken (states_before l.fn.back (state_of l.fn.machine)));
  fits : AreNotesOf l.back (state_of l.machine);
}
