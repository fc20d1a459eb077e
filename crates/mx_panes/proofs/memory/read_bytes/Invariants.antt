use Rattle.std.proofs.Common.{◌≡◌}
use Rattle.mx_core.specs.Kept.{state_of}
use Rattle.mx_core.specs.MachineSpace.{machine_contents}
use Rattle.mx_trap.specs.Requests.{bytes_from}
use Rattle.mx_panes.proofs.memory.read_bytes.Given as goal

abbrev pub invariant-loop-place : goal.invariant-loop-place
invariant-loop-place l = l.bytes ≡ bytes_from (machine_contents (state_of l.machine)).bytes l.address l.place
