use Rattle.std.proofs.Common.{◌≡◌, ◌++◌, map, take}
use Rattle.mx_diagnostics.specs.Diagnostics.{fault_diagnostic}
use Rattle.mx_diagnostics.proofs.telling.add_faults.Given as goal

abbrev pub invariant-loop-fault : goal.invariant-loop-fault
invariant-loop-fault l = l.told ≡ l.fn.told ++ map (fault_diagnostic l.source) (take l.fault-index l.faults)
