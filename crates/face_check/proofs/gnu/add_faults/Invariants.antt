use Rattle.std.proofs.Common.{◌≡◌, ◌++◌, take}
use Rattle.std.specs.List.{flat_map}
use Rattle.face_check.specs.CheckPages.{fault_line}
use Rattle.face_check.proofs.gnu.add_faults.Given as goal

abbrev pub invariant-loop-fault : goal.invariant-loop-fault
invariant-loop-fault l = l.text ≡ l.fn.text ++ flat_map (fault_line l.name) (take l.fault-index l.faults)
