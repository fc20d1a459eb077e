use Rattle.std.proofs.Common.{◌≡◌, ◌++◌, take}
use Rattle.mx_json.specs.Json.{further}
use Rattle.face_check.specs.CheckPages.{fault_json}
use Rattle.face_check.proofs.json.add_more_faults.Given as goal

abbrev pub invariant-loop-fault : goal.invariant-loop-fault
invariant-loop-fault l = l.text ≡ l.fn.text ++ further fault_json (take l.fault-index l.faults)
