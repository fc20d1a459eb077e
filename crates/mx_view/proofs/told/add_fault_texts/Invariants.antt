use Rattle.std.proofs.Common.{◌≡◌, ◌++◌, take}
use Rattle.std.specs.List.{flat_map}
use Rattle.mx_view.specs.Refusals.{fault_text}
use Rattle.mx_view.proofs.told.add_fault_texts.Given as goal

abbrev pub invariant-loop-fault : goal.invariant-loop-fault
invariant-loop-fault l = l.text ≡ l.fn.text ++ flat_map fault_text (take l.fault-index l.faults)
