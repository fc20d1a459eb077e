use Rattle.std.proofs.Common.{arith}
use Rattle.mx_host.proofs.Names.{HasDistinctNames-nil}
use Rattle.mx_host.proofs.Start.{start_slots-length, start_slots-leads}
use Rattle.mx_host.proofs.mem.MemHost.new.Goals as goal

-- the slots at the start lead to no file
pub invariant_of-result : goal.invariant_of-result
invariant_of-result c = (omega arith, rw c.in_ok-slots_at_start.ensures (start_slots-length, rw c.new.ensures.items HasDistinctNames-nil, start_slots-leads _))
