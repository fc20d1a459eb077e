use Rattle.std.proofs.Common.{◌≡◌, ℕ, nat_lt, cond}
use Rattle.mx_core.specs.Kept.{state_of}
use Rattle.mx_record.specs.Following.{Tells}
use Rattle.mx_record.specs.Pictures.{all_registers, octa_of}
use Rattle.mx_record.proofs.stacked.find_stacked_changes.Given as goal

abbrev pub invariant-loop-i : goal.invariant-loop-i
invariant-loop-i l = Tells l.changes (octa_of l.fn.stacked) (octa_of (all_registers (state_of l.machine).stack)) l.from l.i
    × ((q : ℕ) → octa_of l.stacked q ≡ cond (nat_lt q l.i) (octa_of (all_registers (state_of l.machine).stack) q) (octa_of l.fn.stacked q))
