use Rattle.std.proofs.Common.{arith}
use Rattle.mx_multi.proofs.Seating.{still-alone}
use Rattle.mx_multi.proofs.seats.Seats.new.Goals as goal

pub invariant_of-result : goal.invariant_of-result
invariant_of-result c = (c.requires.flags, (let some = c.requires.some in omega (arith, some)), still-alone _ _ c.requires.apart)
