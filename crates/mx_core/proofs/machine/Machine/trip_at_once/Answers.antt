use Rattle.std.proofs.Common.{◌≡◌, ◌==◌, false, sym, arith}
use Rattle.std.proofs.lemmas.Bool.Decides.{nat_tests}
use Rattle.mx_core.specs.Kept.{state_of}
use Rattle.mx_core.specs.State.{tetra}
use Rattle.mx_core.proofs.Results.Answered.{made-as}
use Rattle.mx_core.proofs.Results.Others.{trip_outcome_is}
use Rattle.mx_core.proofs.machine.Machine.trip_at_once.Goals as goal

pub returns : goal.returns
returns c =
    let s = state_of c.args.self.now in
    let handled : (tetra s 0 == 0) ≡ false = grind (arith, nat_tests, c.tetra.ensures, c.if-tetra-eq0.false) in
    made-as _ _ s (state_of c.trip.new.self) _ _ (trip_outcome_is s c.args.i.now) handled
    (rw (sym c.y_operand-y.ensures, sym c.z_operand-z.ensures) c.trip.ensures)
