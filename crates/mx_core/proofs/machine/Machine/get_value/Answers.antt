use Rattle.std.proofs.Common.{◌≡◌, ◌≤◌, slice_index, slice_index_or, refl, ap, ◌∙◌, arith}
use Rattle.mx_core.specs.Way.Calls.{settled}
use Rattle.mx_code.specs.Instructions.{x_of, y_of, z_of, next_of}
use Rattle.mx_core.specs.Kept.{state_of}
use Rattle.mx_core.proofs.Results.Gets.{get_alone}
use Rattle.mx_core.proofs.machine.Machine.get_value.Goals as goal

pub returns-clause-value : goal.returns-clause-value
unfolding state_of
returns-clause-value c =
    let s = state_of c.args.self.now in
    let i = c.args.i.now in
    let y : y_of i ≡ 0 = omega (arith, c.y.ensures, c.if-y-ne0.false) in
    let z : z_of i ≤ 7 = omega (arith, c.z.ensures, c.if-z-gt7.false) in
    let place : c.from.result ≡ z_of i = c.from.ensures ∙ c.z-2.ensures in
    let value : slice_index s.special (z_of i) ≡ slice_index_or c.self.inside.special c.from.result 0 = rw (← c.self.view_is, place) refl in
    get_alone s i y z ∙ ap (λ x. settled s (x_of i) x (next_of i)) value

pub returns-clause-other : goal.returns-clause-other
returns-clause-other c =
    let z : z_of c.args.i.now ≤ 7 = omega (arith, c.z.ensures, c.if-z-gt7.false) in
    λ e. omega (arith, e, z)
