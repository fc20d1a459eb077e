use Rattle.std.proofs.Common.{◌≤◌, length}
use Rattle.mx_ring.proofs.CallsBack.{locals-first}
use Rattle.mx_ring.proofs.ring.Ring.eight_locals.Goals as goal

pub returns : goal.returns
returns c =
    let few : length c.self.inside.visible.locals ≤ 8 = rw (← c.self.view_is) at c.requires in
    rw (← c.self.view_is) (locals-first c.self.inside.visible c.registers_below.result.now c.eight_of.result few c.registers_below.ensures c.eight_of.ensures)
