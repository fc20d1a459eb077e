use Rattle.std.proofs.Common.{◌≡◌, ◌≤◌, ◌+◌, ◌-◌, length, take, arith}
use Rattle.std.proofs.lemmas.List.{length-take-le}
use Rattle.mx_registers.proofs.ListParts.{counted-more}
use Rattle.mx_registers.proofs.list.HiddenList.append_with_count.Goals as goal

pub returns-clause-octas : goal.returns-clause-octas
returns-clause-octas c =
    let i = c.self.inside in
    let room : length (take i.count i.octas.items) + length c.args.octas.now ≤ length i.octas.items - 16 = rw (← c.self.view_is) at c.requires.room in
    let size : length (take i.count i.octas.items) ≡ i.count = length-take-le i.count i.octas.items (omega (arith, c.self.invariant.has_spare)) in
    rw (← c.self.view_is, c.write.ensures.items) (counted-more i.octas.items c.args.octas.now i.count c.args.n c.args.n (omega (arith, room, size, c.self.invariant.has_spare)) c.requires.among)
