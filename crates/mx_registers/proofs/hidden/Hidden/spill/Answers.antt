use Rattle.std.proofs.Common.{◌≡◌, ◌≤◌, ◌+◌, ◌-◌, length, take, drop, arith, ap}
use Rattle.std.proofs.lemmas.List.{length-take-le, length-drop}
use Rattle.mx_registers.proofs.Spilled.{spilled-same, length-with_part}
use Rattle.mx_registers.proofs.hidden.Hidden.spill.Goals as goal

pub invariant_of-self : goal.invariant_of-self
invariant_of-self c =
    let s = c.self.inside.spilled in
    let octas = c.self.inside.list.octas in
    let stack = c.self.inside.stack in
    let few : c.args.n ≤ length (drop s octas) = rw (← c.self.view_is) at c.requires in
    let rest : length (drop s octas) ≡ length octas - s = length-drop s octas in
    let size : length (take c.args.n (drop s octas)) ≡ c.args.n = length-take-le c.args.n (drop s octas) few in
    let whole : s + c.args.n - s ≡ c.args.n = omega arith in
    let part = rw (whole, c.as_slice.ensures) at c.write.ensures in
    let below : s ≤ length stack = omega (arith, c.self.invariant.all_stack, c.self.invariant.has_room, c.self.invariant.spilled_are_hidden) in
    let fits : s + length (take c.args.n (drop s octas)) ≤ length stack = omega (arith, c.self.invariant.all_stack, c.self.invariant.has_room, c.self.invariant.spilled_are_hidden) in
    let same : c.widen.new.self.octas ≡ octas = c.widen.ensures.octas in
    record {
      spilled_are_hidden = rw same (omega (arith, c.self.invariant.spilled_are_hidden));
      same_spilled = rw same (spilled-same octas stack _ s c.args.n below (omega arith) c.self.invariant.same_spilled part);
      all_stack = omega (arith, ap length part, length-with_part stack (take c.args.n (drop s octas)) s fits, c.self.invariant.all_stack);
      has_room = rw same c.self.invariant.has_room;
      has_limit = c.limit_for-self-inside.ensures;
      has_list = omega (arith, c.widen.ensures.room);
    }
