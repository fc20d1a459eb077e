use Rattle.std.proofs.Common.{rules, ◌≡◌, ◌∙◌, ap, length}
use Rattle.mx_real.proofs.StartSlots.{streams-count}
use Rattle.mx_real.proofs.real.RealHost.new.Goals as goal

pub invariant_of-result : goal.invariant_of-result
invariant_of-result c =
    let count : length c.in_ok-slots.slots.items ≡ 261 = ap length c.in_ok-slots.ensures ∙ streams-count _ in
    record { slots_ok = search rules }
