use Rattle.std.proofs.Common.{◌≡◌, ◌≤◌, ◌+◌, ◌-◌, length, arith, ap, ◌∙◌}
use Rattle.mx_ring.specs.RingParts.{window_in}
use Rattle.mx_ring.specs.Window.{Window}
use Rattle.mx_ring.proofs.CallsBack.{called-is}
use Rattle.mx_ring.proofs.ring.Ring.note_with.Goals as goal

pub returns-clause-note : goal.returns-clause-note
returns-clause-note c =
    let w : Window = c.args.self.now in
    let parts : c.len.result ≡ w.hidden.spilled + length w.hidden.resident = c.len.ensures.parts ∙ ap (λ (u : Window). u.hidden.spilled + length u.hidden.resident) c.self.view_is in
    let spilled : c.spilled_count-spilled.result ≡ w.hidden.spilled = c.spilled_count-spilled.ensures ∙ ap (λ (u : Window). u.hidden.spilled) c.self.view_is in
    let count : c.len.result - c.spilled_count-spilled.result - c.args.stays ≡ length w.hidden.resident - c.args.stays = omega (arith, parts, spilled) in
    called-is w c.args.stays c.local_count.result c.spilled_count-spilled.result (c.len.result - c.spilled_count-spilled.result - c.args.stays) c.eight_locals.result c.eight_residents.result
    (c.local_count.ensures.value ∙ ap (λ (u : Window). length u.visible.locals) c.self.view_is) c.eight_locals.ensures spilled count c.eight_residents.ensures

pub invariant_of-result : goal.invariant_of-result
invariant_of-result c =
    let w = window_in c.self.inside in
    let locals : length w.visible.locals ≤ 8 = rw (← c.self.view_is) at c.requires.locals in
    let gone : length w.hidden.resident ≤ c.args.stays + 8 = rw (← c.self.view_is) at c.requires.gone in
    (omega (arith, c.local_count.ensures.value, locals), omega (arith, c.len.ensures.parts, c.spilled_count-spilled.ensures, gone))
