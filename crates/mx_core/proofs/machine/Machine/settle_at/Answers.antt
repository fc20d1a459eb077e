use Rattle.std.proofs.Common.{◌≡◌, ◌+◌, ◌%◌, ◌^◌, ℕ, ap, ◌∙◌}
use Rattle.mx_core.specs.Deeds.{onward}
use Rattle.mx_core.specs.Kept.{Kept, state_of}
use Rattle.mx_core.specs.Way.KeptPage.{address_in, address_of, number_of}
use Rattle.mx_core.proofs.KeptSteps.{address-plain, settled-then}
use Rattle.mx_core.proofs.machine.Machine.settle_at.Goals as goal

pub returns-in-Ok-clause-made : goal.returns-in-Ok-clause-made
returns-in-Ok-clause-made c = λ _.
    let k : Kept = c.args.self.now in
    let start : ℕ = k.memory.code_start in
    let t = state_of c.set.new.self in
    let n : ℕ = (address_in k c.args.index + 4) % 2 ^ 64 in
    let at : address_of start (number_of c.lead_on.result) ≡ n = c.lead_on.ensures.leads start ∙ ap (λ a. (a + 4) % 2 ^ 64) (address-plain k c.args.index c.requires.here) in
    settled-then (state_of k) t (onward t (address_of start (number_of c.lead_on.result))) c.args.k c.args.x n c.in-Ok.ensures.made (ap (onward t) at)
