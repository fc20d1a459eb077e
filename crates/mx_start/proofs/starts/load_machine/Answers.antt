use Rattle.std.proofs.Common.{arith, sym, ap, ◌∙◌}
use Rattle.mx_core.specs.Bare.{shared_in, with_shared}
use Rattle.mx_core.specs.Kept.{state_of}
use Rattle.mx_load.specs.Kept.{image_of}
use Rattle.mx_ring.specs.Stack.{windowed}
use Rattle.mx_ring.specs.Window.{window_at_start}
use Rattle.mx_start.proofs.LoadedMachines.{loaded-is-bare}
use Rattle.mx_start.proofs.starts.load_machine.Goals as goal

pub returns : goal.returns
returns c =
    let byte = c.g-g.type_inv in
    c.with_memory.ensures
    ∙ ap (λ m. with_shared (shared_in m) (state_of c.in_ok-machine.machine)) c.into_memory.ensures.value
    ∙ ap (λ s. with_shared (shared_in c.args.image.memory) s) c.in_ok-machine.ensures
    ∙ sym (loaded-is-bare (image_of c.args.image) c.args.count (windowed (window_at_start c.args.r)) (omega (arith, byte, c.g-g.ensures.value)))
