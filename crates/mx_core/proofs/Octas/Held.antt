-- What each machine holds are octas.
use Rattle.std.proofs.Common.{ℕ, ◌<◌, ◌^◌}
use Rattle.std.specs.Prelude.{slice_index}
use Rattle.mx_mem.specs.Memory.{octa_at}
use Rattle.mx_registers.proofs.OctaLists.{EachIsOcta, are-octas}
use Rattle.mx_ring.specs.Window.{Window}
use Rattle.mx_word.specs.Ranges.{AreOctas}
use Rattle.mx_code.specs.SpecialRegisters.{rA}
use Rattle.mx_core.specs.Bounds.{IsMachine}
use Rattle.mx_core.specs.Kept.{Kept, state_of}
use Rattle.mx_core.specs.Machines.{IsOverWindow}

-- a window whose registers and whose stack area hold octas
pub record HoldsAll (w : Window) : Type 0 where
  pub locals : AreOctas w.visible.locals
  pub globals : AreOctas w.visible.globals
  pub resident : AreOctas w.hidden.resident
  pub area : AreOctas w.hidden.stack

pub held-octas : (k : Kept) → IsMachine (state_of k) k.ring → HoldsAll k.ring → EachIsOcta k.special → slice_index k.special rA < 2 ^ 18 → ((a : ℕ) → octa_at k.memory a < 2 ^ 64) → k.steps < 2 ^ 64 → IsOverWindow (state_of k)
unfolding state_of
held-octas k machine ring special status memory steps = record {
  window = k.ring;
  machine = machine;
  octas = record {
    locals = ring.locals;
    globals = ring.globals;
    resident = ring.resident;
    area = ring.area;
    special = are-octas k.special special;
    status = status;
    memory = memory;
    steps = steps;
  };
}
