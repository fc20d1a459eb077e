-- Machines over some window that hold octas, as every machine of the code does.
use Rattle.std.specs.Prelude.{ℕ, ◌<◌, ◌^◌, slice_index}
use Rattle.mx_word.specs.Ranges.{AreOctas}
use Rattle.mx_ring.specs.Window.{Window}
use Rattle.mx_code.specs.SpecialRegisters.{rA}
use Rattle.mx_core.specs.Bounds.{IsMachine}
use Rattle.mx_core.specs.State.{State}

-- each register, each hidden octa and each octa of memory is below 2^64, and rA has 18 bits
pub record HoldsOctas (s : State) (w : Window) : Type 0 where
  pub locals : AreOctas w.visible.locals
  pub globals : AreOctas w.visible.globals
  pub resident : AreOctas w.hidden.resident
  pub area : AreOctas w.hidden.stack
  pub special : AreOctas s.special
  pub status : slice_index s.special rA < 2 ^ 18
  pub memory : (a : ℕ) → s.octas a < 2 ^ 64
  pub steps : s.steps < 2 ^ 64

pub record IsOverWindow (s : State) : Type 0 where
  pub window : Window
  pub machine : IsMachine s window
  pub octas : HoldsOctas s window
