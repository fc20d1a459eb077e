-- What holds of a ring at all times.
use Rattle.std.specs.Prelude.{◌+◌, ◌^◌, ◌≡◌, ◌≤◌, ◌<◌, length}
use Rattle.mx_registers.specs.Bounds.{AreInBounds}
use Rattle.mx_registers.specs.HiddenPart.{octas_of}
use Rattle.mx_ring.specs.Window.{Window}

-- The ring's part of what the machine keeps: what is spilled is hidden, hidden and local registers in the ring are
-- fewer than its size, and all hidden and local registers together are at most 2^20.
pub record IsRing (w : Window) : Type 0 where
  pub least_size : 256 ≤ w.size
  pub area : length w.hidden.stack ≡ 2 ^ 20
  pub spilled_are_hidden : w.hidden.spilled ≤ length (octas_of w.hidden)
  pub shorter : length w.hidden.resident + length w.visible.locals < w.size
  pub has_room : length (octas_of w.hidden) + length w.visible.locals ≤ 2 ^ 20
  pub registers : AreInBounds w.visible
