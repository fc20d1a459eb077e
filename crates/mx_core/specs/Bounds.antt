-- What holds of the machine at all times, and the list machine that it represents.
use Rattle.std.specs.Prelude.{◌≡◌, ◌≤◌, ◌%◌, false, length}
use Rattle.mx_ring.specs.Bounds.{IsRing}
use Rattle.mx_ring.specs.Stack.{windowed, as_listed, spilled_count}
use Rattle.mx_ring.specs.Window.{Window}
use Rattle.mx_core.specs.Step.{Stepped, went, calls, stopped}
use Rattle.mx_core.specs.State.{State}

-- the machine over a window: what holds of a ring; and as long as nothing was touched, saved frames are spilled
pub record IsMachine (s : State) (w : Window) : Type 0 where
  pub over : s.stack ≡ windowed w
  pub ring : IsRing w
  pub frames_are_spilled : s.touched ≡ false → s.mark ≤ spilled_count s.stack
  pub pages : s.page_count ≤ 65536
  pub specials : length s.special ≡ 32
  pub address : s.pc % 4 ≡ 0

-- the state with the list that the register stack represents
abbrev pub as_list_state : State → State
as_list_state s = record s { stack = as_listed s.stack }

abbrev pub as_list_step : Stepped → Stepped
as_list_step (went s t) = went (as_list_state s) t
as_list_step (calls call) = calls call
as_list_step (stopped reason) = stopped reason
