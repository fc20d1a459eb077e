-- Steps one after another, as far as each goes on.
use Rattle.std.specs.Prelude.{ℕ, zero, suc, ◌≡◌}
use Rattle.mx_ring.specs.Window.{Window}
use Rattle.mx_core.specs.Bounds.{IsMachine}
use Rattle.mx_core.specs.State.{State}
use Rattle.mx_core.specs.Step.{step}
use Rattle.mx_core.specs.Way.Stepping.{advanced}
use Rattle.mx_core.specs.declared.step.Advance.TheVariants as advance

-- whether a step goes on, and the state after it
abbrev pub GoesOn : State → Type 0
GoesOn s = (advanced s (step s)).0 ≡ advance.Went

abbrev pub next_state : State → State
next_state s = (advanced s (step s)).1

-- a state over some window of registers, as that of every machine of the code
pub record IsWindowed (s : State) : Type 0 where
  pub window : Window
  pub machine : IsMachine s window

-- this many steps, each of which goes on, and begins over a window, lead from one state to another
unfoldable pub Goes : ℕ → State → State → Type 0
Goes zero s t = s ≡ t
Goes (suc k) s t = IsWindowed s × GoesOn s × Goes k (next_state s) t
