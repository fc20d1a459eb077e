-- The words of the laws of a machine.
use Rattle.std.specs.Prelude.{ℕ, ◌≡◌, List, Result}
use Rattle.mx_ring.specs.RegisterList.{list_at_start}
use Rattle.mx_ring.specs.Stack.{frame_top, listed, register, saved, stack_address, windowed}
use Rattle.mx_ring.specs.Window.{window_at_start}
use Rattle.mx_word.specs.Results.{map_ok}
use Rattle.mx_core.specs.Bare.{bare}
use Rattle.mx_core.specs.Bounds.{as_list_state, as_list_step}
use Rattle.mx_core.specs.Effects.{specials_saved}
use Rattle.mx_core.specs.State.{State}
use Rattle.mx_core.specs.Step.{step}
use Rattle.mx_core.specs.declared.changes.SetFault.{SetFault}

-- two states represent the same list; and their steps do
abbrev pub HaveSameList : State → State → Type 0
HaveSameList s t = as_list_state s ≡ as_list_state t

abbrev pub StepAlike : State → State → Type 0
StepAlike s t = as_list_step (step s) ≡ as_list_step (step t)

-- SAVE X,0 leaves the address of the frame's last octa in $X
abbrev pub HasFrameAddress : State → ℕ → Type 0
HasFrameAddress s x = register (saved s.stack x (specials_saved s)) x ≡ stack_address (frame_top s.stack)

-- a change does the same to the list that a state represents, or is refused for both
abbrev pub GoesAsList : (State → State) → State → Type 0
GoesAsList change s = change (as_list_state s) ≡ as_list_state (change s)

abbrev pub GoesOrFailsAsList : (State → Result State SetFault) → State → Type 0
GoesOrFailsAsList change s = change (as_list_state s) ≡ map_ok as_list_state (change s)

-- the machine with no memory starts as that over the list
abbrev pub StartsAsList : ℕ → List ℕ → ℕ → ℕ → ℕ → Type 0
StartsAsList g globals first second size =
    bare g globals first second (listed list_at_start) ≡ as_list_state (bare g globals first second (windowed (window_at_start size)))
