-- What a run and a session are to the program: the outcome that a session comes to, and the states that come back after a run.
use Rattle.std.specs.Prelude.{ℕ, ◌^◌, Bool, true, false, List, [], ◌∷◌, map}
use Rattle.mx_core.specs.State.{State}
use Rattle.mx_show.specs.Texts.{ended, state_text}
use Rattle.mx_con.specs.declared.end.SessionEnd.{SessionEnd}
use Rattle.mx_con.specs.declared.end.SessionEnd.TheVariants as sitting
use Rattle.mx_dump.specs.Dump.{Line}
use Rattle.mx_outcome.specs.declared.outcome.Outcome.{Outcome}
use Rattle.mx_outcome.specs.declared.outcome.Outcome.TheVariants.{Done, HostFault, Stopped, StepsSpent, Quit, ConsoleLimit, OutOfMemory}

-- a generated program makes at most this many steps
abbrev pub generator_steps : ℕ
generator_steps = 2 ^ 26

-- the outcome of a session of at most this many steps
abbrev pub session_outcome : ℕ → SessionEnd → Outcome
session_outcome steps (sitting.Halted status) = Done status
session_outcome steps (sitting.Stopped pc reason) = Stopped pc reason
session_outcome steps sitting.Spent = StepsSpent steps
session_outcome steps sitting.Quit = Quit
session_outcome steps sitting.Limit = ConsoleLimit
session_outcome steps sitting.HostFault = HostFault
session_outcome steps sitting.OutOfMemory = OutOfMemory

-- whether a program halted
abbrev pub is_done : Outcome → Bool
is_done (Done status) = true
is_done outcome = false

-- steps are taken back where the machine stopped, or all its steps were made
abbrev pub takes_back : Outcome → Bool
takes_back (Stopped pc reason) = true
takes_back (StepsSpent steps) = true
takes_back outcome = false

-- states that come back: each has the line that the console shows of it
unfoldable pub state_lines : List State → List Line
state_lines states = map (λ s. ended (state_text s)) states

-- where the machine comes to: to the last of them, if there is one
unfoldable pub reached : State → List State → State
reached s [] = s
reached s (t ∷ states) = reached t states
