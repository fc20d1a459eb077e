-- What is shown of a state: the address of the next instruction, and an octa at each of many places.
use Rattle.std.specs.Prelude.{ℕ, ◌*◌, ◌^◌, ◌==◌, ◌||◌, nat_le, nat_lt, if◌then◌else◌, List, ◌++◌, slice_index_or, Result, Ok, Err}
use Rattle.mx_ring.specs.Stack.{Stack, visible, hidden_octas, register, in_stack_area}
use Rattle.mx_code.specs.SpecialRegisters.{rC}
use Rattle.mx_core.specs.State.{State, global_start, special_register}
use Rattle.mx_run.specs.Runs.{Ended}
use Rattle.mx_outcome.specs.declared.outcome.Outcome.{Outcome}
use Rattle.mx_replay.specs.Programs.{step_of}
use Rattle.mx_replay.specs.declared.program.Program.{Program}

pub record Picture : Type 0 where
  -- the address of the next instruction
  pub next : ℕ
  -- the special registers by their codes, without rC, which counts the steps
  pub special : ℕ → ℕ
  -- the global registers by their numbers; 0 at the number of a register that is not global
  pub global : ℕ → ℕ
  -- the registers of the register stack from the oldest on: the hidden ones, and then the local ones
  pub stacked : ℕ → ℕ
  -- the octas of memory outside the stack area by their numbers: that of number n has the addresses from 8 n on
  pub octa : ℕ → ℕ

-- the octa at a place of a list; 0 after its end
abbrev pub octa_of : List ℕ → ℕ → ℕ
octa_of octas i = slice_index_or octas i 0

-- the hidden registers, the oldest first, and the local ones
abbrev pub all_registers : Stack → List ℕ
all_registers z = hidden_octas z ++ (visible z).locals

abbrev pub special_shown : State → ℕ → ℕ
special_shown s code = if code == rC then 0 else special_register s code

abbrev pub global_shown : State → ℕ → ℕ
global_shown s k = if nat_lt k (global_start s) then 0 else register s.stack k

-- the stack area has no octas of memory here, since it holds registers; and no octa has an address of 2^63 or more
abbrev pub octa_shown : State → ℕ → ℕ
octa_shown s n = if nat_le (2 ^ 60) n || in_stack_area (8 * n) then 0 else s.octas (8 * n)

unfoldable pub picture : State → Picture
picture s = record {
  next = s.pc;
  special = special_shown s;
  global = global_shown s;
  stacked = octa_of (all_registers s.stack);
  octa = octa_shown s;
}

-- the picture in which everything is 0
abbrev pub no_picture : Picture
no_picture = record { next = 0; special = λ _. 0; global = λ _. 0; stacked = λ _. 0; octa = λ _. 0 }

abbrev pub picture_of : Result Ended Outcome → Picture
picture_of (Err outcome) = no_picture
picture_of (Ok e) = picture e.state

-- the picture of step k of a run: of the state that k turns from its start come to
unfoldable pub picture_at : Program → ℕ → Picture
picture_at p k = picture_of (step_of p k)
