-- The machine's part of a file trap: what it tells, and the state once the trap has a result.
use Rattle.std.specs.Prelude.{ℕ, ◌+◌, ◌/◌, ◌%◌, ◌^◌, true, List, [], ◌∷◌, None}
use Rattle.mx_ring.specs.Stack.{register}
use Rattle.mx_code.specs.SpecialRegisters.{rBB, rWW, rXX, rYY, rZZ}
use Rattle.mx_alu.specs.declared.call.TrapCall.{TrapCall}
use Rattle.mx_core.specs.Deeds.{with_specials, onward}
use Rattle.mx_core.specs.State.{State, with_value_in}
use Rattle.mx_code.specs.declared.trace.Trace.{Trace}

-- rWW, rXX, rYY and rZZ tell the instruction, and rBB the result
abbrev pub trap_specials : State → TrapCall → ℕ → List (ℕ × ℕ)
trap_specials s call value =
    (rWW, (call.pc + 4) % 2 ^ 64) ∷ (rXX, 2 ^ 63 + call.word)
    ∷ (rYY, register s.stack (call.word / 2 ^ 8 % 2 ^ 8)) ∷ (rZZ, register s.stack (call.word % 2 ^ 8)) ∷ (rBB, value) ∷ []

abbrev pub told_trap : State → TrapCall → ℕ → State
told_trap s call value = with_specials s (trap_specials s call value)

-- $255 gets the result too, and the machine goes on
unfoldable pub trapped : State → TrapCall → ℕ → State
trapped s call value = onward (with_value_in (told_trap s call value) 255 value) ((call.pc + 4) % 2 ^ 64)

abbrev pub trap_trace : State → TrapCall → ℕ → Trace
trap_trace s call value =
    record { pc = call.pc; word = call.word; dest = None; reads = None; writes = None; next = (trapped s call value).pc }

-- Halt only counts as a step
abbrev pub halted : State → State
halted s = record s { steps = (s.steps + 1) % 2 ^ 64 }

abbrev pub with_touch : State → State
with_touch s = record s { touched = true }
