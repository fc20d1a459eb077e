-- Several processors that run one object by a schedule: how many there are, the lines that tell what became of them, and the outcome.
use Rattle.std.specs.Prelude.{ℕ, ◌+◌, ◌%◌, ◌==◌, nat_le, Bool, if◌then◌else◌, List, [], ◌∷◌, ◌++◌, length, codes, decimal}
use Rattle.std.specs.List.{flat_map, range_with_len}
use Rattle.mx_ring.specs.Stack.{register}
use Rattle.mx_core.specs.Bare.{Shared, with_shared}
use Rattle.mx_core.specs.State.{State}
use Rattle.mx_multi.specs.Joint.{Joint, has_halted, no_processor, processor}
use Rattle.mx_multi.specs.declared.end.MultiEnd.{MultiEnd}
use Rattle.mx_multi.specs.declared.end.MultiEnd.TheVariants as turning
use Rattle.mx_outcome.specs.declared.outcome.Outcome.{Outcome}
use Rattle.mx_outcome.specs.declared.outcome.Outcome.TheVariants.{Done, Stopped, StepsSpent, OutOfMemory}
use Rattle.mx_dump.specs.Dump.{Line, octa_lines, octa_count}

-- as many processors as the greatest byte of a schedule and one
abbrev pub with_named : ℕ → ℕ → ℕ
with_named count who = if nat_le count who then who + 1 else count

abbrev pub counted_from : ℕ → List ℕ → ℕ
counted_from count [] = count
counted_from count (who ∷ rest) = counted_from (with_named count who) rest

abbrev pub processors_named : List ℕ → ℕ
processors_named schedule = counted_from 1 schedule

-- ---- the lines

-- what became of a processor that has not halted
abbrev pub stop_text : ℕ → MultiEnd → List ℕ
stop_text who (turning.Stopped which pc reason) = if who == which then codes " stopped " ++ decimal reason else codes " running"
stop_text who turning.AllHalted = codes " running"
stop_text who turning.Spent = codes " running"
stop_text who turning.OutOfMemory = codes " running"

-- one that has halted did so with the low byte of its $255
abbrev pub status_text : MultiEnd → Joint → ℕ → List ℕ
status_text end j who =
    if has_halted j.halted who then codes " halted " ++ decimal (register (processor j who).stack 255 % 256) else stop_text who end

abbrev pub processor_text : MultiEnd → Joint → ℕ → Line
processor_text end j who =
    codes "processor " ++ decimal who ++ status_text end j who ++ codes " steps " ++ decimal (processor j who).steps ++ codes "\n"

abbrev pub processor_line : MultiEnd → Joint → ℕ → List Line
processor_line end j who = processor_text end j who ∷ []

unfoldable pub processor_lines : MultiEnd → Joint → List Line
processor_lines end j = flat_map (processor_line end j) (range_with_len 0 (length j.processors))

-- a machine on the one memory whose stack area was not looked at: the octas of its dump are those of that memory
abbrev pub memory_alone : Shared → State
memory_alone memory = with_shared memory no_processor

abbrev pub memory_lines : Shared → List Line
memory_lines memory = octa_lines (memory_alone memory) octa_count

abbrev pub memory_if : Bool → Shared → List Line
memory_if dump memory = if dump then memory_lines memory else []

-- one line for each processor, and the octas of the one memory where a dump is asked for
unfoldable pub multi_lines : Bool → MultiEnd → Joint → List Line
multi_lines dump end j = processor_lines end j ++ memory_if dump j.memory

-- ---- the outcome

abbrev pub multi_outcome : ℕ → MultiEnd → Outcome
multi_outcome steps turning.AllHalted = Done 0
multi_outcome steps (turning.Stopped who pc reason) = Stopped pc reason
multi_outcome steps turning.Spent = StepsSpent steps
multi_outcome steps turning.OutOfMemory = OutOfMemory
