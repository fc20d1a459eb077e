-- One step of the machine: the next state with its trace, a call of a file trap, or a stop (MMIXware, the part on MMIX).
use Rattle.std.specs.Prelude.{◌||◌, if◌then◌else◌, Option, None, Some}
use Rattle.std.specs.Option.{option_map}
use Rattle.mx_ring.specs.Stack.{register}
use Rattle.mx_alu.specs.declared.call.TrapCall.{TrapCall}
use Rattle.mx_core.specs.Deeds.{Deed, deed_of, resumed, state_done}
use Rattle.mx_code.specs.LoadsAndStores.{touch}
use Rattle.mx_core.specs.Effects.{Store}
use Rattle.mx_code.specs.Instructions.{instruction, operation_in}
use Rattle.mx_code.specs.declared.instruction.Instruction.{Instruction}
use Rattle.mx_word.specs.Segments.{is_in_stack_segment}
use Rattle.mx_core.specs.State.{State, tetra, is_negative}
use Rattle.mx_code.specs.declared.operation.Operation.{Operation}
use Rattle.mx_code.specs.declared.operation.Operation.TheVariants as op
use Rattle.mx_code.specs.declared.reason.Reason.{Reason}
use Rattle.mx_code.specs.declared.reason.Reason.TheVariants.{Negative}
use Rattle.mx_code.specs.declared.trace.Touch.{Touch}
use Rattle.mx_code.specs.declared.trace.Trace.{Trace}

pub data Stepped : Type 0 where
  went : State → Trace → Stepped
  calls : TrapCall → Stepped
  stopped : Reason → Stepped

-- the instruction at the machine's next address
abbrev pub fetched : State → Instruction
fetched s = instruction s.pc (tetra s s.pc)

-- the state once a deed is carried out; to fetch an instruction from Stack_Segment is to look there
abbrev pub after : State → Deed → State
after s d = record (state_done s d) { touched = s.touched || d.is_wild || is_in_stack_segment s.pc }

-- the touch of what is stored
abbrev pub store_touch : Store → Touch
store_touch store = touch store.at store.part

-- the trace has the address and the tetra of the instruction that was fetched
abbrev pub trace_of : State → Deed → Trace
trace_of s d = record {
  pc = s.pc;
  word = (fetched s).word;
  dest = d.destination;
  reads = d.effect.load;
  writes = option_map store_touch d.effect.store;
  next = (after s d).pc;
}

abbrev pub completed : State → Deed → Option Reason → Stepped
completed s d None = went (after s d) (trace_of s d)
completed s d (Some reason) = stopped reason

abbrev pub carried_out : State → Deed → Stepped
carried_out s d = completed s d d.refused

-- a call of a file trap, with what $255 has
abbrev pub call_of : State → TrapCall
call_of s = record { pc = s.pc; word = (fetched s).word; arg = register s.stack 255 }

abbrev pub made : State → Operation → Stepped
made s op.Trap = calls (call_of s)
made s op.Resume = carried_out s (resumed s (fetched s))
made s operation = carried_out s (deed_of operation s (fetched s))

unfoldable pub step : State → Stepped
step s = if is_negative s.pc then stopped Negative else made s (operation_in (fetched s))
