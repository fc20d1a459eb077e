-- The arguments that a request requires, and what is said where it lacks one. (Debug Adapter Protocol, "Requests" and "Types".)
use Rattle.std.specs.Prelude.{ℕ, ◌+◌, Bool, List, [], ◌∷◌, ◌++◌, Option, None, Some, codes, decimal, if◌then◌else◌, is_some, option_and_then, option_map, unwrap_or}
use Rattle.serde_json.specs.Data.{Data, Items, no_items, item}
use Rattle.serde_json.specs.Find.{as_array, as_null, as_number, as_object, as_str, as_u64, get}
use Rattle.mx_adapter.specs.declared.commands.Command.{Command}
use Rattle.mx_adapter.specs.declared.commands.Command.TheVariants.{Initialize, SetBreakpoints, SetFunctionBreakpoints, SetInstructionBreakpoints, SetDataBreakpoints, SetExceptionBreakpoints, DataBreakpointInfo, ExceptionInfo, Continue, Next, StepIn, StepOut, StepBack, ReverseContinue, Pause, StackTrace, Scopes, Variables, Evaluate, ReadMemory, Disassemble, Source}
use Rattle.mx_adapter.specs.declared.needs.Kind.{Kind}
use Rattle.mx_adapter.specs.declared.needs.Kind.TheVariants.{Number, Text, Array, Object}
use Rattle.mx_adapter.specs.declared.needs.Need.{Need}

-- ---- what is required

-- an argument: its name, and what it has to be
pub record Argument : Type 0 where
  pub name : List ℕ
  pub kind : Kind

abbrev pub number_named : List ℕ → Argument
number_named name = record { name = name; kind = Number }

abbrev pub text_named : List ℕ → Argument
text_named name = record { name = name; kind = Text }

abbrev pub array_named : List ℕ → Argument
array_named name = record { name = name; kind = Array }

abbrev pub object_named : List ℕ → Argument
object_named name = record { name = name; kind = Object }

-- the arguments that each request requires
unfoldable pub required : Command → List Argument
required Initialize = text_named (codes "adapterID") ∷ []
required SetBreakpoints = object_named (codes "source") ∷ []
required SetFunctionBreakpoints = array_named (codes "breakpoints") ∷ []
required SetInstructionBreakpoints = array_named (codes "breakpoints") ∷ []
required SetDataBreakpoints = array_named (codes "breakpoints") ∷ []
required SetExceptionBreakpoints = array_named (codes "filters") ∷ []
required DataBreakpointInfo = text_named (codes "name") ∷ []
required ExceptionInfo = number_named (codes "threadId") ∷ []
required Continue = number_named (codes "threadId") ∷ []
required Next = number_named (codes "threadId") ∷ []
required StepIn = number_named (codes "threadId") ∷ []
required StepOut = number_named (codes "threadId") ∷ []
required StepBack = number_named (codes "threadId") ∷ []
required ReverseContinue = number_named (codes "threadId") ∷ []
required Pause = number_named (codes "threadId") ∷ []
required StackTrace = number_named (codes "threadId") ∷ []
required Scopes = number_named (codes "frameId") ∷ []
required Variables = number_named (codes "variablesReference") ∷ []
required Evaluate = text_named (codes "expression") ∷ []
required ReadMemory = text_named (codes "memoryReference") ∷ number_named (codes "count") ∷ []
required Disassemble = text_named (codes "memoryReference") ∷ number_named (codes "instructionCount") ∷ []
required Source = number_named (codes "sourceReference") ∷ []
required _ = []

-- what each breakpoint requires that a request sets
unfoldable pub required_of_each : Command → List Argument
required_of_each SetBreakpoints = number_named (codes "line") ∷ []
required_of_each SetFunctionBreakpoints = text_named (codes "name") ∷ []
required_of_each SetInstructionBreakpoints = text_named (codes "instructionReference") ∷ []
required_of_each SetDataBreakpoints = text_named (codes "dataId") ∷ []
required_of_each _ = []

-- ---- what is there

-- a value but `null`, which counts as missing
abbrev pub unless_null : Data → Option Data
unless_null d = if is_some (as_null d) then None else Some d

-- what a value has under a name
abbrev pub given : List ℕ → Option Data → Option Data
given name value = option_and_then unless_null (option_and_then (get name) value)

-- numbers are from 0 on, and below 2^64
abbrev pub is_of : Kind → Data → Bool
is_of Number d = is_some (option_and_then as_u64 (as_number d))
is_of Text d = is_some (as_str d)
is_of Array d = is_some (as_array d)
is_of Object d = is_some (as_object d)

-- ---- what is said

abbrev pub other_than : Kind → List ℕ
other_than Number = codes " is no number from 0 on"
other_than Text = codes " is no text"
other_than Array = codes " is no list"
other_than Object = codes " is no object"

abbrev pub unmet_by : Argument → Option Data → Option (List ℕ)
unmet_by a None = Some (a.name ++ codes " is missing")
unmet_by a (Some d) = if is_of a.kind d then None else Some (a.name ++ other_than a.kind)

-- what is said of an argument that is missing, or is something else
abbrev pub unmet : Argument → Option Data → Option (List ℕ)
unmet a value = unmet_by a (given a.name value)

-- the first of two, if it is there
abbrev pub first_of : Option (List ℕ) → Option (List ℕ) → Option (List ℕ)
first_of None rest = rest
first_of (Some text) rest = Some text

abbrev pub first_unmet : List Argument → Option Data → Option (List ℕ)
first_unmet [] value = None
first_unmet (a ∷ more) value = first_of (unmet a value) (first_unmet more value)

-- what is said of the breakpoint with a number, from 0 on
unfoldable pub said_of_each : ℕ → List ℕ → List ℕ
said_of_each n text = codes "breakpoints[" ++ decimal n ++ codes "]." ++ text

abbrev pub first_unmet_of_each : List Argument → ℕ → Items → Option (List ℕ)
first_unmet_of_each needs n no_items = None
first_unmet_of_each needs n (item d ds) = first_of (option_map (said_of_each n) (first_unmet needs (Some d))) (first_unmet_of_each needs (n + 1) ds)

-- the arguments of a request, and the breakpoints that it sets
abbrev pub arguments : Data → Option Data
arguments d = get (codes "arguments") d

abbrev pub breakpoints : Data → Items
breakpoints d = unwrap_or (option_and_then as_array (option_and_then (get (codes "breakpoints")) (arguments d))) no_items

-- What is said of the first argument that a request lacks, if there is one: it is named.
unfoldable pub lack : Command → Data → Option (List ℕ)
lack command d = first_of (first_unmet (required command) (arguments d)) (first_unmet_of_each (required_of_each command) 0 (breakpoints d))

-- ---- the tables of the program

abbrev pub argument_of : Need → Argument
argument_of need = record { name = need.name.now; kind = need.kind }
