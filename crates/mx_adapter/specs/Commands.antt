-- The requests by their names. (Debug Adapter Protocol, "Requests".)
use Rattle.std.specs.Prelude.{ℕ, List, [], ◌∷◌, codes, bytes_eq, if◌then◌else◌}
use Rattle.mx_adapter.specs.declared.commands.Command.{Command}
use Rattle.mx_adapter.specs.declared.commands.Command.TheVariants.{Initialize, Launch, ConfigurationDone, SetBreakpoints, SetFunctionBreakpoints, SetInstructionBreakpoints, SetDataBreakpoints, SetExceptionBreakpoints, DataBreakpointInfo, ExceptionInfo, Continue, Next, StepIn, StepOut, StepBack, ReverseContinue, Pause, Threads, StackTrace, Scopes, Variables, Evaluate, ReadMemory, Disassemble, Source, LoadedSources, Cancel, Terminate, Disconnect, Other}
use Rattle.mx_adapter.specs.declared.commands.Row.{Row}

pub record Named : Type 0 where
  pub name : List ℕ
  pub command : Command

abbrev pub row : List ℕ → Command → Named
row name command = record { name = name; command = command }

abbrev pub named_in : List Named → List ℕ → Command
named_in [] name = Other
named_in (r ∷ rows) name = if bytes_eq r.name name then r.command else named_in rows name

-- What a name asks for.
unfoldable pub named : List ℕ → Command
named =
    named_in
    (row (codes "initialize") Initialize
    ∷ row (codes "launch") Launch
    ∷ row (codes "configurationDone") ConfigurationDone
    ∷ row (codes "setBreakpoints") SetBreakpoints
    ∷ row (codes "setFunctionBreakpoints") SetFunctionBreakpoints
    ∷ row (codes "setInstructionBreakpoints") SetInstructionBreakpoints
    ∷ row (codes "setDataBreakpoints") SetDataBreakpoints
    ∷ row (codes "setExceptionBreakpoints") SetExceptionBreakpoints
    ∷ row (codes "dataBreakpointInfo") DataBreakpointInfo
    ∷ row (codes "exceptionInfo") ExceptionInfo
    ∷ row (codes "continue") Continue
    ∷ row (codes "next") Next
    ∷ row (codes "stepIn") StepIn
    ∷ row (codes "stepOut") StepOut
    ∷ row (codes "stepBack") StepBack
    ∷ row (codes "reverseContinue") ReverseContinue
    ∷ row (codes "pause") Pause
    ∷ row (codes "threads") Threads
    ∷ row (codes "stackTrace") StackTrace
    ∷ row (codes "scopes") Scopes
    ∷ row (codes "variables") Variables
    ∷ row (codes "evaluate") Evaluate
    ∷ row (codes "readMemory") ReadMemory
    ∷ row (codes "disassemble") Disassemble
    ∷ row (codes "source") Source
    ∷ row (codes "loadedSources") LoadedSources
    ∷ row (codes "cancel") Cancel
    ∷ row (codes "terminate") Terminate
    ∷ row (codes "disconnect") Disconnect
    ∷ [])

-- a row of the program
abbrev pub named_by : Row → Named
named_by r = record { name = r.name.now; command = r.command }
