-- What a request is answered before the program that it is about is looked at. (Debug Adapter Protocol, "Requests".)
use Rattle.std.specs.Prelude.{ℕ, Bool, true, false, List, [], ◌∷◌, ◌++◌, Option, None, Some, codes}
use Rattle.std.specs.List.{flat_map}
use Rattle.serde_json.specs.Data.{Data}
use Rattle.mx_json.specs.Json.{quoted}
use Rattle.mx_adapter.specs.declared.commands.Command.{Command}
use Rattle.mx_adapter.specs.declared.commands.Command.TheVariants.{Initialize, Launch, Threads, SetExceptionBreakpoints, Cancel, Terminate, Disconnect, Other}
use Rattle.mx_adapter.specs.declared.outbox.Answer.{Answer}
use Rattle.mx_adapter.specs.declared.outbox.Answer.TheVariants.{Done, Refused}
use Rattle.mx_adapter.specs.declared.early.RequestKind.{RequestKind as Found}
use Rattle.mx_adapter.specs.declared.early.RequestKind.TheVariants.{Unknown, Always, AboutProgram}
use Rattle.mx_adapter.specs.Needs.{lack}

-- an object whose members are true
abbrev pub all_true : List (List ℕ) → List ℕ
all_true [] = codes "{}"
all_true (name ∷ names) = codes "{" ++ quoted name ++ codes ":true" ++ flat_map (λ n. codes "," ++ quoted n ++ codes ":true") names ++ codes "}"

-- what the adapter offers
unfoldable pub offers : List ℕ
offers =
    all_true (codes "supportsConfigurationDoneRequest" ∷ codes "supportsFunctionBreakpoints" ∷ codes "supportsConditionalBreakpoints"
    ∷ codes "supportsEvaluateForHovers" ∷ codes "supportsStepBack" ∷ codes "supportsExceptionInfoRequest" ∷ codes "supportsDataBreakpoints"
    ∷ codes "supportsReadMemoryRequest" ∷ codes "supportsDisassembleRequest" ∷ codes "supportsInstructionBreakpoints"
    ∷ codes "supportsSteppingGranularity" ∷ codes "supportsTerminateRequest" ∷ codes "supportsCancelRequest"
    ∷ codes "supportsLoadedSourcesRequest" ∷ codes "supportsDelayedStackTraceLoading" ∷ [])

unfoldable pub one_thread : List ℕ
one_thread = codes "{\"threads\":[{\"id\":1,\"name\":\"mmix\"}]}"

-- what a request is: none that is known, one that always has the same answer, or one about a program that is launched
pub data RequestKind : Type 0 where
  unknown : RequestKind
  always : List ℕ → RequestKind
  about_program : RequestKind

-- a launch has no answer before its files are read
unfoldable pub kind_of : Command → RequestKind
kind_of Other = unknown
kind_of Launch = unknown
kind_of Initialize = always offers
kind_of Threads = always one_thread
kind_of SetExceptionBreakpoints = always []
kind_of Cancel = always []
kind_of Terminate = always []
kind_of Disconnect = always []
kind_of _ = about_program

abbrev pub kind_by : Found → RequestKind
kind_by Unknown = unknown
kind_by (Always body) = always body.now
kind_by AboutProgram = about_program

unfoldable pub no_request : List ℕ
no_request = codes "there is no such request"

unfoldable pub no_program : List ℕ
no_program = codes "no program is launched"

-- the answer where something is lacking, or else this one
abbrev pub unless_lacking : Option (List ℕ) → Option Answer → Option Answer
unless_lacking (Some why) answer = Some (Refused why)
unless_lacking None answer = answer

abbrev pub early_by : RequestKind → Bool → Option (List ℕ) → Option Answer
early_by unknown is_launched lacking = Some (Refused no_request)
early_by (always body) is_launched lacking = unless_lacking lacking (Some (Done body))
early_by about_program false lacking = Some (Refused no_program)
early_by about_program true lacking = unless_lacking lacking None

-- What a request is answered, by whether a program is launched, if the answer does not depend on that program.
unfoldable pub early : Bool → Command → Data → Option Answer
early is_launched command d = early_by (kind_of command) is_launched (lack command d)
