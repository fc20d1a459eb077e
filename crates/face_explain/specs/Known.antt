-- What the table has to have: a row for each number and name of the tables of the program and of MMIXAL.
use Rattle.std.specs.Prelude.{ℕ, Bool, true, false, not, ◌&&◌, ◌==◌, List, [], ◌∷◌, length, is_some, bytes_eq}
use Rattle.std.specs.List.{list_any}
use Rattle.mx_ops.specs.Opcodes.{operation_of}
use Rattle.mx_outcome.specs.Names.{fault_name_of, usage_name_of}
use Rattle.mx_outcome.specs.Status.{status_of}
use Rattle.mx_outcome.specs.declared.outcome.Outcome.{Outcome}
use Rattle.mx_outcome.specs.declared.outcome.Outcome.TheVariants as ends
use Rattle.mx_warn.specs.Kinds.{kind_name, kind_number}
use Rattle.mx_warn.specs.declared.warnings.Kind.{Kind as Odd}
use Rattle.mx_warn.specs.declared.warnings.Kind.TheVariants.{OperatorAfterBlank, BackslashInString, NoLabelBefore, PlacedTwice, GregOfZero, UnusedBase, DataAfterCode, OtherCase, LostReturn, TrapOperands, EndlessJump, FloatInstruction, NarrowLabel}
use Rattle.mx_explain.specs.declared.row.Topic.{Topic}
use Rattle.mx_explain.specs.declared.row.Topic.TheVariants.{Source, Object, Stop, Kind, Warning, Status, Inside, Operation, Unperformed, Symbol}
use Rattle.mx_explain.specs.Topics.{Row}
use Rattle.mx_explain.specs.Facts.{value_of}
use Rattle.mx_explain.specs.Matching.{found}
use Rattle.face_explain.specs.Tables.{table}

-- whether a topic is a fault of this number, or a reason
abbrev pub is_fault_topic : ℕ → Topic → Bool
is_fault_topic n (Source number) = number == n
is_fault_topic n (Object number) = number == n
is_fault_topic n (Stop number) = number == n
is_fault_topic n (Inside number) = number == n
is_fault_topic n other = false

abbrev pub is_fault : ℕ → Row → Bool
is_fault n row = is_fault_topic n row.topic

-- whether it is a command-line error of this number
abbrev pub is_kind_topic : ℕ → Topic → Bool
is_kind_topic n (Kind number) = number == n
is_kind_topic n other = false

abbrev pub is_kind : ℕ → Row → Bool
is_kind n row = is_kind_topic n row.topic

-- whether it is a warning of this number
abbrev pub is_warning_topic : ℕ → Topic → Bool
is_warning_topic n (Warning number) = number == n
is_warning_topic n other = false

-- whether a row is about this kind of warnings
abbrev pub is_warning : Odd → Row → Bool
is_warning k row = is_warning_topic (kind_number k) row.topic && bytes_eq row.name (kind_name k)

-- whether it is an exit status of this number
abbrev pub is_status_topic : ℕ → Topic → Bool
is_status_topic n (Status number) = number == n
is_status_topic n other = false

abbrev pub is_status : ℕ → Row → Bool
is_status n row = is_status_topic n row.topic

-- whether an outcome is that of a program that has halted, which gives its own status
abbrev pub is_its_own : Outcome → Bool
is_its_own (ends.Done status) = true
is_its_own other = false

-- whether it is an operation, or a symbol
abbrev pub is_operation_topic : Topic → Bool
is_operation_topic Operation = true
is_operation_topic Unperformed = true
is_operation_topic other = false

abbrev pub is_symbol_topic : Topic → Bool
is_symbol_topic Symbol = true
is_symbol_topic other = false

-- whether a row is about the operation of this name, or the symbol
abbrev pub is_operation : List ℕ → Row → Bool
is_operation name row = is_operation_topic row.topic && bytes_eq row.name name

abbrev pub is_symbol : List ℕ → Row → Bool
is_symbol name row = is_symbol_topic row.topic && bytes_eq row.name name

-- whether a row that is found by a word passes a test
abbrev pub explains : List ℕ → (Row → Bool) → Bool
explains word test = list_any test (found word table)

-- all kinds of warnings, and an outcome of each status that a program does not give itself
abbrev pub odd_kinds : List Odd
odd_kinds =
    OperatorAfterBlank ∷ BackslashInString ∷ NoLabelBefore ∷ PlacedTwice ∷ GregOfZero ∷ UnusedBase ∷ DataAfterCode ∷ OtherCase
    ∷ LostReturn ∷ TrapOperands ∷ EndlessJump ∷ FloatInstruction ∷ NarrowLabel ∷ []

abbrev pub outcomes : List Outcome
outcomes =
    ends.Quit ∷ ends.Usage (record { kind = 1; word = 0 }) ∷ ends.BadSchedule 0 ∷ ends.NoFile ∷ ends.Stopped 0 110 ∷ ends.OutOfMemory
    ∷ ends.HostFault ∷ ends.StepsSpent 0 ∷ ends.ConsoleLimit ∷ []

-- whether the tables of the program and of MMIXAL have the number or the name of a row
abbrev pub is_known_topic : Topic → List ℕ → Bool
is_known_topic (Source n) name = not (length (fault_name_of n) == 0)
is_known_topic (Object n) name = not (length (fault_name_of n) == 0)
is_known_topic (Stop n) name = not (length (fault_name_of n) == 0)
is_known_topic (Inside n) name = not (length (fault_name_of n) == 0)
is_known_topic (Kind n) name = not (length (usage_name_of n) == 0)
is_known_topic (Warning n) name = list_any (λ k. kind_number k == n && bytes_eq (kind_name k) name) odd_kinds
is_known_topic (Status n) name = list_any (λ o. status_of o == n) outcomes
is_known_topic Operation name = is_some (operation_of name)
is_known_topic Unperformed name = is_some (operation_of name)
is_known_topic Symbol name = is_some (value_of name)

abbrev pub is_known : Row → Bool
is_known row = is_known_topic row.topic row.name
