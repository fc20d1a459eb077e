-- The refusal of a source: its first faulty statement or line; without one, the first reference to what is never defined;
-- without that, what is missing at the end. (MMIXware, MMIXAL: future references, Main, GREG and LOCAL.)
use Rattle.std.specs.Prelude.{ℕ, ◌/◌, nat_lt, nat_le, if◌then◌else◌, List, [], ◌∷◌, ◌++◌, length, Option, None, Some, is_some, Result, Ok, Err, Option}
use Rattle.std.specs.List.{list_any}
use Rattle.mx_word.specs.declared.symbols.Value.{Value}
use Rattle.mx_word.specs.declared.symbols.Value.TheVariants.{Pure, Reg}
use Rattle.mx_word.specs.declared.waits.Awaited.{Awaited}
use Rattle.mx_word.specs.declared.waits.Awaited.TheVariants as awaited
use Rattle.mx_word.specs.declared.waits.Wait.{Wait}
use Rattle.mx_line.specs.Lines.{lines_of}
use Rattle.mx_mmo.specs.declared.items.Item.{Item}
use Rattle.mx_names.specs.declared.fault.NameFault.{NameFault}
use Rattle.mx_names.specs.Names.{NameTable, define_answer, value_of_name}
use Rattle.mx_names.specs.Gregs.{lowest_of}
use Rattle.mx_stmt.specs.declared.statement.Label.{Label}
use Rattle.mx_stmt.specs.declared.statement.Label.TheVariants.{Name, Local}
use Rattle.mx_stmt.specs.declared.placed.Effect.{Effect}
use Rattle.mx_stmt.specs.declared.placed.Effect.TheVariants as effect
use Rattle.mx_stmt.specs.declared.placed.Placed.{Placed}
use Rattle.mx_stmt.specs.Steps.{Answer}
use Rattle.mx_stmt.specs.Operands.{Known, symbol_form}
use Rattle.mx_stmt.specs.Encoding.{StatementTree}
use Rattle.mx_asm.specs.declared.faults.AsmFault.{AsmFault}
use Rattle.mx_asm.specs.declared.faults.AsmFault.TheVariants.{Stmt, Name as BadName, UndefinedSymbol, UndefinedLocal, MainUndefined, MainRegister, SymbolsTooMany, LocalAboveGlobals}
use Rattle.mx_asm.specs.declared.refused.Refused.{Refused}
use Rattle.mx_asm.specs.Faults.{refused}
use Rattle.mx_asm.specs.Entries.{Entry, statements_in, refusal_in, source_entries}
use Rattle.mx_asm.specs.TwoPass.{Sight, outline, waits_in, referent, final_known, sights_of}
use Rattle.mx_asm.specs.Fixes.{fixes, awaited_value, waiting_at}
use Rattle.mx_asm.specs.Emission.{main_name, padded_trie}

-- ---- the fault of a statement

-- a label that is too long, predefined, or defined already
abbrev pub name_refusal : Result (Unit {0}) NameFault → Option AsmFault
name_refusal (Err fault) = Some (BadName fault)
name_refusal (Ok u) = None

abbrev pub name_fault : NameTable → Result (List ℕ) NameFault → Option AsmFault
name_fault names (Err fault) = Some (BadName fault)
name_fault names (Ok full) = name_refusal (define_answer names full)

abbrev pub label_fault : NameTable → Option Label → Option AsmFault
label_fault names None = None
label_fault names (Some (Name text)) = name_fault names (symbol_form names text)
label_fault names (Some (Local d)) = None

-- the first refusal of the references that wait for the label
abbrev pub refusal_of : Result (List Item) Refused → Option Refused
refusal_of (Err refused) = Some refused
refusal_of (Ok items) = None

abbrev pub fault_after : List Sight → Sight → Placed → Option AsmFault → Option Refused
fault_after earlier s p (Some fault) = Some (refused s.statement.line fault)
fault_after earlier s p None = refusal_of (fixes s.statement.line (awaited_value p.label) (waiting_at earlier s))

-- the operands, then the label, then the references that wait for it
abbrev pub fault_with : List Sight → Sight → Answer Placed → Option Refused
fault_with earlier s (Err fault) = Some (refused s.statement.line (Stmt fault))
fault_with earlier s (Ok p) = fault_after earlier s p (label_fault s.known.names s.statement.label)

abbrev pub statement_fault : List Sight → Sight → Option Refused
statement_fault earlier s = fault_with earlier s (outline s)

abbrev pub first_of : Option Refused → Option Refused → Option Refused
first_of None other = other
first_of (Some refused) other = Some refused

-- the first faulty statement
unfoldable pub first_fault : List Sight → List Sight → Option Refused
first_fault earlier [] = None
first_fault earlier (s ∷ later) = first_of (statement_fault earlier s) (first_fault (earlier ++ s ∷ []) later)

-- ---- what is never defined

abbrev pub undefined : Awaited → AsmFault
undefined (awaited.Name full) = UndefinedSymbol
undefined (awaited.Local d) = UndefinedLocal

-- the first of these references that means nothing
unfoldable pub unreferenced : NameTable → List Sight → List Wait → Option Refused
unreferenced final later [] = None
unreferenced final later (wait ∷ waits) =
    if is_some (referent final later wait.who) then unreferenced final later waits
    else Some (refused wait.line (undefined wait.who))

unfoldable pub first_undefined : NameTable → List Sight → Option Refused
first_undefined final [] = None
first_undefined final (s ∷ later) = first_of (unreferenced final later (waits_in (outline s))) (first_undefined final later)

-- ---- what is missing at the end

-- the registers that LOCAL names
abbrev pub local_of : Effect → List ℕ
local_of (effect.Local reg) = reg ∷ []
local_of e = []

abbrev pub local_in : Answer Placed → List ℕ
local_in (Err fault) = []
local_in (Ok p) = local_of p.effect

unfoldable pub locals : List Sight → List ℕ
locals [] = []
locals (s ∷ later) = local_in (outline s) ++ locals later

abbrev pub trie_limit : ℕ
trie_limit = 65535

abbrev pub last_fault : Known → List ℕ → Option Value → Option AsmFault
last_fault k locals None = Some MainUndefined
last_fault k locals (Some (Reg r)) = Some MainRegister
last_fault k locals (Some (Pure main)) =
    if list_any (λ reg. nat_le (lowest_of k.gregs) reg) locals then Some LocalAboveGlobals
    else if nat_lt trie_limit (length (padded_trie k.names) / 4) then Some SymbolsTooMany
    else None

abbrev pub end_fault : Known → List ℕ → Option AsmFault
end_fault k locals = last_fault k locals (value_of_name k.names main_name)

-- ---- the refusal of a source

-- the number of the last line, and 1 where there is none
abbrev pub last_line : List (List ℕ) → ℕ
last_line [] = 1
last_line (line ∷ lines) = length (line ∷ lines)

abbrev pub at_line : ℕ → Option AsmFault → Option Refused
at_line line None = None
at_line line (Some fault) = Some (refused line fault)

-- the refusal of statements where nothing is refused before the end
abbrev pub end_refusal : ℕ → List StatementTree → Option Refused
end_refusal last statements =
    let known = final_known statements in
    first_of (first_undefined known.names (sights_of statements)) (at_line last (end_fault known (locals (sights_of statements))))

-- the first refusal among entries; a source whose entries end with one has no further statement
abbrev pub entries_refusal : List Entry → Option Refused
entries_refusal entries = first_of (first_fault [] (sights_of (statements_in entries))) (refusal_in entries)

abbrev pub refusal : List ℕ → Option Refused
refusal source =
    let entries = source_entries source in
    first_of (entries_refusal entries) (end_refusal (last_line (lines_of source)) (statements_in entries))
