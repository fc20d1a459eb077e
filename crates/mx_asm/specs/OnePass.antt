-- The same in one pass: each statement by what is known when it comes, each label with the references that wait for it then.
-- (MMIXware, the part on MMIXAL: future references; TAOCP 1, Fascicle 1, section 1.3.2'.)
use Rattle.std.specs.Prelude.{◌≡◌, ◌≢◌, ℕ, zero, suc, ◌+◌, ◌-◌, ◌/◌, ◌^◌, max, nat_lt, Bool, true, false, if◌then◌else◌, List, [], ◌∷◌, ◌++◌, length, slice_set, Option, None, Some, Result, Ok, Err}
use Rattle.mx_word.specs.declared.symbols.Value.{Value}
use Rattle.mx_word.specs.declared.symbols.Value.TheVariants.{Pure, Reg}
use Rattle.mx_word.specs.declared.waits.Awaited.{Awaited}
use Rattle.mx_word.specs.declared.waits.Awaited.TheVariants as awaited
use Rattle.mx_word.specs.declared.waits.Wait.{Wait}
use Rattle.mx_line.specs.declared.cutter.Cut.{Cut}
use Rattle.mx_line.specs.Source.{item_of}
use Rattle.mx_mmo.specs.declared.items.Item.{Item}
use Rattle.mx_names.specs.declared.fault.NameFault.{NameFault}
use Rattle.mx_names.specs.Names.{Naming, define_answer, value_of_name, with_symbol}
use Rattle.mx_names.specs.Waiting.{first_of, waits_for, waits_for_others}
use Rattle.mx_names.specs.Gregs.{lowest_of}
use Rattle.mx_stmt.specs.declared.statement.Label.{Label}
use Rattle.mx_stmt.specs.declared.statement.Label.TheVariants.{Name, Local}
use Rattle.mx_stmt.specs.declared.placed.Effect.{Effect}
use Rattle.mx_stmt.specs.declared.placed.Effect.TheVariants as effect
use Rattle.mx_stmt.specs.declared.placed.Placed.{Placed}
use Rattle.mx_stmt.specs.Steps.{Answer}
use Rattle.mx_stmt.specs.Operands.{Known, no_targets, symbol_form}
use Rattle.mx_stmt.specs.Encoding.{StatementTree, encoding}
use Rattle.mx_asm.specs.declared.faults.AsmFault.{AsmFault}
use Rattle.mx_asm.specs.declared.faults.AsmFault.TheVariants.{Stmt, Name as BadName, MainUndefined, MainRegister, SymbolsTooMany, LocalAboveGlobals, SourceTooLong, OutOfMemory}
use Rattle.mx_asm.specs.declared.refused.Refused.{Refused}
use Rattle.mx_asm.specs.Faults.{no_memory, refused}
use Rattle.mx_asm.specs.Entries.{Entry, entry_of, line_entries}
use Rattle.mx_asm.specs.TwoPass.{nothing_known, with_effect}
use Rattle.mx_asm.specs.declared.head.Head.{Head}
use Rattle.mx_asm.specs.Emission.{first_head, statement_items, statement_head, opening, closing, main_name, padded_trie}
use Rattle.mx_asm.specs.Refusal.{trie_limit, undefined}

-- what the assembler carries from statement to statement
pub record Assembly : Type 0 where
  -- the names, `@`, and the global registers
  pub known : Known
  pub waiting : List Wait
  pub head : Head
  -- one more than the greatest register that LOCAL named; 0 where it named none
  pub locals : ℕ
  -- how many lines there were, and their bytes with a newline after each
  pub lines : ℕ
  pub size : ℕ
  -- whether the opening is among the items
  pub opened : Bool

-- an assembly, or the refusal that ended it
abbrev pub Status : Type 0
Status = Result Assembly Refused

-- whether nothing is refused, and the opening was added
abbrev pub is_open : Status → Bool
is_open (Err refused) = false
is_open (Ok a) = a.opened

abbrev pub beginning : Assembly
beginning = record { known = nothing_known; waiting = []; head = first_head; locals = 0; lines = 0; size = 0; opened = false }

-- the names, and the references that wait
abbrev pub naming_of : Assembly → Naming
naming_of a = record { names = a.known.names; waiting = a.waiting }

-- ---- the label of a statement

-- the names with a label, and the references that waited for it
abbrev pub Labelled : Type 0
Labelled = Result (Naming × List Wait) AsmFault

-- references that begin to wait
abbrev pub with_waits : Naming → List Wait → Naming
with_waits n waits = record n { waiting = n.waiting ++ waits }

-- a symbol: the statement's own references wait for it too
abbrev pub symbol_defined : Naming → List ℕ → Value → List Wait → Result (Unit {0}) NameFault → Labelled
symbol_defined n full value waits (Err fault) = Err (BadName fault)
symbol_defined n full value waits (Ok u) =
    let waiting = n.waiting ++ waits in
    Ok (record { names = with_symbol n.names full value; waiting = waits_for_others (awaited.Name full) waiting }, waits_for (awaited.Name full) waiting)

abbrev pub with_symbol_label : Naming → Value → List Wait → Result (List ℕ) NameFault → Labelled
with_symbol_label n value waits (Err fault) = Err (BadName fault)
with_symbol_label n value waits (Ok full) = symbol_defined n full value waits (define_answer n.names full)

-- a label dH: its own references to dF wait for a later one
abbrev pub local_label : Naming → ℕ → Value → List Wait → Labelled
local_label n d value waits =
    Ok (
      record {
        names = record n.names { backs = slice_set n.names.backs d value };
        waiting = waits_for_others (awaited.Local d) n.waiting ++ waits;
      },
      waits_for (awaited.Local d) n.waiting,
    )

abbrev pub labelled : Naming → Option Label → Option Value → List Wait → Labelled
labelled n (Some (Name text)) (Some value) waits = with_symbol_label n value waits (symbol_form n.names text)
labelled n (Some (Local d)) (Some value) waits = local_label n d value waits
labelled n label value waits = Ok (with_waits n waits, [])

-- ---- a statement

-- the greatest register that LOCAL named, and one more
abbrev pub with_local : ℕ → Effect → ℕ
with_local locals (effect.Local reg) = max locals (reg + 1)
with_local locals e = locals

abbrev pub assembled : Assembly → ℕ → Placed → Naming → List Wait → Assembly
assembled a line p n waits = record a {
  known = with_effect (record { names = n.names; at = p.after; gregs = a.known.gregs }) p.effect;
  waiting = n.waiting;
  head = statement_head a.head line p waits;
  locals = with_local a.locals p.effect;
}

-- the items of a statement and what follows it, or its refusal
abbrev pub Taken : Type 0
Taken = Result (List Item × Assembly) Refused

abbrev pub taken_items : Assembly → Result (List Item) Refused → Taken
taken_items a (Err refused) = Err refused
taken_items a (Ok items) = Ok (items, a)

abbrev pub taken_label : Assembly → ℕ → Placed → Labelled → Taken
taken_label a line p (Err fault) = Err (refused line fault)
taken_label a line p (Ok (n, waits)) = taken_items (assembled a line p n waits) (statement_items a.head line p waits)

abbrev pub taken_placed : Assembly → ℕ → Option Label → Placed → Taken
taken_placed a line label p = taken_label a line p (labelled (naming_of a) label p.label p.waits)

abbrev pub taken_with : Assembly → ℕ → Option Label → Answer Placed → Taken
taken_with a line label (Err fault) = Err (refused line (Stmt fault))
taken_with a line label (Ok p) = taken_placed a line label p

abbrev pub statement_taken : Assembly → StatementTree → Taken
statement_taken a s = taken_with a s.line s.label (encoding no_targets a.known s)

abbrev pub entry_taken : Assembly → Entry → Taken
entry_taken a (Err refused) = Err refused
entry_taken a (Ok s) = statement_taken a s

-- ---- a line

-- the items so far, and what follows them
abbrev pub Progress : Type 0
Progress = List Item × Status

abbrev pub after_entry : List Item → Taken → Progress
after_entry out (Err refused) = (out, Err refused)
after_entry out (Ok (items, a)) = (out ++ items, Ok a)

abbrev pub and_entries : (List Item → Assembly → Progress) → Progress → Progress
and_entries more (out, Err refused) = (out, Err refused)
and_entries more (out, Ok a) = more out a

-- the entries of a line in turn; the first refusal ends them
unfoldable pub entries_taken : List Entry → List Item → Assembly → Progress
entries_taken [] out a = (out, Ok a)
entries_taken (e ∷ entries) out a = and_entries (entries_taken entries) (after_entry out (entry_taken a e))

-- a statement that was cut from a line with this number
abbrev pub cut_taken : ℕ → List ℕ → Cut → List Item → Assembly → Progress
cut_taken line text cut out a = after_entry out (entry_taken a (entry_of (item_of line text (Ok cut))))

-- a line is counted
abbrev pub counted : Assembly → List ℕ → Assembly
counted a text = record a { lines = a.lines + 1; size = a.size + length text + 1 }

-- and the same taken back
abbrev pub uncounted : Assembly → List ℕ → Assembly
uncounted a text = record a { lines = a.lines - 1; size = a.size - (length text + 1) }

-- Too many bytes come before all else of a line.
abbrev pub count_fault : Assembly → List ℕ → Option Refused
count_fault a text = if nat_lt (2 ^ 22) (a.size + length text) then Some (refused (a.lines + 1) SourceTooLong) else None

abbrev pub line_unless : Option Refused → List Item → Assembly → List ℕ → Progress
line_unless (Some refused) out a text = (out, Err refused)
line_unless None out a text = entries_taken (line_entries (a.lines + 1) text) out (counted a text)

abbrev pub line_taken : List Item → Assembly → List ℕ → Progress
line_taken out a text = line_unless (count_fault a text) out a text

-- the opening is before all else
abbrev pub with_opening : Bool → List Item → List Item
with_opening true out = out
with_opening false out = out ++ opening

abbrev pub opened : Assembly → Assembly
opened a = record a { opened = true }

abbrev pub line_following : List Item → Status → List ℕ → Progress
line_following out (Err refused) text = (out, Err refused)
line_following out (Ok a) text = line_taken (with_opening a.opened out) (opened a) text

-- ---- the end

abbrev pub last_number : ℕ → ℕ
last_number zero = 1
last_number (suc n) = suc n

-- what the value of Main and the registers that LOCAL named are refused with
abbrev pub main_fault : ℕ → ℕ → Option Value → Option AsmFault
main_fault lowest locals None = Some MainUndefined
main_fault lowest locals (Some (Reg r)) = Some MainRegister
main_fault lowest locals (Some (Pure main)) = if nat_lt lowest locals then Some LocalAboveGlobals else None

-- what an assembly is refused with at its end
abbrev pub assembly_fault : Assembly → Option AsmFault
assembly_fault a = main_fault (lowest_of a.known.gregs) a.locals (value_of_name a.known.names main_name)

-- the items and the trie, or the refusal
abbrev pub Ended : Type 0
Ended = List Item × Result (List ℕ) Refused

abbrev pub ended_trie : List Item → Assembly → List ℕ → Ended
ended_trie out a trie =
    if nat_lt trie_limit (length trie / 4) then (out, Err (refused (last_number a.lines) SymbolsTooMany))
    else (out ++ closing a.known.names a.known.gregs, Ok trie)

abbrev pub ended_main : List Item → Assembly → Option AsmFault → Ended
ended_main out a (Some fault) = (out, Err (refused (last_number a.lines) fault))
ended_main out a None = ended_trie out a (padded_trie a.known.names)

abbrev pub ended_waits : List Item → Assembly → Option Wait → Ended
ended_waits out a (Some wait) = (out, Err (refused wait.line (undefined wait.who)))
ended_waits out a None = ended_main out a (assembly_fault a)

abbrev pub ended : List Item → Assembly → Ended
ended out a = ended_waits out a (first_of a.waiting)

abbrev pub end_following : List Item → Status → Ended
end_following out (Err refused) = (out, Err refused)
end_following out (Ok a) = ended (with_opening a.opened out) a

-- what calls answer, with what they leave
abbrev pub waits_taken : Awaited → Naming → Labelled
waits_taken who n = Ok (record n { waiting = waits_for_others who n.waiting }, waits_for who n.waiting)

abbrev pub labelled_after : Result (List Wait) AsmFault → Naming → Labelled
labelled_after (Ok waits) n = Ok (n, waits)
labelled_after (Err fault) n = Err fault

abbrev pub taken_after : Result (List Item) Refused → Assembly → Taken
taken_after (Ok items) a = Ok (items, a)
taken_after (Err refused) a = Err refused

abbrev pub status_after : Result (Unit {0}) Refused → Assembly → Status
status_after (Ok u) a = Ok a
status_after (Err refused) a = Err refused

-- Unless there was no memory, the names and the references that a label took away are these.
abbrev pub Labels : Result (List Wait) AsmFault → Naming → Labelled → Type 0
Labels result names labelled = result ≢ Err OutOfMemory → labelled_after result names ≡ labelled

-- Lines that may leave all as it was: `Ok (Err refused)` is a refusal that did, `Err refused` one that did not.
abbrev pub Tried : Type 0
Tried = Result (Result (Unit {0}) Refused) Refused

abbrev pub line_answer : Tried → Result (Unit {0}) Refused
line_answer (Ok answer) = answer
line_answer (Err refused) = Err refused

-- Unless there was no memory, the items and the status after a line that was answered so are those of `line_following`.
abbrev pub TakesLine : Result (Unit {0}) Refused → List Item → List Item → Status → Status → List ℕ → Type 0
TakesLine answer old new before after text = answer ≢ Err no_memory → (new, after) ≡ line_following old before text

-- the status after a line that is answered so, as long as a refusal ends the source
abbrev pub status_with : Result (Unit {0}) Refused → Status → Status
status_with (Ok u) a = a
status_with (Err refused) a = Err refused

-- The same of a line that may leave all as it was.
abbrev pub TriesLine : Tried → List Item → List Item → Status → Status → List ℕ → Type 0
TriesLine result old new before after text =
    TakesLine (line_answer result) old new before (status_with (line_answer result) after) text

-- the assembly, as long as nothing is refused
abbrev pub status_unless : Assembly → Option Refused → Status
status_unless a None = Ok a
status_unless a (Some refused) = Err refused
