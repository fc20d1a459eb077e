-- The words of the laws of sources.
use Rattle.std.specs.Prelude.{ℕ, ◌≡◌, ◌≤◌, ◌^◌, List, [], ◌∷◌, ◌++◌, length, Option, Result, Ok, Err}
use Rattle.std.specs.Result.{result_err}
use Rattle.mx_line.specs.Source.{item_of}
use Rattle.mx_line.specs.declared.cutter.Cut.{Cut}
use Rattle.mx_mmo.specs.Image.{Image}
use Rattle.mx_mmo.specs.Meaning.{Meaningless, meaning, nothing, take_items}
use Rattle.mx_mmo.specs.Spelling.{ending, written}
use Rattle.mx_mmo.specs.declared.items.Item.{Item}
use Rattle.mx_stab.specs.Reading.{trie_answer}
use Rattle.mx_stmt.specs.Encoding.{StatementTree}
use Rattle.mx_stmt.specs.declared.faults.StmtFault.{StmtFault}
use Rattle.mx_asm.specs.Emission.{emission, padded_trie}
use Rattle.mx_asm.specs.Entries.{entry_of, source_entries, statements_in}
use Rattle.mx_asm.specs.Faults.{refused}
use Rattle.mx_asm.specs.Fronts.{GrowsAlike}
use Rattle.mx_asm.specs.Image.{symbols_of}
use Rattle.mx_asm.specs.OnePass.{Ended, Status, end_following, line_following}
use Rattle.mx_asm.specs.Pages as pages
use Rattle.mx_asm.specs.TwoPass.{Sight, final_known}
use Rattle.mx_asm.specs.Whole.{HasTaken, Line, accepted_in, assembled_lines, assembled_source, lines_entries, lines_items}
use Rattle.mx_asm.specs.declared.faults.AsmFault.TheVariants.{Stmt}

-- ---- statements: all of a source, and those that are accepted, alone and with what is known at each

abbrev pub statements_of : List ℕ → List StatementTree
statements_of source = statements_in (source_entries source)

abbrev pub accepted_of : List ℕ → List StatementTree
accepted_of source = accepted_in (source_entries source)

abbrev pub lines_accepted : List Line → List StatementTree
lines_accepted lines = accepted_in (lines_entries lines)

abbrev pub sights_of_source : List ℕ → List Sight
sights_of_source source = pages.accepted_in (source_entries source)

abbrev pub sights_of_lines : List Line → List Sight
sights_of_lines lines = pages.accepted_in (lines_entries lines)

-- ---- lines that are taken

-- a line more was taken, and its items were added
abbrev pub HasTakenMore : List Line → Line → List Item → Status → Type 0
HasTakenMore lines text out a = HasTaken (lines ++ text ∷ []) (line_following out a text).1

abbrev pub AddsItems : List Line → Line → List Item → Status → Type 0
AddsItems lines text out a = GrowsAlike (lines_items lines) (lines_items (lines ++ text ∷ [])) out (line_following out a text).0

-- the end adds those that are left
abbrev pub AddsLast : List Line → List Item → Status → Type 0
AddsLast lines out a = GrowsAlike (lines_items lines) (assembled_lines lines).0 out (end_following out a).0

-- ---- what is listed for a statement that was cut from a line

abbrev pub GivesStatement : ℕ → List ℕ → Cut → StatementTree → Type 0
GivesStatement line text cut s = entry_of (item_of line text (Ok cut)) ≡ Ok s

abbrev pub GivesFault : ℕ → List ℕ → Cut → StmtFault → Type 0
GivesFault line text cut fault = entry_of (item_of line text (Ok cut)) ≡ Err (refused line (Stmt fault))

-- ---- what is emitted, and what it means

abbrev pub emitted : List StatementTree → Ended
emitted statements = (emission statements, Ok (padded_trie (final_known statements).names))

-- the items and the trie that a source is assembled into
abbrev pub Emits : List ℕ → List Item → List ℕ → Type 0
Emits source items trie = assembled_source source ≡ (items, Ok trie)

abbrev pub HasSymbols : List ℕ → List ℕ → Type 0
HasSymbols source trie = trie_answer trie ≡ Ok (symbols_of (statements_in (source_entries source)))

-- an object that is not too long to be read
abbrev pub IsShort : List Item → List ℕ → Type 0
IsShort items trie = length (written items ++ ending trie) ≤ 2 ^ 26

-- what the items of a source mean, and the fault that items are loaded with
abbrev pub meaning_of : List ℕ → Result Image Meaningless
meaning_of source = meaning (assembled_source source).0

abbrev pub source_fault : List ℕ → Option Meaningless
source_fault source = result_err (take_items (assembled_source source).0 (Ok nothing))

abbrev pub lines_fault : List Line → Option Meaningless
lines_fault lines = result_err (take_items (lines_items lines) (Ok nothing))
