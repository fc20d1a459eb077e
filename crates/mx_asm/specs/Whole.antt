-- What the lines of a source come to: the items of the statements before the first refusal, and the refusal.
use Rattle.std.specs.Prelude.{◌≡◌, ℕ, List, [], ◌∷◌, ◌++◌, map, fold, Option, None, Some, Ok, Err}
use Rattle.std.specs.Result.{result_err}
use Rattle.mx_line.specs.Lines.{lines_of}
use Rattle.mx_line.specs.Source.{items_from as line_items}
use Rattle.mx_mmo.specs.declared.items.Item.{Item}
use Rattle.mx_stmt.specs.Encoding.{StatementTree}
use Rattle.mx_asm.specs.declared.refused.Refused.{Refused}
use Rattle.mx_asm.specs.Fronts.{GrowsAlike}
use Rattle.mx_asm.specs.Entries.{Entry, entries_of, statements_in}
use Rattle.mx_asm.specs.TwoPass.{Sight, sights_of, final_known}
use Rattle.mx_asm.specs.Emission.{opening, first_head, items_from, closing, padded_trie}
use Rattle.mx_asm.specs.Refusal.{statement_fault, entries_refusal, end_refusal, last_line, first_of}
use Rattle.mx_asm.specs.OnePass.{Status, Progress, Ended, beginning, line_following, end_following}

abbrev pub Line : Type 0
Line = List ℕ

-- the statements before the first faulty one
abbrev pub accepted_with : Option Refused → Sight → List Sight → List Sight
accepted_with (Some refused) s later = []
accepted_with None s later = s ∷ later

unfoldable pub accepted : List Sight → List Sight → List Sight
accepted earlier [] = []
accepted earlier (s ∷ later) = accepted_with (statement_fault earlier s) s (accepted (earlier ++ s ∷ []) later)

-- the entries of lines, from the first on
abbrev pub lines_entries : List Line → List Entry
lines_entries lines = entries_of (line_items lines 1 lines)

-- the statements before the first one that is refused
abbrev pub accepted_in : List Entry → List StatementTree
accepted_in entries = map (λ (s : Sight). s.statement) (accepted [] (sights_of (statements_in entries)))

-- the items of the statements before the first refusal
abbrev pub entries_items : List Entry → List Item
entries_items entries = items_from first_head [] (accepted [] (sights_of (statements_in entries)))

-- the opening is before the items of a first line
abbrev pub after_opening : List Line → List Item → List Item
after_opening [] items = []
after_opening (line ∷ lines) items = opening ++ items

-- the items that lines give
abbrev pub lines_items : List Line → List Item
lines_items lines = after_opening lines (entries_items (lines_entries lines))

-- the refusal of lines, as long as more lines may follow
abbrev pub lines_refusal : List Line → Option Refused
lines_refusal lines = entries_refusal (lines_entries lines)

-- the refusal of lines, or the object and the trie that they are assembled into
abbrev pub assembled_with : List StatementTree → List Item → Option Refused → Ended
assembled_with statements items (Some refused) = (opening ++ items, Err refused)
assembled_with statements items None =
    let k = final_known statements in
    (opening ++ items ++ closing k.names k.gregs, Ok (padded_trie k.names))

abbrev pub assembled_entries : ℕ → List Entry → Ended
assembled_entries last entries =
    assembled_with (statements_in entries) (entries_items entries) (first_of (entries_refusal entries) (end_refusal last (statements_in entries)))

abbrev pub assembled_lines : List Line → Ended
assembled_lines lines = assembled_entries (last_line lines) (lines_entries lines)

-- what a source is assembled into, or its refusal after the items of the statements before it
abbrev pub assembled_source : List ℕ → Ended
assembled_source source = assembled_lines (lines_of source)

-- ---- the same in one pass

abbrev pub line_after : Progress → Line → Progress
line_after progress line = line_following progress.0 progress.1 line

-- what there is once these lines were taken, one after another
abbrev pub lines_taken : List Line → Progress
lines_taken lines = fold line_after ([], Ok beginning) lines

abbrev pub one_pass : List Line → Ended
one_pass lines = end_following (lines_taken lines).0 (lines_taken lines).1

-- The status once an assembler has taken these lines, one after another: it is refused as they are.
pub record HasTaken (lines : List Line) (a : Status) : Type 0 where
  pub taken : a ≡ (lines_taken lines).1
  pub refusal : result_err a ≡ lines_refusal lines

-- what holds of any lines that an assembler has taken
abbrev pub OnTaken : Status → (List Line → Type 0) → Type 0
OnTaken a P = (lines : List Line) → HasTaken lines a → P lines

-- a list grows by the items of one more line after these, or by those of the end
abbrev pub AddsLine : List Line → Line → List Item → List Item → Type 0
AddsLine lines line old new = GrowsAlike (lines_items lines) (lines_items (lines ++ line ∷ [])) old new

abbrev pub AddsEnd : List Line → List Item → List Item → Type 0
AddsEnd lines old new = GrowsAlike (lines_items lines) (assembled_lines lines).0 old new
