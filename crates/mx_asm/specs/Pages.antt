-- The pages that statements touch: at most 65,536 are loaded. The first statement that passes them is refused when a source
-- is run.
-- A rule of this program.
use Rattle.std.specs.Prelude.{◌≡◌, ℕ, Bool, nat_le, if◌then◌else◌, List, [], ◌∷◌, ◌++◌, Option, None, Some, Result, Ok, Err}
use Rattle.std.specs.List.{AllByRecursion}
use Rattle.mx_mmo.specs.Image.{Image}
use Rattle.mx_mmo.specs.Meaning.{Meaningless, PagesFull}
use Rattle.mx_stmt.specs.Encoding.{StatementTree}
use Rattle.mx_asm.specs.declared.refused.Refused.{Refused}
use Rattle.mx_asm.specs.Faults.{fault_number}
use Rattle.mx_asm.specs.Entries.{Entry, statements_in, source_entries}
use Rattle.mx_asm.specs.TwoPass.{Sight, Piece, outline, sights_of, final_known, piece_with, pieces}
use Rattle.mx_asm.specs.Image.{placements, pages_of, page_count, image}
use Rattle.mx_asm.specs.Refusal.{first_fault, first_undefined, refusal}
use Rattle.mx_asm.specs.Statements.{IsStatement}
use Rattle.mx_asm.specs.Whole.{accepted}

-- Nothing of these statements is refused before the end.
pub record AreAccepted (statements : List StatementTree) : Type 0 where
  pub read : AllByRecursion IsStatement statements
  pub faultless : first_fault [] (sights_of statements) ≡ None
  pub defined : first_undefined (final_known statements).names (sights_of statements) ≡ None

-- ---- pages

-- where the bytes of statements lie, with zero for each reference: where its target is makes no difference
unfoldable pub outlined : List Sight → List Piece
outlined [] = []
outlined (s ∷ later) = piece_with s.statement.line (outline s) ++ outlined later

-- whether what is placed touches at most 65,536 pages
abbrev pub has_room : List Piece → Bool
has_room ps = nat_le (page_count (pages_of (placements ps))) 65536

-- the image that statements are loaded as, unless there are too many pages
abbrev pub loaded_image : List StatementTree → Result Image Meaningless
loaded_image statements = if has_room (pieces statements) then Ok (image statements) else Err PagesFull

-- the fault that statements are loaded with
abbrev pub page_fault : List Sight → Option Meaningless
page_fault statements = if has_room (outlined statements) then None else Some PagesFull

-- the line of the first statement whose bytes, with those of the statements before it, touch more than 65,536 pages
unfoldable pub page_refusal_from : List Sight → List Sight → Option ℕ
page_refusal_from earlier [] = None
page_refusal_from earlier (s ∷ later) =
    if has_room (outlined (earlier ++ s ∷ [])) then page_refusal_from (earlier ++ s ∷ []) later else Some s.statement.line

abbrev pub page_refusal : List Sight → Option ℕ
page_refusal statements = page_refusal_from [] statements

-- ---- the refusal of a source that is run

-- the line, the number of the fault, and the line of the reference, 0 where there is none
pub record RunRefusal : Type 0 where
  pub line : ℕ
  pub number : ℕ
  pub from_line : ℕ

-- too many pages come before a later refusal
abbrev pub run_refusal_with : Option ℕ → Option Refused → Option RunRefusal
run_refusal_with (Some line) later = Some (record { line = line; number = 90; from_line = 0 })
run_refusal_with None (Some refused) = Some (record { line = refused.line; number = fault_number refused.fault; from_line = refused.from_line })
run_refusal_with None None = None

-- the statements before the first refusal among entries
abbrev pub accepted_in : List Entry → List Sight
accepted_in entries = accepted [] (sights_of (statements_in entries))

abbrev pub run_refusal : List ℕ → Option RunRefusal
run_refusal source = run_refusal_with (page_refusal (accepted_in (source_entries source))) (refusal source)
