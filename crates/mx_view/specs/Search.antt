-- How the faults of a source are found: what it is refused for, and what each source is refused for in which the lines that were
-- refused so far do nothing but define their labels. A line that is refused again is blank from then on.
use Rattle.std.specs.Prelude.{ℕ, zero, suc, ◌==◌, nat_lt, Bool, true, false, if◌then◌else◌, List, [], ◌∷◌, length, Option, None, Some}
use Rattle.std.specs.List.{list_any}
use Rattle.std.specs.Result.{result_err}
use Rattle.mx_asm.specs.Whole.{assembled_source}
use Rattle.mx_asm.specs.declared.faults.AsmFault.{AsmFault}
use Rattle.mx_asm.specs.declared.faults.AsmFault.TheVariants.{MainUndefined, MainRegister, SymbolsTooMany, LocalAboveGlobals, SourceTooLong}
use Rattle.mx_asm.specs.declared.refused.Refused.{Refused}
use Rattle.mx_files.specs.Loading.{refusal_of}
use Rattle.mx_view.specs.declared.search.Finding.{Finding}
use Rattle.mx_view.specs.declared.search.Finding.TheVariants.{New, Again, Beyond, Whole}
use Rattle.mx_view.specs.declared.search.Found.{Found}
use Rattle.mx_view.specs.declared.search.Looked.{Looked}
use Rattle.mx_view.specs.declared.search.Looked.TheVariants.{Next, Ended}
use Rattle.mx_view.specs.Listing.{refusal_in}
use Rattle.mx_marks.specs.Mending.{with_blank, with_label}

-- why a source is refused when it is assembled, if it is
abbrev pub assembly_refusal : List ℕ → Option Refused
assembly_refusal source = result_err (assembled_source source).1

-- whether a fault is one of the source as a whole
abbrev pub is_of_whole : AsmFault → Bool
is_of_whole MainUndefined = true
is_of_whole MainRegister = true
is_of_whole SymbolsTooMany = true
is_of_whole LocalAboveGlobals = true
is_of_whole SourceTooLong = true
is_of_whole fault = false

-- the line at fault: that of a reference, where a label in another line does not suit it
abbrev pub line_at_fault : Refused → ℕ
line_at_fault r = if r.from_line == 0 then r.line else r.from_line

-- whether one of these is at a line
abbrev pub is_at : List Refused → ℕ → Bool
is_at lines line = list_any (λ (r : Refused). line_at_fault r == line) lines

-- whether a refusal is at a line before this one
abbrev pub is_before : ℕ → Refused → Bool
is_before line r = nat_lt (line_at_fault r) line

-- those at earlier lines, this one, and those at later lines
abbrev pub inserted : Refused → List Refused → List Refused
inserted r [] = r ∷ []
inserted r (q ∷ qs) = if is_before (line_at_fault r) q then q ∷ inserted r qs else r ∷ q ∷ qs

-- what a refusal is for a search that found these: 100 lines are told at most
abbrev pub kind_of : List Refused → Refused → Finding
kind_of before r =
    if is_of_whole r.fault then Whole
    else if is_at before (line_at_fault r) then Again
    else if length before == 100 then Beyond
    else New

abbrev pub added_as : Finding → List Refused → Refused → List Refused
added_as New before r = inserted r before
added_as kind before r = before

abbrev pub next_as : Finding → List ℕ → Refused → Looked
next_as New source r = Next (with_label (line_at_fault r) source)
next_as Again source r = Next (with_blank (line_at_fault r) source)
next_as Beyond source r = Ended None true
next_as Whole source r = Ended (Some (refusal_of r)) false

-- What is found once a source was looked at that is refused so when it is assembled, and the source that is looked at next. One that is
-- assembled may have too many pages, which is a fault of the source as a whole.
abbrev pub found_with : List Refused → Option Refused → List Refused
found_with before None = before
found_with before (Some r) = added_as (kind_of before r) before r

abbrev pub looked_with : List Refused → List ℕ → Option Refused → Looked
looked_with before source None = Ended (refusal_in source) false
looked_with before source (Some r) = next_as (kind_of before r) source r

abbrev pub ended_as : (List Refused → List ℕ → Found) → List Refused → Looked → Found
ended_as more lines (Next source) = more lines source
ended_as more lines (Ended whole is_cut) = record { lines = lines; whole = whole; is_cut = is_cut }

-- what this many sources at most show, where these were found before
unfoldable pub found : ℕ → List Refused → List ℕ → Found
found zero before source = record { lines = before; whole = None; is_cut = true }
found (suc n) before source =
    ended_as (found n) (found_with before (assembly_refusal source)) (looked_with before source (assembly_refusal source))

-- A line is looked at twice at most: when it is refused first, and with its label alone.
abbrev pub found_in : List ℕ → Found
found_in source = found 201 [] source
