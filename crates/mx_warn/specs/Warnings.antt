-- The warnings of a source, in the order of lines: those of each statement first, and then those of what the line loads, each in the
-- order of their numbers. A source of more than 16,384 bytes has none.
-- Which there are: a rule of this program.
use Rattle.std.specs.Prelude.{ℕ, List, [], ◌∷◌, ◌++◌, length, Option, None, Some, nat_lt, if◌then◌else◌}
use Rattle.mx_slips.specs.declared.sources.SourceLine.{SourceLine}
use Rattle.mx_slips.specs.declared.sources.Statement.{Statement}
use Rattle.mx_warn.specs.declared.warnings.Kind.{Kind}
use Rattle.mx_warn.specs.declared.warnings.Kind.TheVariants.{OperatorAfterBlank, BackslashInString, NoLabelBefore, PlacedTwice, GregOfZero, UnusedBase, DataAfterCode, OtherCase, LostReturn, TrapOperands, EndlessJump, FloatInstruction, NarrowLabel}
use Rattle.mx_slips.specs.declared.marks.Mark.{Mark}
use Rattle.mx_warn.specs.declared.warnings.Warning.{Warning}
use Rattle.mx_slips.specs.Afters.{operator_after_blank}
use Rattle.mx_slips.specs.Backslashes.{backslash_in_string}
use Rattle.mx_slips.specs.Bases.{greg_of_zero}
use Rattle.mx_slips.specs.Cases.{other_case}
use Rattle.mx_warn.specs.Ends.{data_after_code}
use Rattle.mx_warn.specs.Idle.{unused_base}
use Rattle.mx_warn.specs.Locals.{no_label_before}
use Rattle.mx_warn.specs.Overlaps.{placed_twice}
use Rattle.mx_slips.specs.Returns.{lost_return, place_after}
use Rattle.mx_slips.specs.declared.returns.Place.{Place}
use Rattle.mx_slips.specs.declared.returns.Place.TheVariants.{Outside}
use Rattle.mx_slips.specs.Sources.{source_lines}
use Rattle.mx_warn.specs.Stops.{endless_jump, float_instruction}
use Rattle.mx_slips.specs.Surveys.{survey_of}
use Rattle.mx_warn.specs.Traps.{trap_operand}
use Rattle.mx_warn.specs.Widths.{narrow_label}
use Rattle.mx_slips.specs.declared.surveys.Survey.{Survey}

-- a warning of a line, if there is something to mark
abbrev pub marked : SourceLine → Kind → Option Mark → List Warning
marked line kind None = []
marked line kind (Some m) =
    record { line = line.number; kind = kind; text = line.text; place = m.place; length = m.length; other = m.other } ∷ []

-- those of a statement that a run does not get past, or that loads or stores something else than is meant
unfoldable pub run_warnings : List SourceLine → SourceLine → Statement → List Warning
run_warnings lines line s =
    marked line TrapOperands (trap_operand s)
    ++ marked line EndlessJump (endless_jump s)
    ++ marked line FloatInstruction (float_instruction s)
    ++ marked line NarrowLabel (narrow_label lines s)

-- those of a statement of a line, which is at this place of a subroutine
unfoldable pub statement_warnings : Survey → SourceLine → Place → Statement → List Warning
statement_warnings survey line place s =
    marked line OperatorAfterBlank (operator_after_blank s)
    ++ marked line BackslashInString (backslash_in_string s)
    ++ marked line NoLabelBefore (no_label_before survey.lines line.number s)
    ++ marked line GregOfZero (greg_of_zero survey.lines line s)
    ++ marked line OtherCase (other_case survey s)
    ++ marked line LostReturn (lost_return survey s place)
    ++ run_warnings survey.lines line s

-- those of statements, and the place after them
unfoldable pub statements_warnings : Survey → SourceLine → Place → List Statement → List Warning
statements_warnings survey line place [] = []
statements_warnings survey line place (s ∷ more) =
    statement_warnings survey line place s
    ++ statements_warnings survey line (place_after survey.uses line.number s place) more

unfoldable pub place_through : Survey → ℕ → Place → List Statement → Place
place_through survey number place [] = place
place_through survey number place (s ∷ more) = place_through survey number (place_after survey.uses number s place) more

-- those of what a line loads
unfoldable pub load_warnings : Survey → SourceLine → List Warning
load_warnings survey line =
    marked line PlacedTwice (placed_twice survey.lines line)
    ++ marked line UnusedBase (unused_base survey.lines line)
    ++ marked line DataAfterCode (data_after_code survey.lines line)

unfoldable pub line_warnings : Survey → Place → SourceLine → List Warning
line_warnings survey place line = statements_warnings survey line place line.statements ++ load_warnings survey line

-- those of lines among all lines
unfoldable pub lines_warnings : Survey → Place → List SourceLine → List Warning
lines_warnings survey place [] = []
lines_warnings survey place (line ∷ later) =
    line_warnings survey place line
    ++ lines_warnings survey (place_through survey line.number place line.statements) later

abbrev pub all_warnings : Survey → List Warning
all_warnings survey = lines_warnings survey Outside survey.lines

abbrev pub warnings_of : List ℕ → List Warning
warnings_of source = if nat_lt 16384 (length source) then [] else all_warnings (survey_of (source_lines source))
