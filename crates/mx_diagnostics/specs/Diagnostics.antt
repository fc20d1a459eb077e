-- What an editor is told of a source: its faults, up to 20, and its warnings. (Language Server Protocol, "Diagnostic".)
use Rattle.std.specs.Prelude.{ℕ, ◌^◌, nat_lt, Bool, true, false, List, [], ◌∷◌, ◌++◌, length, map, take, Option, None, Some, codes, if◌then◌else◌}
use Rattle.mx_files.specs.declared.refusal.Refusal.{Refusal}
use Rattle.mx_line.specs.Lines.{lines_of}
use Rattle.mx_marks.specs.Mending.{line_text}
use Rattle.mx_outcome.specs.Names.{fault_name_of}
use Rattle.mx_view.specs.Refusals.{faults_in}
use Rattle.mx_view.specs.declared.checking.ToldFault.{ToldFault}
use Rattle.mx_warn.specs.Kinds.{kind_name, kind_sentence}
use Rattle.mx_warn.specs.Warnings.{warnings_of}
use Rattle.mx_warn.specs.declared.warnings.Warning.{Warning}
use Rattle.mx_wire.specs.Ranges.{end_of}
use Rattle.mx_diagnostics.specs.declared.diagnostic.Diagnostic.{Diagnostic}
use Rattle.mx_diagnostics.specs.declared.diagnostic.Severity.{Severity}
use Rattle.mx_diagnostics.specs.declared.diagnostic.Severity.TheVariants as severity

-- ---- faults

unfoldable pub question : List ℕ
question = codes "\nDid you mean `"

unfoldable pub meant_text : List ℕ → List ℕ
meant_text [] = []
meant_text (b ∷ bs) = question ++ (b ∷ bs) ++ codes "`?"

-- what is wrong, which name is meant perhaps, and how to fix it
unfoldable pub fault_message : ToldFault → List ℕ
fault_message f = f.what ++ meant_text f.meant ++ codes "\n" ++ f.help

-- the marked text, or the whole line
abbrev pub fault_from : Option ℕ → ℕ
fault_from None = 0
fault_from (Some from) = from

abbrev pub fault_to : Option ℕ → ℕ → List ℕ → ℕ
fault_to None count line = length line
fault_to (Some from) count line = end_of line from count

abbrev pub fault_in : ToldFault → List ℕ → Diagnostic
fault_in f line = record {
  number = f.at_line;
  line = line;
  from = fault_from f.caret;
  to = fault_to f.caret f.length line;
  severity = severity.Error;
  code = fault_name_of f.refused.fault;
  message = fault_message f;
}

abbrev pub fault_diagnostic : List ℕ → ToldFault → Diagnostic
fault_diagnostic source f = fault_in f (line_text f.at_line (lines_of source))

-- ---- warnings

abbrev pub warning_diagnostic : Warning → Diagnostic
warning_diagnostic w = record {
  number = w.line;
  line = w.text;
  from = w.place;
  to = end_of w.text w.place w.length;
  severity = severity.Warning;
  code = kind_name w.kind;
  message = kind_sentence w.kind;
}

-- ---- all

-- a source that is not refused when it is run
abbrev pub is_absent : Option Refusal → Bool
is_absent None = true
is_absent (Some refusal) = false

-- 88 is the fault of a source that is too long
unfoldable pub too_long : Diagnostic
too_long = record {
  number = 1;
  line = [];
  from = 0;
  to = 0;
  severity = severity.Error;
  code = fault_name_of 88;
  message = codes "the source has more than 4194304 bytes";
}

abbrev pub all_of : List ℕ → List Diagnostic
all_of source = map (fault_diagnostic source) (take 20 (faults_in source).faults) ++ map warning_diagnostic (warnings_of source)

unfoldable pub diagnostics_of : List ℕ → List Diagnostic
diagnostics_of source = if nat_lt (2 ^ 22) (length source) then too_long ∷ [] else all_of source
