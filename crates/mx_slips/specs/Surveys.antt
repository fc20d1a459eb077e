-- What the rules look through often: the lines of a source, and the names in its operands, which are the tokens with a letter.
use Rattle.std.specs.Prelude.{ℕ, Bool, List, [], ◌∷◌, if◌then◌else◌, codes}
use Rattle.std.specs.List.{flat_map, list_any}
use Rattle.std.specs.Str.{bytes_eq}
use Rattle.mx_word.specs.Kinds.{is_letter}
use Rattle.mx_slips.specs.declared.sources.SourceLine.{SourceLine}
use Rattle.mx_slips.specs.declared.sources.Statement.{Statement}
use Rattle.mx_slips.specs.declared.surveys.Survey.{Survey}
use Rattle.mx_slips.specs.declared.surveys.Use.{Use}
use Rattle.mx_slips.specs.declared.tokens.Token.{Token}

abbrev pub use_at : ℕ → Bool → Token → Use
use_at line is_call t = record { line = line; is_call = is_call; token = t }

abbrev pub use_in : ℕ → Bool → Token → List Use
use_in line is_call t = if list_any is_letter t.text then use_at line is_call t ∷ [] else []

-- a statement that calls a subroutine by its name
abbrev pub is_pushj : Statement → Bool
is_pushj s = bytes_eq s.op.text (codes "PUSHJ")

-- the names of a statement of the line with this number, of a line, and of lines
abbrev pub uses_by : ℕ → Statement → List Use
uses_by line s = flat_map (use_in line (is_pushj s)) s.tokens

abbrev pub uses_in : SourceLine → List Use
uses_in line = flat_map (uses_by line.number) line.statements

abbrev pub uses_of : List SourceLine → List Use
uses_of lines = flat_map uses_in lines

abbrev pub survey_of : List SourceLine → Survey
survey_of lines = record { lines = lines; uses = uses_of lines }
