-- A walk over the lines of a source: the lines that were taken, and what is refused after them.
use Rattle.std.specs.Prelude.{◌≡◌, ◌+◌, ℕ, true, not, ◌==◌, List, ◌∷◌, ◌++◌, length, Option, None, Some}
use Rattle.std.specs.List.{AllByRecursion, flat_map, list_all}
use Rattle.std.specs.Result.{result_err}
use Rattle.mx_word.specs.Results.{map_ok}
use Rattle.mx_asm.specs.OnePass.{Status, opened}
use Rattle.mx_asm.specs.Whole.{Line, assembled_source, lines_taken}
use Rattle.mx_asm.specs.declared.refused.Refused.{Refused}
use Rattle.mx_marks.specs.Mending.{with_newline}
use Rattle.mx_walk.specs.declared.walk.Stop.{Stop}

-- ---- texts of lines

-- a line has no newline
abbrev pub IsPlain : Line → Type 0
IsPlain line = list_all (λ b. not (b == 10)) line ≡ true

abbrev pub ArePlain : List Line → Type 0
ArePlain lines = AllByRecursion IsPlain lines

-- lines, each with a newline
abbrev pub text_of : List Line → List ℕ
text_of lines = flat_map with_newline lines

pub record IsText (text : List ℕ) : Type 0 where
  pub lines : List Line
  pub plain : ArePlain lines
  pub is : text ≡ text_of lines

-- ---- a walk

pub record Walk : Type 0 where
  pub assembler : Status
  pub front : List ℕ
  pub number : ℕ

-- The assembler is that after the lines that were taken, but that it may have added the opening before the first one.
pub record IsAt (w : Walk) : Type 0 where
  pub text : IsText w.front
  pub status : map_ok opened w.assembler ≡ map_ok opened (lines_taken text.lines).1
  pub number : w.number ≡ length text.lines + 1

-- why a source is refused when it is assembled, if it is
abbrev pub source_refusal : List ℕ → Option Refused
source_refusal source = result_err (assembled_source source).1

-- after the lines of a text this line is refused so, whatever lines follow
abbrev pub IsRefused : List ℕ → Line → Refused → Type 0
IsRefused front line r = (later : List Line) → ArePlain later → source_refusal (front ++ text_of (line ∷ later)) ≡ Some r

-- what came of the next line: it was taken, or refused
abbrev pub HasTurned : Walk → Walk → Line → Option Stop → Type 0
HasTurned old new line None = IsAt new × (new.front ≡ old.front ++ with_newline line)
HasTurned old new line (Some stop) =
    (new.front ≡ old.front) × (stop.text ≡ line) × IsRefused new.front line stop.refused × (stop.is_kept ≡ true → IsAt new)
