-- A run that was counted as JSON. The names of members are this program's own; they are in byte order.
use Rattle.std.specs.Prelude.{ℕ, ◌-◌, List, [], ◌∷◌, ◌++◌, length, take, Option, None, Some, codes, decimal}
use Rattle.mx_count.specs.declared.lines.CountedLine.{CountedLine}
use Rattle.mx_count.specs.declared.lines.CountedLines.{CountedLines}
use Rattle.mx_count.specs.declared.lines.LineSheet.{LineSheet}
use Rattle.mx_count.specs.declared.tally.Tally.{Tally}
use Rattle.mx_face.specs.RefusalJson.{refusal_json}
use Rattle.mx_files.specs.declared.refusal.Refusal.{Refusal}
use Rattle.mx_json.specs.Json.{array, number_if, string}
use Rattle.mx_outcome.specs.Messages.{message_of}
use Rattle.mx_outcome.specs.Status.{status_of}
use Rattle.mx_outcome.specs.declared.outcome.Outcome.{Outcome}
use Rattle.mx_outcome.specs.declared.outcome.Outcome.TheVariants.{Refused}
use Rattle.face_count.specs.declared.json.Figures.{Figures}

-- ---- the sheet

-- the figures of a line, which are missing where it loads nothing
unfoldable pub figures_of : Option Tally → Figures
figures_of None = record { away = None; mems = None; oops = None; times = None }
figures_of (Some y) = record { away = Some y.away; mems = Some y.mems; oops = Some y.oops; times = Some y.times }

unfoldable pub figured_line : Figures → CountedLine → List ℕ
figured_line figures l =
    codes "{\"away\":" ++ number_if figures.away ++ codes ",\"line\":" ++ decimal l.number ++ codes ",\"mems\":" ++ number_if figures.mems
    ++ codes ",\"oops\":" ++ number_if figures.oops ++ codes ",\"text\":" ++ string l.text ++ codes ",\"times\":" ++ number_if figures.times
    ++ codes "}"

unfoldable pub line_json : CountedLine → List ℕ
line_json l = figured_line (figures_of l.tally) l

unfoldable pub lines_json : Option LineSheet → List ℕ
lines_json None = codes "null"
lines_json (Some sheet) = array line_json sheet.lines

-- the figures of all steps
unfoldable pub tally_json : Tally → List ℕ
tally_json y =
    codes "{\"away\":" ++ decimal y.away ++ codes ",\"mems\":" ++ decimal y.mems ++ codes ",\"oops\":" ++ decimal y.oops
    ++ codes ",\"times\":" ++ decimal y.times ++ codes "}"

unfoldable pub total_json : Option LineSheet → List ℕ
total_json None = codes "null"
total_json (Some sheet) = tally_json sheet.total

-- ---- the outcome

-- a message without its newline; no bytes are no message
unfoldable pub said_json : List ℕ → List ℕ
said_json [] = codes "null"
said_json (b ∷ text) = string (take (length (b ∷ text) - 1) (b ∷ text))

unfoldable pub message_json : Outcome → List ℕ
message_json outcome = said_json (message_of outcome)

-- the status that the program ends with
unfoldable pub status_json : Outcome → List ℕ
status_json outcome = codes ",\"status\":" ++ decimal (status_of outcome)

unfoldable pub message_name : List ℕ
message_name = codes "{\"message\":"

unfoldable pub outcome_json : Outcome → List ℕ
outcome_json outcome = message_name ++ message_json outcome ++ status_json outcome ++ codes "}"

-- why the source is refused, if that is the outcome
unfoldable pub refusal_in : Outcome → Option Refusal
refusal_in (Refused line fault from_line) = Some (record { line = line; fault = fault; from_line = from_line })
refusal_in outcome = None

-- ---- the whole

-- the output of the program is before it where a machine ran: so it begins at the beginning of a line
unfoldable pub line_front : Option LineSheet → List ℕ
line_front None = []
line_front (Some sheet) = codes "\n"

unfoldable pub refused_json : Outcome → List ℕ
refused_json outcome = refusal_json (refusal_in outcome)

unfoldable pub counted_front : CountedLines → List ℕ
counted_front c = line_front c.sheet ++ codes "{\"lines\":" ++ lines_json c.sheet ++ codes ",\"outcome\":" ++ outcome_json c.outcome

unfoldable pub refused_name : List ℕ
refused_name = codes ",\"refused\":"

unfoldable pub counted_end : CountedLines → List ℕ
counted_end c = refused_name ++ refused_json c.outcome ++ codes ",\"total\":" ++ total_json c.sheet ++ codes "}\n"

unfoldable pub counted_json : CountedLines → List ℕ
counted_json c = counted_front c ++ counted_end c
