-- Warnings as a text: each with its line, a caret under the first character that it is about, and its sentence, which ends with the
-- other line that it is about, if there is one.
-- The form is this program's own.
use Rattle.std.specs.Prelude.{ℕ, ◌==◌, ◌&&◌, List, [], ◌++◌, ◌∷◌, take, nat_le, nat_lt, if◌then◌else◌, codes, decimal}
use Rattle.std.specs.List.{flat_map}
use Rattle.mx_warn.specs.declared.warnings.Warning.{Warning}
use Rattle.mx_warn.specs.Kinds.{kind_name, kind_number, kind_sentence}
use Rattle.mx_warn.specs.Warnings.{warnings_of}

-- Under a byte before the caret: a tab under a tab, nothing under a further byte of a character, and a blank under another one.
abbrev pub under : ℕ → List ℕ
under b = if b == 9 then 9 ∷ [] else if nat_le 128 b && nat_lt b 192 then [] else 32 ∷ []

abbrev pub head_text : Warning → List ℕ
head_text w =
    codes "line " ++ decimal w.line ++ codes ": warning " ++ decimal (kind_number w.kind) ++ codes " " ++ kind_name w.kind ++ codes "\n"

abbrev pub line_text : List ℕ → List ℕ
line_text line = codes "    " ++ line ++ codes "\n"

abbrev pub caret_text : List ℕ → List ℕ
caret_text front = codes "    " ++ flat_map under front ++ codes "^\n"

abbrev pub other_text : ℕ → List ℕ
other_text line = if line == 0 then [] else codes " (line " ++ decimal line ++ codes ")"

abbrev pub sentence_text : Warning → List ℕ
sentence_text w = codes "    " ++ kind_sentence w.kind ++ other_text w.other ++ codes "\n"

abbrev pub warning_text : Warning → List ℕ
warning_text w = head_text w ++ line_text w.text ++ caret_text (take w.place w.text) ++ sentence_text w

abbrev pub warnings_text : List ℕ → List ℕ
warnings_text source = flat_map warning_text (warnings_of source)
