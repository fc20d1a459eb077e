-- What is answered on a word: the texts of the rows of the table that it is about, or what MMIX has in place of an operation of other
-- machines, or what is said of another part of MMIXAL.
use Rattle.std.specs.Prelude.{ℕ, List, [], ◌∷◌, ◌++◌, codes, if◌then◌else◌}
use Rattle.std.specs.List.{flat_map}
use Rattle.mx_foreign.specs.Foreign.{advice_of}
use Rattle.mx_explain.specs.Topics.{Row, name_of}
use Rattle.mx_explain.specs.Matching.{fits, found}
use Rattle.mx_explain.specs.Texts.{row_text}
use Rattle.face_explain.specs.Near.{is_near}
use Rattle.face_explain.specs.Notations.{notation_of}
use Rattle.face_explain.specs.Tables.{table, part_of}
use Rattle.face_explain.specs.declared.sections.Section.{Section}
use Rattle.face_explain.specs.declared.answer.Answer.{Answer}
use Rattle.face_explain.specs.declared.answer.Answer.TheVariants.{Explained, Unknown}

-- the text of a row, if a word is about it
abbrev pub fitting : List ℕ → Row → List ℕ
fitting word row = if fits word row then row_text row else []

-- the texts of the rows of a section that a word is about
abbrev pub section_fitting : List ℕ → Section → List ℕ
section_fitting word s = flat_map (fitting word) (part_of s).rows

-- the texts of rows
abbrev pub texts : List Row → List ℕ
texts rows = flat_map row_text rows

unfoldable pub explanation : List ℕ → List ℕ
explanation word = texts (found word table)

-- a blank and the name of a row that a word is within one letter of, or no text
abbrev pub offered : List ℕ → Row → List ℕ
offered word row = if is_near word row then codes " " ++ name_of row else []

abbrev pub section_offered : List ℕ → Section → List ℕ
section_offered word s = flat_map (offered word) (part_of s).rows

-- the names that a word is within one letter of
unfoldable pub near_names : List ℕ → List ℕ
near_names word = flat_map (offered word) table

-- these names, if there are any, or where to find all
unfoldable pub advice : List ℕ → List ℕ
advice [] = codes "; mmixview explain lists all that is\n"
advice (b ∷ bs) = codes "; near it:" ++ (b ∷ bs) ++ codes "\n"

abbrev pub unknown_text : List ℕ → List ℕ
unknown_text word = codes "error: " ++ word ++ codes " is not explained" ++ advice (near_names word)

-- what is said of an operation of other machines, where this is what MMIX has
unfoldable pub foreign_text : List ℕ → List ℕ → List ℕ
foreign_text word advice = word ++ codes ": an operation of other machines\n  " ++ advice ++ codes "\n"

-- what is said of another part of MMIXAL
unfoldable pub notation_text : List ℕ → List ℕ → List ℕ
notation_text word says = word ++ codes ": a part of MMIXAL\n  " ++ says ++ codes "\n"

-- of a word that no row is about, and no operation of other machines, where this is said of it, if it is such a part
abbrev pub notation_answer : List ℕ → List ℕ → Answer
notation_answer word [] = Unknown (unknown_text word)
notation_answer word (b ∷ bs) = Explained (notation_text word (b ∷ bs))

-- of a word that no row is about, where this is what MMIX has, if it is such an operation
abbrev pub foreign_answer : List ℕ → List ℕ → Answer
foreign_answer word [] = notation_answer word (notation_of word)
foreign_answer word (b ∷ bs) = Explained (foreign_text word (b ∷ bs))

abbrev pub answer_with : List ℕ → List Row → Answer
answer_with word [] = foreign_answer word (advice_of word)
answer_with word (row ∷ rows) = Explained (texts (row ∷ rows))

-- what is answered
unfoldable pub answer : List ℕ → Answer
answer word = answer_with word (found word table)
