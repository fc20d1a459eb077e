-- The rows that a word is about, table by table.
use Rattle.std.proofs.Common.{◌≡◌, ◌≢◌, ℕ, Bool, true, false, ◌<◌, List, [], ◌∷◌, ◌++◌, length, length-append, refl, sym, ap, ◌∙◌, arith, codes}
use Rattle.std.proofs.lemmas.Grind.{flat_map-append}
use Rattle.std.proofs.lemmas.List.Folds.{flat_map-map}
use Rattle.std.specs.List.{flat_map}
use Rattle.mx_foreign.specs.Foreign.{advice_of}
use Rattle.mx_explain.specs.Topics.{Row, row}
use Rattle.mx_explain.specs.Matching.{fits, found}
use Rattle.mx_explain.specs.Texts.{row_text, head, front, sentences, part, back, label, kind_of}
use Rattle.face_explain.specs.Answers.{fitting, section_fitting, offered, section_offered, near_names, texts, explanation, answer, answer_with, foreign_answer}
use Rattle.face_explain.specs.declared.answer.Answer.TheVariants.{Explained, Unknown}
use Rattle.face_explain.specs.Tables.{Part, table, part_of, seen_part, sections}
use Rattle.face_explain.specs.declared.sections.Part.{Part as Seen}
use Rattle.face_explain.specs.declared.sections.Section.{Section}

-- ---- the texts of the rows that are found

chosen : (word : List ℕ) (row : Row) (rows : List Row) (b : Bool) → fits word row ≡ b → flat_map (fitting word) rows ≡ texts (found word rows) → flat_map (fitting word) (row ∷ rows) ≡ texts (found word (row ∷ rows))
chosen word row rows true e more = rw e (ap (λ t. row_text row ++ t) more)
chosen word row rows false e more = rw e more

pub fitting-texts : (word : List ℕ) (rows : List Row) → flat_map (fitting word) rows ≡ texts (found word rows)
fitting-texts word [] = refl
fitting-texts word (row ∷ rows) = chosen word row rows (fits word row) refl (fitting-texts word rows)

nested : {A : Type 0} (f : Row → List ℕ) (h : A → List Row) (xs : List A) → flat_map (λ x. flat_map f (h x)) xs ≡ flat_map f (flat_map h xs)
nested f h [] = refl
nested f h (x ∷ xs) = ap (λ t. flat_map f (h x) ++ t) (nested f h xs) ∙ sym (flat_map-append f (h x) (flat_map h xs))

pub whole-text : (word : List ℕ) → flat_map (section_fitting word) sections ≡ explanation word
unfolding explanation table
whole-text word = nested (fitting word) (λ s. (part_of s).rows) sections ∙ fitting-texts word (flat_map (λ s. (part_of s).rows) sections)

pub names-text : (word : List ℕ) → flat_map (section_offered word) sections ≡ near_names word
unfolding near_names table
names-text word = nested (offered word) (λ s. (part_of s).rows) sections

-- what is added of a section, entry by entry
pub section-texts : (f : Row → List ℕ) (p : Seen) (s : Section) → seen_part p ≡ part_of s →
    flat_map (λ e. f (row e.0 e.1.now e.2.now e.3.now e.4.now)) p.entries.now ≡ flat_map f (part_of s).rows
section-texts f p s same = sym (flat_map-map f (λ e. row e.0 e.1.now e.2.now e.3.now e.4.now) p.entries.now) ∙ ap (λ (q : Part). flat_map f q.rows) same

pub ruleset names = (names-text)

pub ruleset whole = (whole-text)

-- ---- a row has a text

longer : {A : Type 0} (xs ys : List A) → 0 < length xs → 0 < length (xs ++ ys)
longer xs ys some = rw (length-append xs ys) (omega (arith, some))

ended : {A : Type 0} (xs ys : List A) → 0 < length ys → 0 < length (xs ++ ys)
ended xs ys some = rw (length-append xs ys) (omega (arith, some))

head-some : (row : Row) → 0 < length (head row)
unfolding head
head-some row = ended ((label row ++ codes ": ") ++ kind_of row.topic row.name) (codes "\n") (omega arith)

row-some : (row : Row) → 0 < length (row_text row)
unfolding row_text
row-some row =
    longer _ (back row.topic row.name)
    (longer _ (part (codes "  Fixed:    ") row.mended)
    (longer _ (part (codes "  Example:  ") row.example) (longer _ (sentences row.says) (longer _ (front row.topic row.name) (head-some row)))))

-- ---- the answer

none-found : (word : List ℕ) (rows : List Row) → length (texts rows) ≡ 0 → answer_with word rows ≡ foreign_answer word (advice_of word)
none-found word [] none = refl
none-found word (row ∷ rows) none = absurd (omega (arith, none, longer (row_text row) (texts rows) (row-some row)))

some-found : (word : List ℕ) (rows : List Row) → length (texts rows) ≢ 0 → answer_with word rows ≡ Explained (texts rows)
some-found word [] some = absurd (some refl)
some-found word (row ∷ rows) some = refl

pub answer-unknown : (word text : List ℕ) → text ≡ explanation word → length text ≡ 0 → answer word ≡ foreign_answer word (advice_of word)
unfolding answer explanation
answer-unknown word text e none = none-found word (found word table) (rw (← e) none)

pub answer-known : (word text : List ℕ) → text ≡ explanation word → length text ≢ 0 → answer word ≡ Explained text
unfolding answer explanation
answer-known word text e some = rw e (some-found word (found word table) (rw (← e) some))

pub ruleset answers = (answer-unknown, answer-known)
