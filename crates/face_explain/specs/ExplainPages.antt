-- What `explain` writes: what is said of a word, or the list of all that is explained, on standard output; that a word is unknown, on
-- standard error.
use Rattle.std.specs.Prelude.{ℕ, List, []}
use Rattle.mx_face.specs.declared.page.Page.{Page}
use Rattle.mx_outcome.specs.declared.outcome.Outcome.{Outcome}
use Rattle.mx_outcome.specs.declared.outcome.Outcome.TheVariants.{Done, Usage}
use Rattle.face_explain.specs.Answers.{answer}
use Rattle.face_explain.specs.Lists.{whole_list}
use Rattle.face_explain.specs.declared.answer.Answer.{Answer}
use Rattle.face_explain.specs.declared.answer.Answer.TheVariants.{Explained, Unknown}

abbrev pub shown : List ℕ → Page
shown text = record { text = text; remark = []; outcome = Done 0 }

-- a word that is unknown is a faulty one
abbrev pub unknown : List ℕ → Page
unknown remark = record { text = []; remark = remark; outcome = Usage (record { kind = 5; word = 1 }) }

abbrev pub answer_page : Answer → Page
answer_page (Explained text) = shown text
answer_page (Unknown remark) = unknown remark

abbrev pub word_page : List ℕ → Page
word_page word = answer_page (answer word)

abbrev pub list_page : Page
list_page = shown whole_list
