-- What a word means: what `mmixview explain` says of it, if it says something.
use Rattle.std.specs.Prelude.{ℕ, List, [], if◌then◌else◌}
use Rattle.std.specs.Str.{is_utf8}
use Rattle.face_explain.specs.Answers.{answer}
use Rattle.face_explain.specs.declared.answer.Answer.{Answer}
use Rattle.face_explain.specs.declared.answer.Answer.TheVariants.{Explained, Unknown}

abbrev pub text_of : Answer → List ℕ
text_of (Explained text) = text
text_of (Unknown text) = []

abbrev pub meaning : List ℕ → List ℕ
meaning word = if is_utf8 word then text_of (answer word) else []
