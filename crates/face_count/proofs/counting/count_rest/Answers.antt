use Rattle.std.proofs.Common.{List, map, string_bytes, ap, ◌∙◌}
use Rattle.mx_begin.specs.Arguments.{Word, arguments, word_at}
use Rattle.face_count.specs.CountPages.{run_words, shown_count}
use Rattle.mx_face.proofs.Faults.{faults-said}
use Rattle.face_count.proofs.Shown.{lacking-shown, words-shown}
use Rattle.face_count.proofs.counting.count_rest.Goals as goal

pub returns-in-Ok-clause-told : goal.returns-in-Ok-clause-told
returns-in-Ok-clause-told g c = words-shown _ _ _ c.args.is_json _ _ (ap (map string_bytes) c.as_slice.ensures.value ∙ c.in-Ok.ensures) c.count_words.ensures.told

pub returns-in-Err-clause-told : goal.returns-in-Err-clause-told
returns-in-Err-clause-told g c = λ o is plain.
    let words : List Word = run_words (map string_bytes c.args.words.now) in
    lacking-shown _ _ _ (λ kind m. shown_count c.args.is_json kind o (word_at words o.file) (arguments words o) m) c.tell.ensures.same

pub returns-in-Err-clause-causes : goal.returns-in-Err-clause-causes
returns-in-Err-clause-causes g c = faults-said _ _ _ _ _ _ (λ e. cc, λ e. cc) c.tell.ensures.keeps c.tell.ensures.same
