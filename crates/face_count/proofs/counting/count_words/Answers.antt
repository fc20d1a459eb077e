use Rattle.std.proofs.Common.{List, map, string_bytes}
use Rattle.mx_begin.specs.Arguments.{Word, arguments, word_at}
use Rattle.face_count.specs.CountPages.{shown_count}
use Rattle.mx_face.proofs.Faults.{faults-said}
use Rattle.face_count.proofs.Shown.{ordered-shown, usage-shown}
use Rattle.face_count.proofs.counting.count_words.Goals as goal

pub returns-in-Ok-clause-told : goal.returns-in-Ok-clause-told
returns-in-Ok-clause-told g c = λ o is plain. ordered-shown _ _ _ c.args.is_json _ _ o c.in-Ok.ensures.order is c.count_ordered.ensures.told

pub returns-in-Err-clause-told : goal.returns-in-Err-clause-told
returns-in-Err-clause-told g c = λ o is plain.
    let words : List Word = map string_bytes c.args.words.now in
    usage-shown _ _ _ _ (λ kind m. shown_count c.args.is_json kind o (word_at words o.file) (arguments words o) m) c.refuse_words.ensures.usage c.tell.ensures.same plain

pub returns-in-Err-clause-causes : goal.returns-in-Err-clause-causes
returns-in-Err-clause-causes g c = faults-said _ _ _ _ _ _ c.refuse_words.ensures.view c.tell.ensures.keeps c.tell.ensures.same
