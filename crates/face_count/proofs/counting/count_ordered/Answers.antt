use Rattle.std.proofs.Common.{◌∙◌}
use Rattle.mx_face.proofs.Faults.{faults-said}
use Rattle.face_count.proofs.Shown.{given-shown}
use Rattle.face_count.proofs.counting.count_ordered.Goals as goal

pub returns-in-Ok-clause-told : goal.returns-in-Ok-clause-told
returns-in-Ok-clause-told g c =
    given-shown _ _ _ c.args.is_json c.args.order.now _ _ _ _ c.word_bytes.ensures (c.as_slice.ensures.value ∙ c.in-Ok.ensures.value) c.show_file.ensures.told

pub returns-in-Err-clause-causes : goal.returns-in-Err-clause-causes
returns-in-Err-clause-causes g c = faults-said _ _ _ _ _ _ (λ e. cc, λ e. cc) c.tell.ensures.keeps c.tell.ensures.same
