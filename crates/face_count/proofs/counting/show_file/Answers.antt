use Rattle.mx_face.proofs.Faults.{faults-after}
use Rattle.face_count.proofs.Shown.{read-faults, read-shown, unread-shown}
use Rattle.face_count.proofs.counting.show_file.Goals as goal

pub returns-in-Ok-clause-told : goal.returns-in-Ok-clause-told
returns-in-Ok-clause-told g c =
    read-shown _ _ _ _ c.args.is_json c.args.order.now c.args.name.now c.args.given.now _ _ c.in-Ok.ensures.causes.3.telling c.in-Ok.ensures.told c.as_slice.ensures c.show_bytes.ensures.told

pub returns-in-Ok-clause-causes : goal.returns-in-Ok-clause-causes
returns-in-Ok-clause-causes g c = faults-after _ _ _ _ _ _ _ c.in-Ok.ensures.causes.3 c.show_bytes.ensures.causes

pub returns-in-Err-clause-told : goal.returns-in-Err-clause-told
returns-in-Err-clause-told g c =
    unread-shown _ _ _ _ c.args.is_json c.args.order.now c.args.name.now c.args.given.now _ c.in-Err.ensures.causes.3.telling c.in-Err.ensures.told c.show_unread.ensures.lacking c.show_unread.ensures.told

pub returns-in-Err-clause-causes : goal.returns-in-Err-clause-causes
returns-in-Err-clause-causes g c =
    c.show_unread.ensures.onward _ _ (read-faults _ _ _ _ _ c.in-Err.ensures.causes.0 c.in-Err.ensures.causes.1 c.in-Err.ensures.causes.3)
