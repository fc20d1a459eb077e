use Rattle.mx_object.specs.Runs.{object_counted}
use Rattle.face_count.specs.CountPages.{object_page, shown_object, table_page}
use Rattle.face_count.proofs.Shown.{count-faults, count-keeps, count-shown}
use Rattle.face_count.proofs.counting.show_object.Goals as goal

pub returns-then-is_json-clause-told : goal.returns-then-is_json-clause-told
unfolding shown_object
returns-then-is_json-clause-told g c =
    let kept = count-keeps _ _ _ _ c.count_object-counted.result.outcome _ c.count_object-counted.ensures.no_host_fault c.count_object-counted.ensures.no_missing_file (c.put_made.ensures.onward c.count_object-counted.result.outcome c.object_json_page.ensures.outcome) in
    rw c.if-is_json.true (count-shown _ _ _ (λ kind m. object_counted kind c.args.order.now c.args.given.now c.args.bytes.now m)
    object_page _ _ _ _ c.count_object-counted.ensures.keeps.telling c.count_object-counted.ensures.told c.object_json_page.ensures.page c.object_json_page.ensures.enough c.put_made.ensures.told c.put_made.ensures.lacking kept.growing)

pub returns-clause-told : goal.returns-clause-told
unfolding shown_object
returns-clause-told g c =
    let kept = count-keeps _ _ _ _ c.count_object-counted.result.outcome _ c.count_object-counted.ensures.no_host_fault c.count_object-counted.ensures.no_missing_file (c.put_made-2.ensures.onward c.count_object-counted.result.outcome c.object_table_page.ensures.outcome) in
    rw c.if-is_json.false (count-shown _ _ _ (λ kind m. object_counted kind c.args.order.now c.args.given.now c.args.bytes.now m)
    table_page _ _ _ _ c.count_object-counted.ensures.keeps.telling c.count_object-counted.ensures.told c.object_table_page.ensures.page c.object_table_page.ensures.enough c.put_made-2.ensures.told c.put_made-2.ensures.lacking kept.growing)

pub returns-then-is_json-clause-causes : goal.returns-then-is_json-clause-causes
returns-then-is_json-clause-causes g c =
    c.put_made.ensures.onward c.count_object-counted.result.outcome c.object_json_page.ensures.outcome _ _
    (count-faults _ _ _ _ _ c.count_object-counted.ensures.no_host_fault c.count_object-counted.ensures.no_missing_file c.count_object-counted.ensures.keeps)

pub returns-clause-causes : goal.returns-clause-causes
returns-clause-causes g c =
    c.put_made-2.ensures.onward c.count_object-counted.result.outcome c.object_table_page.ensures.outcome _ _
    (count-faults _ _ _ _ _ c.count_object-counted.ensures.no_host_fault c.count_object-counted.ensures.no_missing_file c.count_object-counted.ensures.keeps)
