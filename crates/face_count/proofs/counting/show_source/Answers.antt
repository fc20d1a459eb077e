use Rattle.mx_count.specs.Runs.{by_lines, by_text, source_counted}
use Rattle.face_count.specs.CountPages.{json_page, sheet_page, shown_source}
use Rattle.face_count.proofs.Shown.{count-faults, count-keeps, count-shown}
use Rattle.face_count.proofs.counting.show_source.Goals as goal

pub returns-then-is_json-clause-told : goal.returns-then-is_json-clause-told
unfolding shown_source
returns-then-is_json-clause-told g c =
    let kept = count-keeps _ _ _ _ c.count_lines-counted.result.outcome _ c.count_lines-counted.ensures.no_host_fault c.count_lines-counted.ensures.no_missing_file (c.put_made.ensures.onward c.count_lines-counted.result.outcome c.source_json_page-page.ensures.outcome) in
    rw c.if-is_json.true (count-shown _ _ _ (λ kind m. source_counted kind c.args.order.now c.args.given.now (by_lines c.args.source.now) c.args.source.now m)
    json_page _ _ _ _ c.count_lines-counted.ensures.keeps.telling c.count_lines-counted.ensures.told c.source_json_page-page.ensures.page c.source_json_page-page.ensures.enough c.put_made.ensures.told c.put_made.ensures.lacking kept.growing)

pub returns-clause-told : goal.returns-clause-told
unfolding shown_source
returns-clause-told g c =
    let kept = count-keeps _ _ _ _ c.count_source-counted.result.outcome _ c.count_source-counted.ensures.no_host_fault c.count_source-counted.ensures.no_missing_file (c.put_made-2.ensures.onward c.count_source-counted.result.outcome c.source_table_page.ensures.outcome) in
    rw c.if-is_json.false (count-shown _ _ _ (λ kind m. source_counted kind c.args.order.now c.args.given.now (by_text c.args.source.now) c.args.source.now m)
    sheet_page _ _ _ _ c.count_source-counted.ensures.keeps.telling c.count_source-counted.ensures.told c.source_table_page.ensures.page c.source_table_page.ensures.enough c.put_made-2.ensures.told c.put_made-2.ensures.lacking kept.growing)

pub returns-then-is_json-clause-causes : goal.returns-then-is_json-clause-causes
returns-then-is_json-clause-causes g c =
    c.put_made.ensures.onward c.count_lines-counted.result.outcome c.source_json_page-page.ensures.outcome _ _
    (count-faults _ _ _ _ _ c.count_lines-counted.ensures.no_host_fault c.count_lines-counted.ensures.no_missing_file c.count_lines-counted.ensures.keeps)

pub returns-clause-causes : goal.returns-clause-causes
returns-clause-causes g c =
    c.put_made-2.ensures.onward c.count_source-counted.result.outcome c.source_table_page.ensures.outcome _ _
    (count-faults _ _ _ _ _ c.count_source-counted.ensures.no_host_fault c.count_source-counted.ensures.no_missing_file c.count_source-counted.ensures.keeps)
