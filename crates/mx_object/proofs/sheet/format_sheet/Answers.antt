use Rattle.std.proofs.Common.{◌++◌, ◌∙◌}
use Rattle.mx_object.specs.Sheets.{counted_rows}
use Rattle.mx_object.proofs.CountRows.{sheet-is}
use Rattle.mx_object.proofs.sheet.format_sheet.Goals as goal

pub returns : goal.returns
returns c =
    let rows = c.in_ok-add_counts.ensures ∙ (λ i. c.in_ok-text.text ++ counted_rows (c.as_slice.ensures i) (c.as_slice-2.ensures i)) in
    sheet-is c.args.sheet.now _ _ _ _ c.in_ok-text.ensures rows c.in_ok-add_row.ensures c.in_ok-add_row-2.ensures
