use Rattle.std.proofs.Common.{◌++◌, ◌∙◌}
use Rattle.std.specs.List.{flat_map}
use Rattle.mx_count.specs.Sheets.{line_row}
use Rattle.mx_count.proofs.SheetRows.{text-is}
use Rattle.mx_count.proofs.sheet.format_sheet.Goals as goal

pub returns : goal.returns
returns c =
    let rows = c.in_ok-add_rows.ensures ∙ (λ i. c.in_ok-text.text ++ flat_map line_row (c.as_slice.ensures i)) in
    text-is c.args.sheet.now _ _ _ c.in_ok-text.ensures rows c.in_ok-add_last.ensures
