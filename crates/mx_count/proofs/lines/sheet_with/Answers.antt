use Rattle.mx_count.proofs.SheetRows.{data-is}
use Rattle.mx_count.proofs.lines.sheet_with.Goals as goal

pub returns : goal.returns
returns c =
    data-is c.args.source.now c.args.loads.now c.args.entries.now _ _ _ _
    c.in_ok-sums.ensures c.in_ok-all.ensures c.new-lines.ensures c.in_ok-add_lines.ensures
