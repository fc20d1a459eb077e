use Rattle.std.proofs.Common.{◌∙◌, arith, sym}
use Rattle.mx_view.proofs.MendedLines.{none-found}
use Rattle.mx_view.proofs.search.find_faults.Goals as goal

pub returns : goal.returns
returns c =
    sym (c.loop-search.invariant.0
    ∙ none-found c.loop-search.search.left c.loop-search.search.lines.items c.from_vec-2.result c.loop-search.current (omega (arith, c.loop-search-test.false)) c.from_vec-2.ensures)
