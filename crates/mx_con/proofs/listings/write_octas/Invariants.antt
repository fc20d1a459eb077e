use Rattle.std.proofs.Common.{◌+◌, ◌-◌}
use Rattle.mx_core.specs.Kept.{state_of}
use Rattle.mx_con.specs.LinePlans.{lines_plan}
use Rattle.mx_con.specs.Replies.{octas_after}
use Rattle.mx_con.proofs.ListedLines.{LinesLeft, octas_from}
use Rattle.mx_con.proofs.listings.write_octas.Given as goal

-- the octas of the turns that are left are left to write
abbrev pub invariant-loop-turn : goal.invariant-loop-turn
invariant-loop-turn g l =
    LinesLeft g.H.Host.told g.H.Host.faults l.fn.host l.host (octas_from (state_of l.fn.machine) l.fn.form l.fn.a (l.turn + 1) (l.fn.n - l.turn))
    (lines_plan (octas_after (state_of l.fn.machine) l.fn.form l.fn.a l.fn.n))
