use Rattle.std.proofs.Common.{◌-◌}
use Rattle.mx_run.specs.FlagMaps.{flags_at}
use Rattle.mx_con.specs.LinePlans.{lines_plan}
use Rattle.mx_con.specs.Replies.{flag_lines, tetra_count}
use Rattle.mx_con.proofs.ListedLines.{LinesLeft}
use Rattle.mx_con.proofs.listings.write_flags.Given as goal

-- the tetras from this one on are left to write
abbrev pub invariant-loop-tetra : goal.invariant-loop-tetra
invariant-loop-tetra g l =
    LinesLeft g.H.Host.told g.H.Host.faults l.fn.host l.host (flag_lines (flags_at l.fn.runner.flags) l.tetra (tetra_count - l.tetra))
    (lines_plan (flag_lines (flags_at l.fn.runner.flags) 0 tetra_count))

abbrev pub decreases-loop-tetra : goal.decreases-loop-tetra
decreases-loop-tetra g l = tetra_count - l.tetra
