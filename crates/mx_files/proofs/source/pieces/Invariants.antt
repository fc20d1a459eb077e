use Rattle.std.proofs.Common.{[]}
use Rattle.mx_files.specs.Clauses.{Leaves}
use Rattle.mx_files.specs.FilePlans.{read_pieces}
use Rattle.mx_files.proofs.ReadPieces.{left}
use Rattle.mx_files.proofs.source.pieces.Given as goal

-- the pieces of the turns that are left are left to read
abbrev pub invariant-loop-turn : goal.invariant-loop-turn
invariant-loop-turn g l =
    Leaves (g.H.Host.told l.fn.host) (g.H.Host.told l.host) (g.H.Host.faults l.fn.host) (g.H.Host.faults l.host)
    (left l.fn.most l.turn l.got) (read_pieces l.fn.most [])
