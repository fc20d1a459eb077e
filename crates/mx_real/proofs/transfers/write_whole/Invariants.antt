use Rattle.std.proofs.Common.{◌≤◌, length, take}
use Rattle.std.specs.Io.KnownBytes.{Appends}
use Rattle.mx_real.proofs.transfers.write_whole.Given as goal

-- the bytes up to here are written
abbrev pub invariant-loop-turn : goal.invariant-loop-turn
invariant-loop-turn g l =
    (l.count ≤ length l.from) × Appends (g.W.Write.contents l.fn.writer) (g.W.Write.contents l.writer) (take l.count l.from)
