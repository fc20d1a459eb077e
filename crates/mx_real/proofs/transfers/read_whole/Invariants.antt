use Rattle.std.proofs.Common.{◌≡◌, ◌≤◌, length, take}
use Rattle.std.specs.Io.KnownBytes.{Consumes}
use Rattle.mx_real.proofs.transfers.read_whole.Given as goal

-- the bytes that were read are in front
abbrev pub invariant-loop-turn : goal.invariant-loop-turn
invariant-loop-turn g l =
    (l.count ≤ length l.into) × (length l.into ≡ length l.fn.into) × Consumes (g.R.Read.remaining l.fn.reader) (g.R.Read.remaining l.reader) (take l.count l.into)
