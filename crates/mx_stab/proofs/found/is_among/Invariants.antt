use Rattle.std.proofs.Common.{◌≡◌, length}
use Rattle.mx_stab.specs.Reading.{is_among}
use Rattle.mx_stab.proofs.found.is_among.Given as goal

abbrev pub invariant-loop-rest : goal.invariant-loop-rest
invariant-loop-rest l = is_among l.name l.rest ≡ is_among l.name l.symbols

abbrev pub decreases-loop-rest : goal.decreases-loop-rest
decreases-loop-rest l = length l.rest
