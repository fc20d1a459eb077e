use Rattle.std.proofs.Common.{◌≡◌, ◌++◌, length}
use Rattle.std.specs.List.{flat_map}
use Rattle.mx_start.specs.Start.{text_octas}
use Rattle.mx_start.proofs.pool.append_texts.Given as goal

-- the octas so far, and those of the texts that are left, are the old ones and those of all texts
abbrev pub invariant-loop-rest : goal.invariant-loop-rest
invariant-loop-rest l = l.octas ++ flat_map text_octas l.rest ≡ l.fn.octas ++ flat_map text_octas l.texts

abbrev pub decreases-loop-rest : goal.decreases-loop-rest
decreases-loop-rest l = length l.rest
