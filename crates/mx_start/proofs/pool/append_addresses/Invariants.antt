use Rattle.std.proofs.Common.{◌≡◌, ◌++◌, length}
use Rattle.mx_start.specs.Start.{text_addresses, texts_end}
use Rattle.mx_start.proofs.pool.append_addresses.Given as goal

-- the addresses so far, and those of the texts that are left, are the old octas and those of all texts
abbrev pub invariant-loop-rest : goal.invariant-loop-rest
invariant-loop-rest l = record {
  built : l.octas ++ text_addresses l.next l.rest ≡ l.fn.octas ++ text_addresses l.at l.texts;
  same_end : texts_end l.next l.rest ≡ texts_end l.at l.texts;
}

abbrev pub decreases-loop-rest : goal.decreases-loop-rest
decreases-loop-rest l = length l.rest
