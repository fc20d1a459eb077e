use Rattle.std.proofs.Common.{◌≡◌, ◌++◌, take, flat_map}
use Rattle.mx_word.specs.Words.{octa_to_bytes}
use Rattle.mx_mmo.proofs.spell.append_octas.Given as goal

abbrev pub invariant-loop-value : goal.invariant-loop-value
invariant-loop-value l = l.bytes.items ≡ l.fn.bytes.items ++ flat_map octa_to_bytes (take l.value-index l.values)
