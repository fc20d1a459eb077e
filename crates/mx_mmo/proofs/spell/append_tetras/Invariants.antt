use Rattle.std.proofs.Common.{◌≡◌, ◌++◌, take, flat_map}
use Rattle.mx_word.specs.Words.{tetra_to_bytes}
use Rattle.mx_mmo.proofs.spell.append_tetras.Given as goal

abbrev pub invariant-loop-tetra : goal.invariant-loop-tetra
invariant-loop-tetra l = l.bytes.items ≡ l.fn.bytes.items ++ flat_map tetra_to_bytes (take l.tetra-index l.tetras)
