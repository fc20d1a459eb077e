use Rattle.std.proofs.Common.{◌≡◌, ◌++◌, take}
use Rattle.mx_type.proofs.Words.{flat_map, next_tetra}
use Rattle.mx_type.proofs.fields.add_tetras.Given as goal

abbrev pub invariant-loop-word : goal.invariant-loop-word
invariant-loop-word l = l.text ≡ l.fn.text ++ flat_map next_tetra (take l.word-index l.words)
