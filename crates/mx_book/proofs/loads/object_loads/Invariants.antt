use Rattle.std.proofs.Common.{◌≡◌, map, take}
use Rattle.mx_book.specs.Loads.{load_of}
use Rattle.mx_book.proofs.loads.object_loads.Given as goal

abbrev pub invariant-loop-tetra : goal.invariant-loop-tetra
invariant-loop-tetra l = l.loads ≡ map load_of (take l.tetra-index l.tetras)
