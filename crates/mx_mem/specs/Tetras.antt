-- A page as 1,024 tetras, and the octas that they make, two by two, the high one first. A tetra of 0 comes after them.
use Rattle.std.specs.Prelude.{ℕ, ◌+◌, ◌*◌, ◌^◌, List, map, slice_index_or}
use Rattle.std.specs.List.{range_with_len}

-- the octa of the tetras 2 i and 2 i + 1
abbrev pub two_at : List ℕ → ℕ → ℕ
two_at tetras i = slice_index_or tetras (2 * i) 0 * 2 ^ 32 + slice_index_or tetras (2 * i + 1) 0

-- the 512 octas
unfoldable pub octas_of : List ℕ → List ℕ
octas_of tetras = map (two_at tetras) (range_with_len 0 512)
