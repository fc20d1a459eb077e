-- The bytes that an item is written as.
-- (MMIXware, the part on MMIXAL, "Binary MMO output".)
use Rattle.std.specs.Prelude.{ℕ, ◌/◌, ◌^◌, ◌==◌, List, ◌++◌, length, Option, Some, None, if◌then◌else◌}
use Rattle.std.specs.List.{flat_map}
use Rattle.mx_word.specs.Words.{tetra_to_bytes, octa_to_bytes}
use Rattle.mx_mmo.specs.Tetras.{lop, wide_lop, address, tetras_for, padded}
use Rattle.mx_mmo.specs.declared.items.Item.{Item}
use Rattle.mx_mmo.specs.declared.items.Item.TheVariants.{Load, Loc, Skip, FixOcta, FixNear, FixFar, File, Line, Spec, Pre, Post, Stab}

-- a tetra that is loaded: quoted where it would be a lopcode itself
abbrev pub loaded : ℕ → List ℕ
loaded t = if t / 2 ^ 24 == 0x98 then lop 0 0 1 ++ tetra_to_bytes t else tetra_to_bytes t

-- a file that is selected, and its name where it has one
abbrev pub file : ℕ → Option (List ℕ) → List ℕ
file number None = lop 6 number 0
file number (Some name) = lop 6 number (tetras_for (length name)) ++ padded name

-- the bytes of an item; of a spec those of its lopcode alone
abbrev pub bytes_of : Item → List ℕ
bytes_of (Load t) = loaded t
bytes_of (Loc a) = address 1 a
bytes_of (Skip n) = wide_lop 2 n
bytes_of (FixOcta a) = address 3 a
bytes_of (FixNear n) = wide_lop 4 n
bytes_of (FixFar bits t) = lop 5 0 bits ++ tetra_to_bytes t
bytes_of (File number name) = file number name
bytes_of (Line n) = wide_lop 7 n
bytes_of (Spec n) = wide_lop 8 n
bytes_of (Pre tetras) = lop 9 1 (length tetras) ++ flat_map tetra_to_bytes tetras
bytes_of (Post g values) = lop 10 0 g ++ flat_map octa_to_bytes values
bytes_of Stab = lop 11 0 0

-- the bytes of items, one after the other
abbrev pub written : List Item → List ℕ
written items = flat_map bytes_of items

-- how an object ends: the trie, and the lopcode that counts its tetras
abbrev pub ending : List ℕ → List ℕ
ending trie = trie ++ wide_lop 12 (length trie / 4)
