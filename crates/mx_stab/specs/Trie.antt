-- The trie that a writer writes of symbols (MMIXware, MMIXAL, "Binary MMO output", the symbol table). That it has no
-- left subtries is a rule of this program.
use Rattle.std.specs.Prelude.{ℕ, zero, suc, ◌+◌, ◌-◌, ◌==◌, Bool, true, false, nat_le, List, [], ◌∷◌, ◌++◌, length, if◌then◌else◌, slice_index_or}
use Rattle.mx_word.specs.declared.symbols.Symbol.{Symbol}
use Rattle.mx_stab.specs.Numbers.{value_bytes, kind, serial_bytes}

-- the byte of a name at a place, and whether the name ends with it
abbrev pub next_byte : ℕ → Symbol → ℕ
next_byte at s = slice_index_or s.name at 0

abbrev pub is_last_byte : ℕ → Symbol → Bool
is_last_byte at s = nat_le (length s.name) (at + 1)

-- a symbol before groups: it joins the first group where their next bytes are the same
abbrev pub groups_with : ℕ → Symbol → List (List Symbol) → List (List Symbol)
groups_with at s [] = (s ∷ []) ∷ []
groups_with at s ([] ∷ groups) = (s ∷ []) ∷ groups
groups_with at s ((t ∷ group) ∷ groups) =
    if next_byte at t == next_byte at s then (s ∷ t ∷ group) ∷ groups
    else (s ∷ []) ∷ (t ∷ group) ∷ groups

-- symbols in groups by the next byte of their names
abbrev pub groups_of : ℕ → List Symbol → List (List Symbol)
groups_of at [] = []
groups_of at (s ∷ more) = groups_with at s (groups_of at more)

-- the symbols of a group whose names go on: all but a first one that ends here
abbrev pub symbols_below : ℕ → List Symbol → List Symbol
symbols_below at [] = []
symbols_below at (s ∷ more) = if is_last_byte at s then more else s ∷ more

-- the front of a node whose character is the byte of a name: the byte m, with bits for a middle and a right
-- subtrie, the character, and the value and the serial number where the name ends here
abbrev pub bit : ℕ → Bool → ℕ
bit weight is = if is then weight else 0

abbrev pub front_of : ℕ → Symbol → Bool → Bool → List ℕ
front_of at s goes_on others =
    if is_last_byte at s then
    (bit 0x20 goes_on + bit 0x10 others + kind s.value) ∷ next_byte at s ∷ value_bytes s.value ++ serial_bytes s.serial
    else (bit 0x20 goes_on + bit 0x10 others) ∷ next_byte at s ∷ []

-- whether there is anything in a list
abbrev pub has_symbols : {A : Type 0} → List A → Bool
has_symbols [] = false
has_symbols (x ∷ xs) = true

-- the front of a group's node, where other groups follow or none
abbrev pub node_front : ℕ → List Symbol → Bool → List ℕ
node_front at [] others = []
node_front at (s ∷ more) others = front_of at s (has_symbols (symbols_below at (s ∷ more))) others

-- one node for each group, the middle subtrie of each after its front, and then its right subtrie
abbrev pub nodes : (List Symbol → List ℕ) → ℕ → List (List Symbol) → List ℕ
nodes middle at [] = []
nodes middle at (group ∷ groups) =
    node_front at group (has_symbols groups) ++ middle (symbols_below at group) ++ nodes middle at groups

-- the trie of symbols whose names agree up to a place; it is no deeper than this many nodes
unfoldable pub trie : ℕ → ℕ → List Symbol → List ℕ
trie zero at symbols = []
trie (suc deep) at symbols = nodes (trie deep (at + 1)) at (groups_of at symbols)

-- the longest names have 1,024 bytes
abbrev pub longest : ℕ
longest = 1024

-- the trie below names that agree up to a place
abbrev pub trie_from : ℕ → List Symbol → List ℕ
trie_from at symbols = trie (longest - at) at symbols

-- the trie of symbols that are in the order of their names
abbrev pub trie_of : List Symbol → List ℕ
trie_of symbols = trie_from 0 symbols
