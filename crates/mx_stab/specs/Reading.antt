-- What a reader gives of a symbol trie: its symbols, or the first fault that is met on the way.
use Rattle.std.specs.Prelude.{ℕ, zero, suc, ◌+◌, ◌-◌, ◌*◌, ◌/◌, ◌%◌, ◌^◌, ◌==◌, Bool, true, false, not, ◌||◌, ◌&&◌, nat_le, nat_lt, List, [], ◌∷◌, ◌++◌, length, take, drop, slice_index, Option, Some, None, Result, Ok, Err, bytes_eq, if◌then◌else◌}
use Rattle.std.specs.Char.{encode_utf8}
use Rattle.mx_word.specs.declared.symbols.Symbol.{Symbol}
use Rattle.mx_word.specs.declared.symbols.Value.{Value}
use Rattle.mx_word.specs.declared.symbols.Value.TheVariants.{Pure, Reg}
use Rattle.mx_stab.specs.declared.faults.StabFault.{StabFault}
use Rattle.mx_stab.specs.declared.faults.StabFault.TheVariants.{Truncated, Padding, Wide, Twice, TooLong, BadSerial}
use Rattle.mx_stab.specs.Characters.{wide_number, is_wide_character}
use Rattle.mx_stab.specs.Grammar.{number}

-- how far reading has come: the place of the next byte, the bytes from there on, and the symbols so far
pub record Reading : Type 0 where
  pub at : ℕ
  pub rest : List ℕ
  pub found : List Symbol

abbrev pub Answer : Type 0
Answer = Result Reading StabFault

-- the place after the last byte, where a missing byte is missed
abbrev pub end_of : Reading → ℕ
end_of s = s.at + length s.rest

-- what is read next, unless there was a fault
abbrev pub and_then : (Reading → Answer) → Answer → Answer
and_then next (Ok s) = next s
and_then next (Err fault) = Err fault

-- a part that is there or not
abbrev pub part_if : Bool → (Reading → Answer) → Reading → Answer
part_if true part s = part s
part_if false part s = Ok s

-- whether a name came before
abbrev pub is_among : List ℕ → List Symbol → Bool
is_among name [] = false
is_among name (s ∷ more) = bytes_eq name s.name || is_among name more

-- how many bytes tell a value of a kind from 1 to 15, and which value they tell
abbrev pub value_size : ℕ → ℕ
value_size kind = if kind == 15 then 1 else if nat_le kind 8 then kind else kind - 8

abbrev pub value_of : ℕ → List ℕ → Value
value_of kind bytes =
    if kind == 15 then Reg (slice_index bytes 0)
    else if nat_le kind 8 then Pure (number 256 bytes)
    else Pure (2 ^ 61 + number 256 bytes)

-- a serial number, of which the digits so far tell x, with the bytes after it; none where the bytes end within it
abbrev pub serial_after : ℕ → List ℕ → Option (ℕ × List ℕ)
serial_after x [] = None
serial_after x (b ∷ more) = if nat_lt b 128 then serial_after (x * 128 + b) more else Some (x * 128 + (b - 128), more)

-- the symbol of a node, which is whole at the end of its serial number
abbrev pub symbol_with : ℕ → List ℕ → Value → Reading → Option (ℕ × List ℕ) → Answer
symbol_with node name value s None = Err (Truncated (end_of s))
symbol_with node name value s (Some (serial, more)) =
    if nat_le (2 ^ 32) serial then Err (BadSerial node)
    else if is_among name s.found then Err (Twice node)
    else Ok (record {
      at = s.at + (length s.rest - length more);
      rest = more;
      found = s.found ++ record { name = name; value = value; serial = serial } ∷ [];
    })

-- the value of a node and its serial number, where a symbol ends
abbrev pub symbol : ℕ → ℕ → List ℕ → Reading → Answer
symbol kind node name s =
    if kind == 0 then Ok s
    else if nat_lt (length s.rest) (value_size kind) then Err (Truncated (end_of s))
    else symbol_with node name (value_of kind (take (value_size kind) s.rest)) s
    (serial_after 0 (drop (value_size kind) s.rest))

-- whether a byte m has a bit
abbrev pub has : ℕ → ℕ → Bool
has bit m = m / bit % 2 == 1

-- a node has a character where a symbol ends or a middle subtrie follows
abbrev pub has_character : ℕ → Bool
has_character m = not (m % 16 == 0) || has 0x20 m

-- a node that is marked as one with a character of two bytes, and has no character
abbrev pub is_wide_bare : ℕ → Bool
is_wide_bare m = has 0x80 m && not (has_character m)

-- what a character adds to a name, and the reading after it
pub record Character : Type 0 where
  pub name : List ℕ
  pub following : Reading

-- a character of one byte
abbrev pub one_byte : ℕ → List Symbol → List ℕ → Result Character StabFault
one_byte at found [] = Err (Truncated at)
one_byte at found (c ∷ rest) =
    Ok (record { name = c ∷ []; following = record { at = at + 1; rest = rest; found = found } })

-- a character of two bytes
abbrev pub two_bytes : ℕ → ℕ → List Symbol → List ℕ → Result Character StabFault
two_bytes node at found [] = Err (Truncated at)
two_bytes node at found (high ∷ []) = Err (Truncated (at + 1))
two_bytes node at found (high ∷ low ∷ rest) =
    if is_wide_character (wide_number high low)
    then Ok (record {
      name = encode_utf8 (wide_number high low);
      following = record { at = at + 2; rest = rest; found = found };
    })
    else Err (Wide node)

abbrev pub one_byte_of : Reading → Result Character StabFault
one_byte_of s = one_byte s.at s.found s.rest

abbrev pub two_bytes_of : ℕ → Reading → Result Character StabFault
two_bytes_of node s = two_bytes node s.at s.found s.rest

-- the character of a node at a place with the byte m
abbrev pub character_of : ℕ → ℕ → Reading → Result Character StabFault
character_of node m s = if has 0x80 m then two_bytes_of node s else one_byte_of s

-- what belongs to the character of a node: the symbol that ends with it, and the middle subtrie
abbrev pub character_part : (List ℕ → Reading → Answer) → ℕ → ℕ → List ℕ → Character → Answer
character_part inner node m path c =
    if nat_lt 1024 (length (path ++ c.name)) then Err (TooLong node)
    else and_then (part_if (has 0x20 m) (inner (path ++ c.name))) (symbol (m % 16) node (path ++ c.name) c.following)

abbrev pub with_character : (Character → Answer) → Result Character StabFault → Answer
with_character part (Ok c) = part c
with_character part (Err fault) = Err fault

-- the character of a node, with what belongs to it
abbrev pub character : (List ℕ → Reading → Answer) → ℕ → ℕ → List ℕ → Reading → Answer
character inner node m path s = with_character (character_part inner node m path) (character_of node m s)

-- what is in a node after its left subtrie: the character with what belongs to it, and the right subtrie
abbrev pub node_rest : (List ℕ → Reading → Answer) → ℕ → ℕ → List ℕ → Reading → Answer
node_rest inner node m path s =
    and_then (part_if (has 0x10 m) (inner path)) (part_if (has_character m) (character inner node m path) s)

-- a node: the byte m, the left subtrie, and what follows it
abbrev pub node : (List ℕ → Reading → Answer) → List ℕ → ℕ → List Symbol → List ℕ → Answer
node inner path at found [] = Err (Truncated at)
node inner path at found (m ∷ rest) =
    if is_wide_bare m then Err (Wide at)
    else and_then (node_rest inner at m path)
    (part_if (has 0x40 m) (inner path) (record { at = at + 1; rest = rest; found = found }))

-- the subtrie below a path, of no more nodes than this many; each has a byte at least
unfoldable pub subtrie : ℕ → List ℕ → Reading → Answer
subtrie zero path s = Err (Truncated s.at)
subtrie (suc nodes) path s = node (subtrie nodes) path s.at s.found s.rest

-- the subtrie that begins with the next byte
abbrev pub next_subtrie : List ℕ → Reading → Answer
next_subtrie path s = subtrie (length s.rest) path s

-- zeros, of which at most three follow a trie
abbrev pub are_zeros : List ℕ → Bool
are_zeros [] = true
are_zeros (b ∷ more) = b == 0 && are_zeros more

abbrev pub is_padding : List ℕ → Bool
is_padding bytes = nat_le (length bytes) 3 && are_zeros bytes

-- the symbols, where nothing but padding is left
abbrev pub symbols_at_end : Answer → Result (List Symbol) StabFault
symbols_at_end (Err fault) = Err fault
symbols_at_end (Ok s) = if is_padding s.rest then Ok s.found else Err (Padding s.at)

-- before the first byte
abbrev pub start : List ℕ → Reading
start bytes = record { at = 0; rest = bytes; found = [] }

-- the symbols of a trie in its order, or the first fault that is met; no bytes tell no symbols
abbrev pub trie_answer : List ℕ → Result (List Symbol) StabFault
trie_answer [] = Ok []
trie_answer (b ∷ more) = symbols_at_end (next_subtrie [] (start (b ∷ more)))

-- the first fault of a trie that is none
abbrev pub fault_in : Result (List Symbol) StabFault → Option StabFault
fault_in (Ok symbols) = None
fault_in (Err fault) = Some fault

abbrev pub trie_fault : List ℕ → Option StabFault
trie_fault bytes = fault_in (trie_answer bytes)
