-- A trie of the grammar is a list of bytes.
use Rattle.std.proofs.Common.{ℕ, ◌+◌, ◌≤◌, List, [], ◌∷◌, ◌++◌, arith, replicate}
use Rattle.mx_word.proofs.Ranges.{bytes-append, bytes-zeros}
use Rattle.mx_type.proofs.Words.{AreBytes, Symbol, AreBelow, IsSubtrie, IsTrie, SpellsCharacter, SpellsSerial, SpellsValue}
use Rattle.mx_word.specs.declared.symbols.Value.{Value}
use Rattle.mx_stab.specs.Grammar as grammar

-- bytes of a part, and a bound of the number that the part adds to a node's byte m
record Part (most : ℕ) (n : ℕ) (bytes : List ℕ) : Type 0 where
  are : AreBytes bytes
  small : n ≤ most

digits-bytes : (digits : List ℕ) → AreBelow 128 digits → AreBytes digits
digits-bytes [] b = tt
digits-bytes (d ∷ digits) b = (omega (arith, b.0), digits-bytes digits b.1)

serial-bytes : {serial : ℕ} {bytes : List ℕ} → SpellsSerial serial bytes → AreBytes bytes
serial-bytes (grammar.SpellsSerial.digits front last b small most) =
    bytes-append front ((last + 128) ∷ []) (digits-bytes front b) (omega (arith, small), tt)

value-part : {kind : ℕ} {value : Value} {bytes : List ℕ} → SpellsValue kind value bytes → Part 15 kind bytes
value-part (grammar.SpellsValue.pure bytes b least most) = record { are = b; small = omega (arith, most) }
value-part (grammar.SpellsValue.offset bytes b least most) = record { are = b; small = omega (arith, most) }
value-part (grammar.SpellsValue.register k l) = record { are = (l, tt); small = omega arith }

character-part : {wide : ℕ} {name character : List ℕ} → SpellsCharacter wide name character → Part 128 wide character
character-part (grammar.SpellsCharacter.one_byte c small) = record { are = (small, tt); small = omega arith }
character-part (grammar.SpellsCharacter.two_bytes high low h l wide) = record { are = (h, (l, tt)); small = omega arith }

subtrie-part : {l : ℕ} {path bytes : List ℕ} {symbols : List Symbol} → IsSubtrie l path bytes symbols → Part 1 l bytes
subtrie-part (grammar.IsSubtrie.none path) = record { are = tt; small = omega arith }
subtrie-part (grammar.IsSubtrie.bare path l r left right before after hl hr) =
    let a : Part 1 l left = subtrie-part hl in
    let b : Part 1 r right = subtrie-part hr in
    record { are = (omega (arith, a.small, b.small), bytes-append left right a.are b.are); small = omega arith }
subtrie-part (grammar.IsSubtrie.passage path name character wide l r left middle right before below after hc long hl hm hr) =
    let c : Part 128 wide character = character-part hc in
    let a : Part 1 l left = subtrie-part hl in
    let m : Part 1 1 middle = subtrie-part hm in
    let b : Part 1 r right = subtrie-part hr in
    record {
      are = (
        omega (arith, c.small, a.small, b.small),
        bytes-append (left ++ character ++ middle) right (bytes-append (left ++ character) middle (bytes-append left character a.are c.are) m.are) b.are,
      );
      small = omega arith;
    }
subtrie-part (grammar.IsSubtrie.symbol path name character wide l m r kind serial value left told counted middle right before below after hc long hv hs hl hm hr) =
    let c : Part 128 wide character = character-part hc in
    let v : Part 15 kind told = value-part hv in
    let a : Part 1 l left = subtrie-part hl in
    let d : Part 1 m middle = subtrie-part hm in
    let b : Part 1 r right = subtrie-part hr in
    record {
      are = (
        omega (arith, c.small, v.small, a.small, d.small, b.small),
        bytes-append (left ++ character ++ told ++ counted ++ middle) right
            (bytes-append (left ++ character ++ told ++ counted) middle
            (bytes-append (left ++ character ++ told) counted
            (bytes-append (left ++ character) told (bytes-append left character a.are c.are) v.are) (serial-bytes hs)) d.are) b.are,
      );
      small = omega arith;
    }

pub trie-bytes : {trie : List ℕ} {symbols : List Symbol} → IsTrie trie symbols → AreBytes trie
trie-bytes grammar.IsTrie.empty = tt
trie-bytes (grammar.IsTrie.whole trie zeros symbols is few distinct) = bytes-append trie (replicate zeros 0) (subtrie-part is).are (bytes-zeros zeros)
