-- The symbols of a trie are named.
use Rattle.std.proofs.Common.{◌≡◌, ℕ, ◌+◌, ◌/◌, ◌%◌, ◌<◌, List, [], ◌∷◌, ◌++◌, length, arith, length-append, rules}
use Rattle.mx_stab.proofs.Words.{encode_utf8, AllByRecursion, bytes-append, AreBytes, Symbol, Value, AreDistinct, IsSubtrie, IsTrie, SpellsCharacter, SpellsValue, IsNamed, IsValue}
use Rattle.mx_stab.specs.Grammar as grammar
use Rattle.mx_stab.proofs.Digits.{number-below}
use Rattle.mx_stab.proofs.Orders.{all-both}
use Rattle.mx_stab.proofs.Whole.{serial-fits}

-- the UTF-8 form of a number of two bytes
record AreName (bytes : List ℕ) : Type 0 where
  are : AreBytes bytes
  some : 0 < length bytes

encoded : (c : ℕ) → c < 65536 → AreName (encode_utf8 c)
unfolding encode_utf8
encoded c l = grind arith

character-named : {wide : ℕ} {name character : List ℕ} → SpellsCharacter wide name character → AreName name
character-named h = search (rules, encoded)

value-fits : {kind : ℕ} {value : Value} {bytes : List ℕ} → SpellsValue kind value bytes → IsValue value
value-fits (grammar.SpellsValue.pure bytes b least most) = number-below bytes 8 64 b most (omega arith)
value-fits (grammar.SpellsValue.offset bytes b least most) = omega (arith, number-below bytes 6 48 b most (omega arith))
value-fits (grammar.SpellsValue.register k l) = l

subtrie-named : {l : ℕ} {path bytes : List ℕ} {symbols : List Symbol} → IsSubtrie l path bytes symbols → AreBytes path → AllByRecursion IsNamed symbols
subtrie-named (grammar.IsSubtrie.none path) b = tt
subtrie-named (grammar.IsSubtrie.bare path l r left right before after hl hr) b = all-both IsNamed before after (subtrie-named hl b) (subtrie-named hr b)
subtrie-named (grammar.IsSubtrie.passage path name character wide l r left middle right before below after hc long hl hm hr) b =
    all-both IsNamed (before ++ below) after (all-both IsNamed before below (subtrie-named hl b) (subtrie-named hm (bytes-append path name b (character-named hc).are))) (subtrie-named hr b)
subtrie-named (grammar.IsSubtrie.symbol path name character wide l m r kind serial value left told counted middle right before below after hc long hv hs hl hm hr) b =
    let own : Symbol = record { name = path ++ name; value = value; serial = serial } in
    let c = character-named hc in
    let named = bytes-append path name b c.are in
    all-both IsNamed (before ++ own ∷ below) after
    (all-both IsNamed before (own ∷ below) (subtrie-named hl b)
    (record { bytes = named; least = omega (arith, length-append path name, c.some); most = long; value = value-fits hv; serial = serial-fits serial counted hs }, subtrie-named hm named))
    (subtrie-named hr b)

pub trie-named : (bytes : List ℕ) (symbols : List Symbol) → IsTrie bytes symbols → AreDistinct symbols × AllByRecursion IsNamed symbols
trie-named bytes symbols h = search (rules, subtrie-named)
