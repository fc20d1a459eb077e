-- The meaning of a subtrie does not hang on the bound of its nodes.
use Rattle.std.proofs.Common.{◌≡◌, ℕ, zero, suc, ◌+◌, ◌-◌, ◌*◌, ◌^◌, ◌≤◌, ◌==◌, ◌%◌, Bool, cond, List, [], ◌∷◌, ◌++◌, length, Option, Some, None, Result, Ok, Err, arith, refl, sym, ap, ◌∙◌, length-drop, rules}
use Rattle.mx_stab.proofs.Words.{cond_both, Symbol, Value, StabFault, Truncated, Wide, Reading, Answer, Character, and_then, part_if, serial_after, symbol_with, symbol, has, has_character, is_wide_bare, two_bytes, character_of, character_part, with_character, character, node_rest, node, subtrie, next_subtrie, nat_tests}
use Rattle.mx_stab.specs.Reading.{one_byte}

-- no more than this many bytes are left
abbrev pub Leaves : ℕ → Answer → Type 0
Leaves n (Ok s) = length s.rest ≤ n
Leaves n (Err fault) = Unit {0}

-- a part that leaves no more bytes than there were
abbrev pub Reads : (Reading → Answer) → Type 0
Reads part = (s : Reading) → Leaves (length s.rest) (part s)

leaves-more : (n m : ℕ) (a : Answer) → n ≤ m → Leaves n a → Leaves m a
leaves-more n m a h1 h2 = grind arith

leaves-cond : (b : Bool) (n : ℕ) (fault : StabFault) (a : Answer) → Leaves n a → Leaves n (cond b (Err fault) a)
leaves-cond b n fault a h = grind arith

leaves-then : (n : ℕ) (part : Reading → Answer) (a : Answer) → Reads part → Leaves n a → Leaves n (and_then part a)
leaves-then n part a h1 h2 = grind arith

reads-if : (b : Bool) (part : Reading → Answer) → Reads part → Reads (part_if b part)
reads-if b part h = grind arith

-- a serial number leaves less
abbrev pub LeavesAtMost : ℕ → Option (ℕ × List ℕ) → Type 0
LeavesAtMost n None = Unit {0}
LeavesAtMost n (Some (serial, more)) = length more ≤ n

pub after-more : (n m : ℕ) (r : Option (ℕ × List ℕ)) → n ≤ m → LeavesAtMost n r → LeavesAtMost m r
after-more n m r h1 h2 = grind arith

pub serial-leaves : (x : ℕ) (bytes : List ℕ) → LeavesAtMost (length bytes) (serial_after x bytes)
serial-leaves x [] = tt
serial-leaves x (b ∷ more) = grind (arith, nat_tests, serial-leaves (x * 128 + b) more)

symbol_with-leaves : (n node : ℕ) (name : List ℕ) (value : Value) (s : Reading) (r : Option (ℕ × List ℕ)) → LeavesAtMost n r → Leaves n (symbol_with node name value s r)
symbol_with-leaves n node name value s r h = grind arith

symbol-reads : (kind node : ℕ) (name : List ℕ) → Reads (symbol kind node name)
symbol-reads kind node name s = search (rules, leaves-cond, symbol_with-leaves, after-more, length-drop, serial-leaves)

-- a character leaves less
abbrev LeavesCharacter : ℕ → Result Character StabFault → Type 0
LeavesCharacter n (Ok c) = length c.following.rest ≤ n
LeavesCharacter n (Err fault) = Unit {0}

one_byte-leaves : (at : ℕ) (found : List Symbol) (bytes : List ℕ) → LeavesCharacter (length bytes) (one_byte at found bytes)
one_byte-leaves at = grind arith

two_bytes-leaves : (node at : ℕ) (found : List Symbol) (bytes : List ℕ) → LeavesCharacter (length bytes) (two_bytes node at found bytes)
two_bytes-leaves node at = grind arith

pub character_of-leaves : (node m : ℕ) (s : Reading) → LeavesCharacter (length s.rest) (character_of node m s)
character_of-leaves node m s = cond_both (has 0x80 m) _ _ (LeavesCharacter (length s.rest)) (λ _. two_bytes-leaves node s.at s.found s.rest) (λ _. one_byte-leaves s.at s.found s.rest)

character_part-leaves : (inner : List ℕ → Reading → Answer) → ((path : List ℕ) → Reads (inner path)) → (n node m : ℕ) (path : List ℕ) (c : Result Character StabFault) → LeavesCharacter n c →
    Leaves n (with_character (character_part inner node m path) c)
character_part-leaves inner h1 n node m path c h2 = search (rules, leaves-cond, leaves-then, reads-if, leaves-more, symbol-reads)

character-reads : (inner : List ℕ → Reading → Answer) → ((path : List ℕ) → Reads (inner path)) → (node m : ℕ) (path : List ℕ) → Reads (character inner node m path)
character-reads inner r node m path s = character_part-leaves inner r (length s.rest) node m path (character_of node m s) (character_of-leaves node m s)

character_if-reads : (inner : List ℕ → Reading → Answer) → ((path : List ℕ) → Reads (inner path)) → (node m : ℕ) (path : List ℕ) → Reads (part_if (has_character m) (character inner node m path))
character_if-reads inner r node m path = reads-if (has_character m) (character inner node m path) (character-reads inner r node m path)

node_rest-reads : (inner : List ℕ → Reading → Answer) → ((path : List ℕ) → Reads (inner path)) → (node m : ℕ) (path : List ℕ) → Reads (node_rest inner node m path)
node_rest-reads inner r node m path s = grind (arith, nat_tests, reads-if (has 0x10 m) (inner path) (r path), character_if-reads inner r node m path s)

node-leaves : (inner : List ℕ → Reading → Answer) → ((path : List ℕ) → Reads (inner path)) → (path : List ℕ) (at : ℕ) (found : List Symbol) (bytes : List ℕ) → Leaves (length bytes) (node inner path at found bytes)
node-leaves inner h path at found bytes = search (rules, leaves-cond, leaves-more, leaves-then, node_rest-reads, reads-if)

pub subtrie-reads : (nodes : ℕ) (path : List ℕ) → Reads (subtrie nodes path)
unfolding subtrie
subtrie-reads zero path s = tt
subtrie-reads (suc nodes) path s = node-leaves (subtrie nodes) (subtrie-reads nodes) path s.at s.found s.rest

-- two meanings that agree where no more than this many bytes are left
abbrev Agree : ℕ → (Reading → Answer) → (Reading → Answer) → Type 0
Agree n p q = (s : Reading) → length s.rest ≤ n → p s ≡ q s

then-same : (n : ℕ) (p q : Reading → Answer) (a b : Answer) → a ≡ b → Leaves n a → Agree n p q → and_then p a ≡ and_then q b
then-same n p q a b e l h = grind arith

if-same : (n : ℕ) (b : Bool) (p q : Reading → Answer) → Agree n p q → Agree n (part_if b p) (part_if b q)
if-same n b p q h = grind arith

character_part-same : (n : ℕ) (f g : List ℕ → Reading → Answer) → ((path : List ℕ) → Agree n (f path) (g path)) → (node m : ℕ) (path : List ℕ) (c : Result Character StabFault) → LeavesCharacter n c →
    with_character (character_part f node m path) c ≡ with_character (character_part g node m path) c
character_part-same n f g h1 node m path c h2 = search (rules, then-same, leaves-more, symbol-reads, if-same)

leaves_character-more : (n m : ℕ) (c : Result Character StabFault) → n ≤ m → LeavesCharacter n c → LeavesCharacter m c
leaves_character-more n m c h1 h2 = grind arith

character-same : (n : ℕ) (f g : List ℕ → Reading → Answer) → ((path : List ℕ) → Agree n (f path) (g path)) → (node m : ℕ) (path : List ℕ) → Agree n (character f node m path) (character g node m path)
character-same n f g h node m path s l = search (rules, character_part-same, leaves_character-more, character_of-leaves)

node_rest-same : (n : ℕ) (f g : List ℕ → Reading → Answer) → ((path : List ℕ) → Reads (f path)) → ((path : List ℕ) → Agree n (f path) (g path)) → (node m : ℕ) (path : List ℕ) →
    Agree n (node_rest f node m path) (node_rest g node m path)
node_rest-same n f g r h node m path s l = grind (arith, nat_tests, then-same, if-same, character-same, leaves-more, character_if-reads)

pub node-same : (n : ℕ) (f g : List ℕ → Reading → Answer) → ((path : List ℕ) → Reads (f path)) → ((path : List ℕ) → Agree n (f path) (g path)) →
    (path : List ℕ) (at : ℕ) (found : List Symbol) (bytes : List ℕ) → length bytes ≤ suc n → node f path at found bytes ≡ node g path at found bytes
node-same n f g r h path at found [] l = refl
node-same n f g r h path at found (m ∷ rest) l =
    let s : Reading = record { at = at + 1; rest = rest; found = found } in
    let few : length rest ≤ n = omega (arith, l) in
    ap (λ a. cond (is_wide_bare m) (Err (Wide at)) a)
    (then-same n (node_rest f at m path) (node_rest g at m path) _ _
    (if-same n (has 0x40 m) (f path) (g path) (h path) s few)
    (leaves-more (length rest) n _ few (reads-if (has 0x40 m) (f path) (r path) s))
    (node_rest-same n f g r h at m path))

nothing-left : (inner : List ℕ → Reading → Answer) (path : List ℕ) (at : ℕ) (found : List Symbol) (bytes : List ℕ) → length bytes ≤ 0 → Err (Truncated at) ≡ node inner path at found bytes
nothing-left inner path at found bytes h = grind arith

-- each bound that is not below the bytes gives the same
pub bound-same : (i j : ℕ) (path : List ℕ) (s : Reading) → length s.rest ≤ i → length s.rest ≤ j → subtrie i path s ≡ subtrie j path s
unfolding subtrie
bound-same zero zero path s k l = refl
bound-same zero (suc j) path s k l = nothing-left (subtrie j) path s.at s.found s.rest k
bound-same (suc i) zero path s k l = sym (nothing-left (subtrie i) path s.at s.found s.rest l)
bound-same (suc i) (suc j) path s k l =
    node-same (length s.rest - 1) (subtrie i) (subtrie j) (subtrie-reads i) (λ path t few. bound-same i j path t (omega (arith, few, k)) (omega (arith, few, l)))
    path s.at s.found s.rest (omega arith)

-- a subtrie is a node with its subtries
pub next-node : (path : List ℕ) (at : ℕ) (found : List Symbol) (bytes : List ℕ) →
    next_subtrie path (record { at = at; rest = bytes; found = found }) ≡ node next_subtrie path at found bytes
unfolding subtrie
next-node path at found [] = refl
next-node path at found (m ∷ rest) =
    node-same (length rest) (subtrie (length rest)) next_subtrie (subtrie-reads (length rest)) (λ path t few. bound-same (length rest) (length t.rest) path t few (omega arith))
    path at found (m ∷ rest) (omega arith)
