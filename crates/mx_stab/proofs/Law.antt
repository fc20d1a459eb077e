-- What is written is in the grammar.
use Rattle.std.proofs.Common.{◌≡◌, ℕ, zero, suc, ◌+◌, ◌*◌, ◌<◌, ◌≤◌, ◌==◌, Bool, true, false, cond, List, [], ◌∷◌, ◌++◌, length, take, replicate, arith, refl, sym, ap, ◌∙◌, subst, inl, inr, length-append, slice_index_or, rules}
use Rattle.mx_stab.proofs.Words.{AllByRecursion, eqb-true, leb-true, leb-false, cases_lt, AreBytes, Symbol, value_bytes, kind, serial_bytes, next_byte, is_last_byte, groups_with, groups_of, bit, has_symbols, nodes, trie, trie_of, InByteOrder, IsNamed, IsSubtrie, IsTrie, nat_tests, common_steps}
use Rattle.std.proofs.Math.Seq.{take-suc}
use Rattle.mx_stab.specs.Grammar.IsSubtrie.{none, bare, passage, symbol}
use Rattle.mx_stab.specs.Grammar.IsTrie.{empty, whole}
use Rattle.mx_stab.specs.Grammar.SpellsCharacter.{one_byte}
use Rattle.mx_stab.proofs.Orders.{AreInOrder, Below, all-front, all-back, in-order, order-front, order-back, no-front-after, in-order-distinct}
use Rattle.mx_stab.proofs.Groups.{has_symbols-groups_of, trie-none}
use Rattle.mx_stab.proofs.Spelt.{spell-value, spell-serial}

-- a symbol whose name begins with a path, and goes on
record Under (path : List ℕ) (s : Symbol) : Type 0 where
  path-first : take (length path) s.name ≡ path
  longer : length path < length s.name
  named : IsNamed s

abbrev AreUnder : List ℕ → List Symbol → Type 0
AreUnder path symbols = AllByRecursion (Under path) symbols

-- symbols with one next byte
abbrev IsGroup : ℕ → List Symbol → Type 0
IsGroup at [] = ⊥
IsGroup at (s ∷ more) = AllByRecursion (λ (t : Symbol). next_byte at t ≡ next_byte at s) more

join-groups : (b : Bool) (at : ℕ) (s t : Symbol) (group : List Symbol) (groups : List (List Symbol)) → (b ≡ true → next_byte at t ≡ next_byte at s) →
    AllByRecursion (λ (u : Symbol). next_byte at u ≡ next_byte at t) group → AllByRecursion (IsGroup at) groups →
    AllByRecursion (IsGroup at) (cond b ((s ∷ t ∷ group) ∷ groups) ((s ∷ []) ∷ (t ∷ group) ∷ groups))
join-groups true at s t group groups h g gs = ((h refl, same group g), gs)
  where
    same : (us : List Symbol) → AllByRecursion (λ (u : Symbol). next_byte at u ≡ next_byte at t) us → AllByRecursion (λ (u : Symbol). next_byte at u ≡ next_byte at s) us
    same [] k = tt
    same (u ∷ us) k = (k.0 ∙ h refl, same us k.1)
join-groups false at s t group groups h g gs = (tt, (g, gs))

groups_with-groups : (at : ℕ) (s : Symbol) (groups : List (List Symbol)) → AllByRecursion (IsGroup at) groups → AllByRecursion (IsGroup at) (groups_with at s groups)
groups_with-groups at s groups h = search (rules, join-groups, eqb-true)

are-groups : (at : ℕ) (symbols : List Symbol) → AllByRecursion (IsGroup at) (groups_of at symbols)
are-groups at [] = tt
are-groups at (s ∷ more) = groups_with-groups at s (groups_of at more) (are-groups at more)

-- the symbols of groups
abbrev all-of : List (List Symbol) → List Symbol
all-of [] = []
all-of (group ∷ groups) = group ++ all-of groups

concat-groups_with : (at : ℕ) (s : Symbol) (groups : List (List Symbol)) → all-of (groups_with at s groups) ≡ s ∷ all-of groups
concat-groups_with at = grind arith

concat-groups_of : (at : ℕ) (symbols : List Symbol) → all-of (groups_of at symbols) ≡ symbols
concat-groups_of at [] = refl
concat-groups_of at (s ∷ more) = concat-groups_with at s (groups_of at more) ∙ ap (λ ss. s ∷ ss) (concat-groups_of at more)

-- the path with the next byte
next-path : (path : List ℕ) (s : Symbol) → Under path s → take (length path + 1) s.name ≡ path ++ next_byte (length path) s ∷ []
next-path path s u = search (rules, take-suc)

below-path : (path : List ℕ) (c : ℕ) (s : Symbol) → Under path s → next_byte (length path) s ≡ c → length path + 1 < length s.name → Under (path ++ c ∷ []) s
below-path path c s u e l = grind (arith, common_steps, nat_tests)

take-whole : (n : ℕ) (xs : List ℕ) → length xs ≤ n → take n xs ≡ xs
take-whole zero [] h = refl
take-whole zero (x ∷ xs) h = absurd (omega (arith, h))
take-whole (suc n) [] h = refl
take-whole (suc n) (x ∷ xs) h = ap (λ ys. x ∷ ys) (take-whole n xs (omega (arith, h)))

-- a name after another of its group goes on
goes-on : (path : List ℕ) (s t : Symbol) → Under path s → Under path t → next_byte (length path) t ≡ next_byte (length path) s → Below s.name t.name → length path + 1 < length t.name
goes-on path s t u v e b = elim (cases_lt (length path + 1) (length t.name)) [
  | inl l ↦ l
  | inr l ↦
      let same : take (length path + 1) s.name ≡ t.name = next-path path s u ∙ ap (λ x. path ++ x ∷ []) (sym e) ∙ sym (next-path path t v) ∙ take-whole (length path + 1) t.name l in
      absurd (no-front-after (length path + 1) s.name t.name b same)
]

more-below : (path : List ℕ) (s : Symbol) (more : List Symbol) → Under path s → AreUnder path more →
    AllByRecursion (λ (t : Symbol). next_byte (length path) t ≡ next_byte (length path) s) more → AllByRecursion (λ (t : Symbol). Below s.name t.name) more →
    AreUnder (path ++ next_byte (length path) s ∷ []) more
more-below path s [] u h g b = tt
more-below path s (t ∷ more) u h g b = search (rules, below-path, goes-on, more-below path s more u h.1 g.1 b.1)

abbrev flag : Bool → ℕ
flag true = 1
flag false = 0

-- the byte m of a node that is written
byte-symbol : (g r : Bool) (k : ℕ) → 0 + 0x40 * 0 + 0x20 * flag g + 0x10 * flag r + k ≡ bit 0x20 g + bit 0x10 r + k
byte-symbol g r = grind arith

byte-passed : (r : Bool) → 0 + 0x40 * 0 + 0x20 + 0x10 * flag r ≡ bit 0x20 true + bit 0x10 r
byte-passed r = grind arith

-- what a smaller trie tells
abbrev Holds : ℕ → Type 0
Holds deep = (path : List ℕ) (symbols : List Symbol) → length path + deep ≡ 1024 → AreUnder path symbols → AreInOrder symbols →
    IsSubtrie (flag (has_symbols symbols)) path (trie deep (length path) symbols) symbols

-- the same below a path and one byte
holds-below : (deep : ℕ) → Holds deep → (path : List ℕ) (c : ℕ) (symbols : List Symbol) → length path + suc deep ≡ 1024 → AreUnder (path ++ c ∷ []) symbols → AreInOrder symbols →
    IsSubtrie (flag (has_symbols symbols)) (path ++ c ∷ []) (trie deep (length path + 1) symbols) symbols
holds-below deep holds path c symbols n u o = search (rules, length-append)

byte-below : (name : List ℕ) (n : ℕ) → AreBytes name → n < length name → slice_index_or name n 0 < 256
byte-below [] n h l = absurd (omega (arith, l))
byte-below (b ∷ more) zero h l = h.0
byte-below (b ∷ more) (suc n) h l = byte-below more n h.1 (omega (arith, l))

path-fits : (path : List ℕ) (s : Symbol) → Under path s → length (path ++ next_byte (length path) s ∷ []) ≤ 1024
path-fits path s u = omega (arith, length-append path (next_byte (length path) s ∷ []), u.longer, u.named.most)

node-is_last_byte : (path : List ℕ) (s : Symbol) (more others : List Symbol) (r : Bool) (middle right : List ℕ) → Under path s → length s.name ≤ length path + 1 →
    IsSubtrie (flag (has_symbols more)) (path ++ next_byte (length path) s ∷ []) middle more → IsSubtrie (flag r) path right others →
    IsSubtrie 1 path (((bit 0x20 (has_symbols more) + bit 0x10 r + kind s.value) ∷ next_byte (length path) s ∷ value_bytes s.value ++ serial_bytes s.serial) ++ middle ++ right) ((s ∷ more) ++ others)
node-is_last_byte path s more others r middle right u l m o =
    let c = next_byte (length path) s in
    let built = symbol path (c ∷ []) (c ∷ []) 0 0 (flag (has_symbols more)) (flag r) (kind s.value) s.serial s.value [] (value_bytes s.value) (serial_bytes s.serial) middle right [] more others
    (one_byte c (byte-below s.name (length path) u.named.bytes u.longer)) (path-fits path s u) (spell-value s.value u.named.value) (spell-serial s.serial u.named.serial)
    (none path) m o in
    let named = subst (λ name. IsSubtrie 1 path (((0 + 0x40 * 0 + 0x20 * flag (has_symbols more) + 0x10 * flag r + kind s.value) ∷ c ∷ value_bytes s.value ++ serial_bytes s.serial) ++ middle ++ right)
    ((record { name = name; value = s.value; serial = s.serial } ∷ more) ++ others)) (sym (next-path path s u) ∙ take-whole (length path + 1) s.name l) built in
    subst (λ b. IsSubtrie 1 path ((b ∷ c ∷ value_bytes s.value ++ serial_bytes s.serial) ++ middle ++ right) ((s ∷ more) ++ others)) (byte-symbol (has_symbols more) r (kind s.value)) named

node-passes : (path : List ℕ) (s : Symbol) (more others : List Symbol) (r : Bool) (middle right : List ℕ) → Under path s →
    IsSubtrie 1 (path ++ next_byte (length path) s ∷ []) middle (s ∷ more) → IsSubtrie (flag r) path right others →
    IsSubtrie 1 path (((bit 0x20 true + bit 0x10 r) ∷ next_byte (length path) s ∷ []) ++ middle ++ right) ((s ∷ more) ++ others)
node-passes path s more others r middle right u m o =
    let c = next_byte (length path) s in
    let built = passage path (c ∷ []) (c ∷ []) 0 0 (flag r) [] middle right [] (s ∷ more) others
    (one_byte c (byte-below s.name (length path) u.named.bytes u.longer)) (path-fits path s u) (none path) m o in
    subst (λ b. IsSubtrie 1 path ((b ∷ c ∷ []) ++ middle ++ right) ((s ∷ more) ++ others)) (byte-passed r) built

-- a node: its name is_last_byte here or goes on
node-is : (e : Bool) (deep : ℕ) → Holds deep → (path : List ℕ) (s : Symbol) (more others : List Symbol) (r : Bool) (right : List ℕ) →
    (e ≡ true → length s.name ≤ length path + 1) → (e ≡ false → length path + 1 < length s.name) →
    length path + suc deep ≡ 1024 → AreUnder path (s ∷ more) → IsGroup (length path) (s ∷ more) → AreInOrder (s ∷ more) →
    IsSubtrie (flag r) path right others →
    IsSubtrie 1 path
    (cond e ((bit 0x20 (has_symbols (cond e more (s ∷ more))) + bit 0x10 r + kind s.value) ∷ next_byte (length path) s ∷ value_bytes s.value ++ serial_bytes s.serial)
    ((bit 0x20 (has_symbols (cond e more (s ∷ more))) + bit 0x10 r) ∷ next_byte (length path) s ∷ [])
    ++ trie deep (length path + 1) (cond e more (s ∷ more)) ++ right)
    ((s ∷ more) ++ others)
node-is e deep h1 path s more others r right h2 h3 h4 h5 h6 h7 h8 =
    search (rules, node-is_last_byte, holds-below, more-below, node-passes, below-path)

nodes-are : (deep : ℕ) → Holds deep → (path : List ℕ) (groups : List (List Symbol)) → length path + suc deep ≡ 1024 →
    AllByRecursion (IsGroup (length path)) groups → AreUnder path (all-of groups) → AreInOrder (all-of groups) →
    IsSubtrie (flag (has_symbols groups)) path (nodes (trie deep (length path + 1)) (length path) groups) (all-of groups)
nodes-are deep holds path [] n g u o = none path
nodes-are deep holds path ([] ∷ groups) n g u o = absurd (g.0)
nodes-are deep holds path ((s ∷ more) ∷ groups) n g u o =
    node-is (is_last_byte (length path) s) deep holds path s more (all-of groups) (has_symbols groups) (nodes (trie deep (length path + 1)) (length path) groups)
    (λ h. leb-true (length s.name) ((length path) + 1) h) (λ h. leb-false (length s.name) ((length path) + 1) h) n (all-front (Under path) (s ∷ more) (all-of groups) u) g.0 (order-front (s ∷ more) (all-of groups) o)
    (nodes-are deep holds path groups n g.1 (all-back (Under path) (s ∷ more) (all-of groups) u) (order-back (s ∷ more) (all-of groups) o))

too-deep : (path : List ℕ) (symbols : List Symbol) → length path + zero ≡ 1024 → AreUnder path symbols → symbols ≡ []
too-deep path [] n u = refl
too-deep path (s ∷ more) n u = absurd (omega (arith, n, u.0.longer, u.0.named.most))

holds-all : (deep : ℕ) → Holds deep
unfolding trie
holds-all zero path symbols n u o = rw (too-deep path symbols n u) (none path)
holds-all (suc deep) path symbols n u o =
    let all = concat-groups_of (length path) symbols in
    let found = nodes-are deep (holds-all deep) path (groups_of (length path) symbols) n (are-groups (length path) symbols) (subst (AreUnder path) (sym all) u) (subst AreInOrder (sym all) o) in
    subst (λ b. IsSubtrie (flag b) path (nodes (trie deep (length path + 1)) (length path) (groups_of (length path) symbols)) symbols) (has_symbols-groups_of (length path) symbols)
    (subst (λ ss. IsSubtrie (flag (has_symbols (groups_of (length path) symbols))) path (nodes (trie deep (length path + 1)) (length path) (groups_of (length path) symbols)) ss) all found)

under-none : (symbols : List Symbol) → AllByRecursion IsNamed symbols → AreUnder [] symbols
under-none [] h = tt
under-none (s ∷ more) h = (record { path-first = refl; longer = h.0.least; named = h.0 }, under-none more h.1)

-- zeros alone are a node without a character, with padding after it
zeros-are-trie : (zeros : ℕ) → zeros ≤ 3 → IsTrie (replicate zeros 0) []
zeros-are-trie zero l = empty
zeros-are-trie (suc zeros) l = whole (0 ∷ []) zeros [] (bare [] 0 0 [] [] [] [] (none []) (none [])) (omega (arith, l)) tt

pub written-is-trie : (symbols : List Symbol) (zeros : ℕ) → InByteOrder symbols → AllByRecursion IsNamed symbols → zeros ≤ 3 → IsTrie (trie_of symbols ++ replicate zeros 0) symbols
written-is-trie [] zeros o h few = subst (λ bytes. IsTrie (bytes ++ replicate zeros 0) []) (sym (trie-none 1024 0)) (zeros-are-trie zeros few)
written-is-trie (s ∷ more) zeros o h few =
    let ordered = in-order (s ∷ more) o in
    whole (trie_of (s ∷ more)) zeros (s ∷ more) (holds-all 1024 [] (s ∷ more) refl (under-none (s ∷ more) h) ordered) few (in-order-distinct (s ∷ more) ordered)
