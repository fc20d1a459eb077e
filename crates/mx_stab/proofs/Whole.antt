-- What is in the grammar is read.
use Rattle.std.proofs.Common.{◌≡◌, ℕ, suc, ◌+◌, ◌-◌, ◌*◌, ◌/◌, ◌%◌, ◌^◌, ◌≤◌, ◌<◌, ◌==◌, Bool, true, false, cond, ◌&&◌, ◌||◌, not, List, [], ◌∷◌, ◌++◌, length, replicate, Some, Ok, Err, arith, refl, sym, ap, ◌∙◌, subst, append_assoc, append-nil, length-append, nat_le, nat_lt, rules}
use Rattle.mx_stab.proofs.Words.{and-false, cond-false, lt-leb, lt-ltb, le-ltb, ne_eqb, take_at, drop_at, Symbol, Value, Padding, Wide, wide_number, Reading, Answer, and_then, part_if, is_among, value_size, value_of, serial_after, symbol_with, symbol, has, has_character, is_wide_bare, character_of, character_part, with_character, node_rest, node, next_subtrie, is_padding, symbols_at_end, start, trie_answer, encode_utf8, AreBelow, AreDistinct, IsSubtrie, IsTrie, SpellsCharacter, SpellsValue, SpellsSerial, number_after, number}
use Rattle.mx_stab.specs.Reading as reading
use Rattle.mx_stab.specs.Grammar as grammar
use Rattle.mx_stab.proofs.Distinct.{distinct-front}
use Rattle.mx_stab.proofs.NameSets.{not-among}
use Rattle.mx_stab.proofs.Parts.{next-node}

-- the reading after some bytes with their symbols
abbrev pub reading_after : Reading → List ℕ → List ℕ → List Symbol → Reading
reading_after s bytes more symbols = record { at = s.at + length bytes; rest = more; found = s.found ++ symbols }

-- a part that reads these bytes and tells these symbols, where no name comes twice
abbrev pub Tells : (Reading → Answer) → List ℕ → List Symbol → Type 0
Tells part bytes symbols = (s : Reading) (more : List ℕ) → s.rest ≡ bytes ++ more → AreDistinct (s.found ++ symbols) → part s ≡ Ok (reading_after s bytes more symbols)

abbrev read-to : Reading → Answer
read-to s = Ok s

same-reading : (a b : ℕ) (r t : List ℕ) (f g : List Symbol) → a ≡ b → r ≡ t → f ≡ g → read-to (record { at = a; rest = r; found = f }) ≡ read-to (record { at = b; rest = t; found = g })
same-reading a b r t f g p q h = λ i. Ok (record { at = p i; rest = q i; found = h i })

tells-then : (p q : Reading → Answer) (bs cs : List ℕ) (xs ys : List Symbol) → Tells p bs xs → Tells q cs ys → Tells (λ s. and_then q (p s)) (bs ++ cs) (xs ++ ys)
tells-then p q bs cs xs ys h1 h2 = search (rules, append_assoc, distinct-front, same-reading, length-append)

tells-none : Tells (λ s. Ok s) [] []
tells-none s more e d = same-reading s.at (s.at + 0) s.rest more s.found (s.found ++ []) (omega arith) e (sym (append-nil s.found))

tells-node : (m : ℕ) (path bs : List ℕ) (xs : List Symbol) → is_wide_bare m ≡ false →
    ((node : ℕ) → Tells (λ s. and_then (node_rest next_subtrie node m path) (part_if (has 0x40 m) (next_subtrie path) s)) bs xs) → Tells (next_subtrie path) (m ∷ bs) xs
tells-node m path bs xs l h s more e d =
    let t : Reading = record { at = s.at + 1; rest = bs ++ more; found = s.found } in
    next-node path s.at s.found s.rest ∙ ap (node next_subtrie path s.at s.found) e ∙ cond-false (is_wide_bare m) _ _ l
    ∙ h s.at t more refl d ∙ same-reading _ _ more more _ _ (omega arith) refl refl

-- whether a character takes two bytes, as a bit
is-wide : {wide : ℕ} {name character : List ℕ} → SpellsCharacter wide name character → (wide ≡ 0x80 * (wide / 0x80)) × (wide / 0x80 ≤ 1)
is-wide h1 = search rules

pub character-is : {wide : ℕ} {name character : List ℕ} → SpellsCharacter wide name character → (node m : ℕ) (s : Reading) (more : List ℕ) → m / 0x80 % 2 ≡ wide / 0x80 → s.rest ≡ character ++ more →
    character_of node m s ≡ Ok (record { name = name; following = record { at = s.at + length character; rest = more; found = s.found } })
character-is (grammar.SpellsCharacter.one_byte c small) node m s more w e =
    let narrow : has 0x80 m ≡ false = ap (λ n. n == 1) w in
    cond-false (has 0x80 m) _ _ narrow ∙ ap (reading.one_byte s.at s.found) e
character-is (grammar.SpellsCharacter.two_bytes high low h l good) node m s more w e =
    let wide : has 0x80 m ≡ true = ap (λ n. n == 1) w in
    ap (λ b. cond b (reading.two_bytes node s.at s.found s.rest) (reading.one_byte s.at s.found s.rest)) wide
    ∙ ap (reading.two_bytes node s.at s.found) e
    ∙ ap (λ b. cond b (Ok (record { name = encode_utf8 (wide_number high low); following = record { at = s.at + 2; rest = more; found = s.found } })) (Err (Wide node))) good

tells-character : (wide node m : ℕ) (path name character bs : List ℕ) (xs : List Symbol) → SpellsCharacter wide name character → m / 0x80 % 2 ≡ wide / 0x80 → length (path ++ name) ≤ 1024 →
    Tells (λ s. and_then (part_if (has 0x20 m) (next_subtrie (path ++ name))) (symbol (m % 16) node (path ++ name) s)) bs xs →
    Tells (reading.character next_subtrie node m path) (character ++ bs) xs
tells-character wide node m path name character bs xs hc w l h s more e d =
    let t : Reading = record { at = s.at + length character; rest = bs ++ more; found = s.found } in
    ap (with_character (character_part next_subtrie node m path)) (character-is hc node m s (bs ++ more) w (e ∙ append_assoc character bs more))
    ∙ cond-false (nat_lt 1024 (length (path ++ name))) _ _ (le-ltb 1024 (length (path ++ name)) l)
    ∙ h t more refl d ∙ same-reading _ _ more more _ _ (omega (arith, length-append character bs)) refl refl

-- no symbol
pub tells-no-symbol : (kind node : ℕ) (name : List ℕ) → kind ≡ 0 → Tells (symbol kind node name) [] []
tells-no-symbol kind node name k s more e d = ap (λ n. symbol n node name s) k ∙ tells-none s more e d

-- the digits of a serial number
pub serial-spelt : (x : ℕ) (front : List ℕ) (last : ℕ) (more : List ℕ) → AreBelow 128 front → last < 128 →
    serial_after x (front ++ (last + 128) ∷ more) ≡ Some (number_after 128 x (front ++ last ∷ []), more)
serial-spelt x [] last more h l = search (rules, cond-false, le-ltb)
serial-spelt x (b ∷ front) last more h l = search (rules, lt-ltb, serial-spelt (x * 128 + b) front last more h.1 l)

pub serial-told : (serial : ℕ) (spelt more : List ℕ) → SpellsSerial serial spelt → serial_after 0 (spelt ++ more) ≡ Some (serial, more)
serial-told serial spelt more h1 = search (rules, append_assoc, serial-spelt)

pub serial-fits : (serial : ℕ) (spelt : List ℕ) → SpellsSerial serial spelt → serial < 2 ^ 32
serial-fits _ _ (grammar.SpellsSerial.digits front last h l fits) = fits

-- a value and its kind
record Spelt (kind : ℕ) (value : Value) (bytes : List ℕ) : Type 0 where
  least : 1 ≤ kind
  most : kind < 16
  size : value_size kind ≡ length bytes
  same : value_of kind bytes ≡ value

value-spelt : (kind : ℕ) (value : Value) (bytes : List ℕ) → SpellsValue kind value bytes → Spelt kind value bytes
value-spelt kind value bytes h1 = search rules

-- a whole serial number ends a symbol
symbol_with-is : (node : ℕ) (name : List ℕ) (value : Value) (s : Reading) (serial : ℕ) (more : List ℕ) → serial < 2 ^ 32 → is_among name s.found ≡ false →
    symbol_with node name value s (Some (serial, more)) ≡ Ok (record { at = s.at + (length s.rest - length more); rest = more; found = s.found ++ record { name = name; value = value; serial = serial } ∷ [] })
symbol_with-is node name value s serial more l a = cond-false (nat_le (2 ^ 32) serial) _ _ (lt-leb (2 ^ 32) serial l) ∙ cond-false (is_among name s.found) _ _ a

-- a value that is told, before its serial number
pub symbol-valued : (kind node : ℕ) (name : List ℕ) (value : Value) (told more : List ℕ) (s : Reading) → SpellsValue kind value told → s.rest ≡ told ++ more →
    symbol kind node name s ≡ symbol_with node name value s (serial_after 0 more)
symbol-valued kind node name value told more s h1 h2 =
    search (rules, value-spelt, take_at, drop_at, length-append, cond-false, ne_eqb, le-ltb)

pub tells-symbol : (kind serial node : ℕ) (name : List ℕ) (value : Value) (spelt digits : List ℕ) → SpellsValue kind value spelt → SpellsSerial serial digits →
    Tells (symbol kind node name) (spelt ++ digits) (record { name = name; value = value; serial = serial } ∷ [])
tells-symbol kind serial node name value spelt digits v h s more e d =
    let own : Symbol = record { name = name; value = value; serial = serial } in
    let long : length s.rest ≡ length spelt + length digits + length more = ap length e ∙ length-append (spelt ++ digits) more ∙ ap (λ n. n + length more) (length-append spelt digits) in
    symbol-valued kind node name value spelt (digits ++ more) s v (e ∙ append_assoc spelt digits more)
    ∙ ap (symbol_with node name value s) (serial-told serial digits more h)
    ∙ symbol_with-is node name value s serial more (serial-fits serial digits h) (not-among s.found own [] d)
    ∙ same-reading _ _ more more _ _ (omega (arith, long, length-append spelt digits)) refl refl

-- the bits of a byte m
bits-are : (w l m r kind : ℕ) → w ≤ 1 → l ≤ 1 → m ≤ 1 → r ≤ 1 → kind < 16 → (byte : ℕ) → byte ≡ 0x80 * w + 0x40 * l + 0x20 * m + 0x10 * r + kind →
    (byte / 0x80 % 2 ≡ w) × (byte / 0x40 % 2 ≡ l) × (byte / 0x20 % 2 ≡ m) × (byte / 0x10 % 2 ≡ r) × (byte % 16 ≡ kind)
bits-are w l m r kind f a b c d byte e = (omega arith, omega arith, omega arith, omega arith, omega arith)

flag-fits : {l : ℕ} {path bytes : List ℕ} {symbols : List Symbol} → IsSubtrie l path bytes symbols → l ≤ 1
flag-fits h1 = search rules

-- whether a node has a character, by its kind and its bit for a middle subtrie
abbrev spells : ℕ → ℕ → Bool
spells kind m = not (kind == 0) || m == 1

-- a node from its parts
node-tells : (l r byte : ℕ) (path left inside right : List ℕ) (before own after : List Symbol) → is_wide_bare byte ≡ false → byte / 0x40 % 2 ≡ l → byte / 0x10 % 2 ≡ r →
    Tells (part_if (l == 1) (next_subtrie path)) left before →
    ((node : ℕ) → Tells (part_if (has_character byte) (reading.character next_subtrie node byte path)) inside own) →
    Tells (part_if (r == 1) (next_subtrie path)) right after →
    Tells (next_subtrie path) (byte ∷ (left ++ inside) ++ right) ((before ++ own) ++ after)
node-tells l r byte path left inside right before own after small el er hl hc hr =
    subst (λ bs. Tells (next_subtrie path) (byte ∷ bs) ((before ++ own) ++ after)) (sym (append_assoc left inside right))
    (subst (λ xs. Tells (next_subtrie path) (byte ∷ left ++ (inside ++ right)) xs) (sym (append_assoc before own after))
    (tells-node byte path (left ++ (inside ++ right)) (before ++ (own ++ after)) small (λ node.
    tells-then (part_if (has 0x40 byte) (next_subtrie path)) (node_rest next_subtrie node byte path) left (inside ++ right) before (own ++ after)
    (subst (λ n. Tells (part_if (n == 1) (next_subtrie path)) left before) (sym el) hl)
    (tells-then (part_if (has_character byte) (reading.character next_subtrie node byte path)) (part_if (has 0x10 byte) (next_subtrie path)) inside right own after (hc node)
    (subst (λ n. Tells (part_if (n == 1) (next_subtrie path)) right after) (sym er) hr)))))

tells-bare : (l r : ℕ) (path left right : List ℕ) (before after : List Symbol) → l ≤ 1 → r ≤ 1 →
    Tells (part_if (l == 1) (next_subtrie path)) left before → Tells (part_if (r == 1) (next_subtrie path)) right after →
    Tells (next_subtrie path) ((0x40 * l + 0x10 * r) ∷ left ++ right) (before ++ after)
tells-bare l r path left right before after fl fr hl hr =
    let byte = 0x40 * l + 0x10 * r in
    let bits = bits-are 0 l 0 r 0 (omega arith) fl (omega arith) fr (omega arith) byte (omega arith) in
    let bare : has_character byte ≡ false = ap (λ k. spells k (byte / 0x20 % 2)) bits.4 ∙ ap (spells 0) bits.2 in
    let narrow : is_wide_bare byte ≡ false = ap (λ n. n == 1 && not (has_character byte)) bits.0 in
    let whole = node-tells l r byte path left [] right before [] after narrow bits.1 bits.3 hl
    (λ node. subst (λ b. Tells (part_if b (reading.character next_subtrie node byte path)) [] []) (sym bare) tells-none) hr in
    subst (λ bs. Tells (next_subtrie path) (byte ∷ bs ++ right) (before ++ after)) (append-nil left)
    (subst (λ xs. Tells (next_subtrie path) (byte ∷ (left ++ []) ++ right) (xs ++ after)) (append-nil before) whole)

-- a node with a character
tells-spelled : (wide l m r kind byte : ℕ) (path name character left value middle right : List ℕ) (before own below after : List Symbol) → SpellsCharacter wide name character → l ≤ 1 → m ≤ 1 → r ≤ 1 → kind < 16 →
    spells kind m ≡ true → byte ≡ wide + 0x40 * l + 0x20 * m + 0x10 * r + kind → length (path ++ name) ≤ 1024 →
    Tells (part_if (l == 1) (next_subtrie path)) left before →
    ((node : ℕ) → Tells (symbol kind node (path ++ name)) value own) →
    Tells (part_if (m == 1) (next_subtrie (path ++ name))) middle below →
    Tells (part_if (r == 1) (next_subtrie path)) right after →
    Tells (next_subtrie path) (byte ∷ (left ++ (character ++ (value ++ middle))) ++ right) ((before ++ (own ++ below)) ++ after)
tells-spelled wide l m r kind byte path name character left value middle right before own below after hc fl fm fr fk spelt e short hl hv hm hr =
    let w = is-wide hc in
    let bits = bits-are (wide / 0x80) l m r kind w.1 fl fm fr fk byte (omega (arith, e, w.0)) in
    let character-there : has_character byte ≡ true = ap (λ k. spells k (byte / 0x20 % 2)) bits.4 ∙ ap (spells kind) bits.2 ∙ spelt in
    let not-bare : is_wide_bare byte ≡ false = ap (λ b. has 0x80 byte && not b) character-there ∙ and-false (has 0x80 byte) in
    node-tells l r byte path left (character ++ (value ++ middle)) right before (own ++ below) after not-bare bits.1 bits.3 hl
    (λ node. subst (λ b. Tells (part_if b (reading.character next_subtrie node byte path)) (character ++ (value ++ middle)) (own ++ below)) (sym character-there)
    (tells-character wide node byte path name character (value ++ middle) (own ++ below) hc bits.0 short
    (tells-then (symbol (byte % 16) node (path ++ name)) (part_if (has 0x20 byte) (next_subtrie (path ++ name))) value middle own below
    (subst (λ k. Tells (symbol k node (path ++ name)) value own) (sym bits.4) (hv node))
    (subst (λ n. Tells (part_if (n == 1) (next_subtrie (path ++ name))) middle below) (sym bits.2) hm)))) hr

in-line : (left character told counted middle : List ℕ) → left ++ (character ++ ((told ++ counted) ++ middle)) ≡ left ++ character ++ told ++ counted ++ middle
in-line left character told counted middle = simp append_assoc

pub tells-subtrie : {l : ℕ} {path bytes : List ℕ} {symbols : List Symbol} → IsSubtrie l path bytes symbols → Tells (part_if (l == 1) (next_subtrie path)) bytes symbols
tells-subtrie (grammar.IsSubtrie.none path) = tells-none
tells-subtrie (grammar.IsSubtrie.bare path l r left right before after hl hr) =
    tells-bare l r path left right before after (flag-fits hl) (flag-fits hr) (tells-subtrie hl) (tells-subtrie hr)
tells-subtrie (grammar.IsSubtrie.passage path name character wide l r left middle right before below after hc long hl hm hr) =
    let byte = wide + 0x40 * l + 0x20 + 0x10 * r in
    subst (λ bs. Tells (next_subtrie path) (byte ∷ bs ++ right) (before ++ below ++ after)) (sym (append_assoc left character middle))
    (tells-spelled wide l 1 r 0 byte path name character left [] middle right before [] below after hc (flag-fits hl) (omega arith) (flag-fits hr) (omega arith) refl (omega arith) long
    (tells-subtrie hl) (λ node. tells-no-symbol 0 node (path ++ name) refl) (tells-subtrie hm) (tells-subtrie hr))
tells-subtrie (grammar.IsSubtrie.symbol path name character wide l m r kind serial value left told counted middle right before below after hc long hv hs hl hm hr) =
    let byte = wide + 0x40 * l + 0x20 * m + 0x10 * r + kind in
    let own : Symbol = record { name = path ++ name; value = value; serial = serial } in
    let w = value-spelt kind value told hv in
    subst (λ bs. Tells (next_subtrie path) (byte ∷ bs ++ right) (before ++ own ∷ below ++ after)) (in-line left character told counted middle)
    (tells-spelled wide l m r kind byte path name character left (told ++ counted) middle right before (own ∷ []) below after hc (flag-fits hl) (flag-fits hm) (flag-fits hr) w.most (ap (λ b. not b || m == 1) (ne_eqb kind 0 (omega (arith, w.least)))) refl long
    (tells-subtrie hl) (λ node. tells-symbol kind serial node (path ++ name) value told counted hv hs) (tells-subtrie hm) (tells-subtrie hr))

pub some-bytes : {l : ℕ} {path bytes : List ℕ} {symbols : List Symbol} → IsSubtrie l path bytes symbols → 1 ≤ l → 0 < length bytes
some-bytes h1 h2 = search rules

pub read-some : (bytes : List ℕ) → 0 < length bytes → trie_answer bytes ≡ symbols_at_end (next_subtrie [] (start bytes))
read-some bytes h1 = search rules

pub padding-is : (zeros : ℕ) → zeros ≤ 3 → is_padding (replicate zeros 0) ≡ true
padding-is (suc (suc (suc (suc n)))) h = absurd (omega (arith, h))
padding-is zeros h = refl

-- the symbols of a trie are read
pub trie-read : (bytes : List ℕ) (symbols : List Symbol) → IsTrie bytes symbols → trie_answer bytes ≡ Ok symbols
trie-read _ _ grammar.IsTrie.empty = refl
trie-read _ _ (grammar.IsTrie.whole trie zeros symbols h few distinct) =
    let bytes = trie ++ replicate zeros 0 in
    read-some bytes (omega (arith, length-append trie (replicate zeros 0), some-bytes h (omega arith)))
    ∙ ap symbols_at_end (tells-subtrie h (start bytes) (replicate zeros 0) refl distinct)
    ∙ ap (λ b. cond b (Ok symbols) (Err (Padding (0 + length trie)))) (padding-is zeros few)
