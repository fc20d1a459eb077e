-- What is read is in the grammar.
use Rattle.std.proofs.Common.{◌≡◌, ◌≢◌, ℕ, zero, suc, ◌+◌, ◌-◌, ◌*◌, ◌/◌, ◌%◌, ◌^◌, ◌≤◌, ◌<◌, ◌==◌, Bool, true, false, cond, ◌||◌, not, List, [], ◌∷◌, ◌++◌, length, take, drop, replicate, Option, Some, None, Result, Ok, Err, arith, refl, sym, ap, ◌∙◌, subst, append_assoc, append-nil, length-append, nat_le, nat_lt, slice_index, ◌&&◌, rules}
use Rattle.mx_stab.proofs.Words.{encode_utf8, leb-false, leb-true, ltb-true, ltb-false, eqb-true, eqb-false, and_parts, length-take-le, take-append-drop, AreBytes, Symbol, Value, Pure, Reg, StabFault, Padding, Truncated, Wide, wide_number, is_wide_character, Reading, Answer, Character, and_then, part_if, is_among, value_size, value_of, serial_after, symbol_with, symbol, has, has_character, is_wide_bare, character_of, character_part, with_character, node_rest, node, subtrie, next_subtrie, are_zeros, is_padding, symbols_at_end, start, trie_answer, AreBelow, AreDistinct, IsSubtrie, IsTrie, SpellsCharacter, SpellsValue, SpellsSerial, number_after, number}
use Rattle.mx_stab.specs.Reading as reading
use Rattle.mx_stab.specs.Grammar as grammar
use Rattle.mx_stab.proofs.Distinct.{distinct-push}
use Rattle.mx_stab.proofs.Orders.{all-back, all-front}

-- a reading and a later one, with the bytes and the symbols between them
pub record Between (s t : Reading) (bytes : List ℕ) (symbols : List Symbol) : Type 0 where
  pub split : s.rest ≡ bytes ++ t.rest
  pub place : t.at ≡ s.at + length bytes
  pub grown : t.found ≡ s.found ++ symbols
  pub distinct : AreDistinct s.found → AreDistinct t.found

pub between-both : (s t u : Reading) (bs cs : List ℕ) (xs ys : List Symbol) → Between s t bs xs → Between t u cs ys → Between s u (bs ++ cs) (xs ++ ys)
between-both s t u bs cs xs ys h1 h2 = search (rules, append_assoc, length-append)

pub between-none : (s : Reading) → Between s s [] []
between-none s = record { split = refl; place = omega arith; grown = sym (append-nil s.found); distinct = λ d. d }

-- bytes stay bytes
pub below-rest : (s t : Reading) (bs : List ℕ) (xs : List Symbol) → Between s t bs xs → AreBytes s.rest → AreBytes t.rest
below-rest s t bs xs h b = all-back (λ d. d < 256) bs t.rest (subst (AreBytes) h.split b)

-- what went well
record WentThrough (f : Reading → Answer) (a : Answer) (t : Reading) : Type 0 where
  middle : Reading
  first : a ≡ Ok middle
  second : f middle ≡ Ok t

went-through : (f : Reading → Answer) (a : Answer) (t : Reading) → and_then f a ≡ Ok t → WentThrough f a t
went-through f a t h1 = search rules

not-refused : (b : Bool) (fault : StabFault) (a : Answer) (t : Reading) → cond b (Err fault) a ≡ Ok t → (b ≡ false) × (a ≡ Ok t)
not-refused true fault a t h = absurd (cc)
not-refused false fault a t h = (refl, h)

abbrev read-to : Reading → Answer
read-to s = Ok s

pub same-reading : (s t : Reading) → read-to s ≡ read-to t → s ≡ t
same-reading s t h = cc

abbrev pair-of : ℕ → List ℕ → Option (ℕ × List ℕ)
pair-of a r = Some (a, r)

some-parts : (a b : ℕ) (r t : List ℕ) → pair-of a r ≡ pair-of b t → (a ≡ b) × (r ≡ t)
some-parts a b r t h1 = search rules

-- the digits of a serial number
pub record SerialCut (x serial : ℕ) (bytes more : List ℕ) : Type 0 where
  pub front : List ℕ
  pub last : ℕ
  pub split : bytes ≡ (front ++ (last + 128) ∷ []) ++ more
  pub below : AreBelow 128 front
  pub small : last < 128
  pub same : serial ≡ number_after 128 x (front ++ last ∷ [])

pub serial-cut : (x serial : ℕ) (bytes more : List ℕ) → AreBytes bytes → serial_after x bytes ≡ Some (serial, more) → SerialCut x serial bytes more
serial-cut x serial [] more b h = absurd (cc)
serial-cut x serial (d ∷ bytes) more b h = one (nat_lt d 128) (ltb-true d 128) (ltb-false d 128) h (serial-cut (x * 128 + d) serial bytes more b.1)
  where
    one : (t : Bool) → (t ≡ true → d < 128) → (t ≡ false → 128 ≤ d) → cond t (serial_after (x * 128 + d) bytes) (Some (x * 128 + (d - 128), bytes)) ≡ Some (serial, more) →
        (serial_after (x * 128 + d) bytes ≡ Some (serial, more) → SerialCut (x * 128 + d) serial bytes more) → SerialCut x serial (d ∷ bytes) more
    one true l g h k =
        let c = k h in
        record { front = d ∷ c.front; last = c.last; split = ap (λ r. d ∷ r) c.split; below = (l refl, c.below); small = c.small; same = c.same }
    one false l g h k =
        let big = g refl in
        let low = b.0 in
        let parts = some-parts (x * 128 + (d - 128)) serial bytes more h in
        let number-is : x * 128 + (d - 128) ≡ serial = parts.0 in
        let rest-is : bytes ≡ more = parts.1 in
        let digit : d ≡ d - 128 + 128 = omega (arith, big) in
        record { front = []; last = d - 128; split = ap (λ e. e ∷ bytes) digit ∙ ap (λ r. (d - 128 + 128) ∷ r) rest-is; below = tt; small = omega (arith, low, big); same = sym number-is }

-- a value of a kind
register-spelt : (bytes : List ℕ) → length bytes ≡ 1 → AreBytes bytes → SpellsValue 15 (Reg (slice_index bytes 0)) bytes
register-spelt (k ∷ []) l b = grammar.SpellsValue.register k b.0
register-spelt bytes l b = absurd (omega (arith, l))

pub value-spelt : (kind : ℕ) (bytes : List ℕ) → 1 ≤ kind → kind < 16 → length bytes ≡ value_size kind → AreBytes bytes → SpellsValue kind (value_of kind bytes) bytes
value-spelt kind bytes least most size b = one (kind == 15) (nat_le kind 8) (eqb-true kind 15) (eqb-false kind 15) (leb-true kind 8) (leb-false kind 8) size
  where
    one : (p q : Bool) → (p ≡ true → kind ≡ 15) → (p ≡ false → kind ≢ 15) → (q ≡ true → kind ≤ 8) → (q ≡ false → 8 < kind) →
        length bytes ≡ cond p 1 (cond q kind (kind - 8)) → SpellsValue kind (cond p (Reg (slice_index bytes 0)) (cond q (Pure (number 256 bytes)) (Pure (2 ^ 61 + number 256 bytes)))) bytes
    one true q is not-is few many size = subst (λ k. SpellsValue k (Reg (slice_index bytes 0)) bytes) (sym (is refl)) (register-spelt bytes size b)
    one false true is not-is few many size =
        let small = few refl in
        subst (λ k. SpellsValue k (Pure (number 256 bytes)) bytes) size (grammar.SpellsValue.pure bytes b (omega (arith, size, least)) (omega (arith, size, small)))
    one false false is not-is few many size =
        let large = many refl in
        let other = not-is refl in
        let kind-is : 8 + length bytes ≡ kind = omega (arith, size, large) in
        subst (λ k. SpellsValue k (Pure (2 ^ 61 + number 256 bytes)) bytes) kind-is (grammar.SpellsValue.offset bytes b (omega (arith, size, large)) (omega (arith, size, large, most, other)))

-- a whole serial number that was read
record SymbolWhole (name : List ℕ) (value : Value) (s t : Reading) (r : Option (ℕ × List ℕ)) : Type 0 where
  serial : ℕ
  more : List ℕ
  is : r ≡ Some (serial, more)
  fits : serial < 2 ^ 32
  new : is_among name s.found ≡ false
  rest-is : more ≡ t.rest
  place-is : t.at ≡ s.at + (length s.rest - length more)
  found-is : t.found ≡ s.found ++ record { name = name; value = value; serial = serial } ∷ []

symbol_with-read : (node : ℕ) (name : List ℕ) (value : Value) (s t : Reading) (r : Option (ℕ × List ℕ)) → symbol_with node name value s r ≡ Ok t → SymbolWhole name value s t r
symbol_with-read node name value s t None h = absurd (cc)
symbol_with-read node name value s t (Some (serial, more)) h =
    let one = not-refused (nat_le (2 ^ 32) serial) _ _ t h in
    let two = not-refused (is_among name s.found) _ _ t one.1 in
    let same = same-reading _ t two.1 in
    record { serial = serial; more = more; is = refl; fits = leb-false (2 ^ 32) serial one.0; new = two.0; rest-is = ap (λ u. u.rest) same; place-is = sym (ap (λ u. u.at) same); found-is = sym (ap (λ u. u.found) same) }

-- what ends with a character: no symbol, or one
pub data SymbolRead (kind : ℕ) (name : List ℕ) (s t : Reading) : Type 0 where
  no-symbol : kind ≡ 0 → Between s t [] [] → SymbolRead kind name s t
  one-symbol : (value : Value) (serial : ℕ) (told counted : List ℕ) → SpellsValue kind value told → SpellsSerial serial counted →
      Between s t (told ++ counted) (record { name = name; value = value; serial = serial } ∷ []) → SymbolRead kind name s t

symbol-whole : (kind node : ℕ) (name : List ℕ) (s t : Reading) → kind < 16 → kind ≢ 0 → AreBytes s.rest → value_size kind ≤ length s.rest →
    symbol_with node name (value_of kind (take (value_size kind) s.rest)) s (serial_after 0 (drop (value_size kind) s.rest)) ≡ Ok t → SymbolRead kind name s t
symbol-whole kind node name s t most some b fits h =
    let told = take (value_size kind) s.rest in
    let left = drop (value_size kind) s.rest in
    let value = value_of kind told in
    let both : s.rest ≡ told ++ left = sym (take-append-drop (value_size kind) s.rest) in
    let bytes : AreBytes (told ++ left) = subst (AreBytes) both b in
    let c = symbol_with-read node name value s t (serial_after 0 left) h in
    let cut = serial-cut 0 c.serial left c.more (all-back (λ d. d < 256) told left bytes) c.is in
    let digits = cut.front ++ (cut.last + 128) ∷ [] in
    let long : length told ≡ value_size kind = length-take-le (value_size kind) s.rest fits in
    let split : s.rest ≡ (told ++ digits) ++ t.rest = both ∙ ap (λ r. told ++ r) (cut.split ∙ ap (λ r. digits ++ r) c.rest-is) ∙ sym (append_assoc told digits t.rest) in
    one-symbol value c.serial told digits
    (value-spelt kind told (omega (arith, some)) most long (all-front (λ d. d < 256) told left bytes))
    (subst (λ n. SpellsSerial n digits) (sym cut.same) (grammar.SpellsSerial.digits cut.front cut.last cut.below cut.small (omega (arith, cut.same, c.fits))))
    (record {
      split = split;
      place = omega (arith, c.place-is, ap length c.rest-is, ap length split, length-append (told ++ digits) t.rest);
      grown = c.found-is;
      distinct = λ d. subst AreDistinct (sym c.found-is) (distinct-push s.found (record { name = name; value = value; serial = c.serial }) c.new d);
    })

pub symbol-read : (kind node : ℕ) (name : List ℕ) (s t : Reading) → kind < 16 → AreBytes s.rest → symbol kind node name s ≡ Ok t → SymbolRead kind name s t
symbol-read kind node name s t most b h = one (kind == 0) (eqb-true kind 0) (eqb-false kind 0) h
  where
    one : (p : Bool) → (p ≡ true → kind ≡ 0) → (p ≡ false → kind ≢ 0) →
        cond p (Ok s) (cond (nat_lt (length s.rest) (value_size kind)) (Err (Truncated (s.at + length s.rest))) (symbol_with node name (value_of kind (take (value_size kind) s.rest)) s (serial_after 0 (drop (value_size kind) s.rest)))) ≡ Ok t →
        SymbolRead kind name s t
    one true is other h = no-symbol (is refl) (subst (λ u. Between s u [] []) (same-reading s t h) (between-none s))
    one false is other h =
        let two = not-refused (nat_lt (length s.rest) (value_size kind)) _ _ t h in
        symbol-whole kind node name s t most (other refl) b (ltb-false (length s.rest) (value_size kind) two.0) two.1

abbrev pub flag : Bool → ℕ
flag true = 1
flag false = 0

pub flag-is : (x : ℕ) → x < 2 → flag (x == 1) ≡ x
flag-is x h1 = search rules

-- the byte m from its bits
byte-is : (m : ℕ) → m < 256 → m ≡ 0x80 * flag (has 0x80 m) + 0x40 * flag (has 0x40 m) + 0x20 * flag (has 0x20 m) + 0x10 * flag (has 0x10 m) + m % 16
byte-is m h1 = search rules

-- a subtrie that was read
pub record Tells (l : ℕ) (path : List ℕ) (s t : Reading) : Type 0 where
  pub bytes : List ℕ
  pub symbols : List Symbol
  pub between : Between s t bytes symbols
  pub is : IsSubtrie l path bytes symbols

abbrev pub Sounds : (List ℕ → Reading → Answer) → Type 0
Sounds inner = (path : List ℕ) (s t : Reading) → AreBytes s.rest → inner path s ≡ Ok t → Tells 1 path s t

pub sounds-if : (b : Bool) (inner : List ℕ → Reading → Answer) → Sounds inner → (path : List ℕ) (s t : Reading) → AreBytes s.rest → part_if b (inner path) s ≡ Ok t → Tells (flag b) path s t
sounds-if true inner h path s t b e = h path s t b e
sounds-if false inner h path s t b e = record { bytes = []; symbols = []; between = subst (λ u. Between s u [] []) (same-reading s t e) (between-none s); is = grammar.IsSubtrie.none path }

-- a character that was read
pub record CharacterRead (wide : ℕ) (s : Reading) (c : Character) : Type 0 where
  pub bytes : List ℕ
  pub is : SpellsCharacter wide c.name bytes
  pub between : Between s c.following bytes []

one_byte-read : (at : ℕ) (found : List Symbol) (bytes : List ℕ) (c : Character) → AreBytes bytes → reading.one_byte at found bytes ≡ Ok c → CharacterRead 0 (record { at = at; rest = bytes; found = found }) c
one_byte-read at found [] c b e = absurd (cc)
one_byte-read at found (d ∷ rest) c b e =
    let own : Character = record { name = d ∷ []; following = record { at = at + 1; rest = rest; found = found } } in
    let same : own ≡ c = cc in
    subst (CharacterRead 0 (record { at = at; rest = d ∷ rest; found = found })) same
    (record { bytes = d ∷ []; is = grammar.SpellsCharacter.one_byte d b.0; between = record { split = refl; place = refl; grown = sym (append-nil found); distinct = λ d. d } })

two_bytes-read : (node at : ℕ) (found : List Symbol) (bytes : List ℕ) (c : Character) → AreBytes bytes → reading.two_bytes node at found bytes ≡ Ok c → CharacterRead 0x80 (record { at = at; rest = bytes; found = found }) c
two_bytes-read node at found (high ∷ low ∷ rest) c b e = one (is_wide_character (wide_number high low)) refl e
  where
    own : Character
    own = record { name = encode_utf8 (wide_number high low); following = record { at = at + 2; rest = rest; found = found } }

    one : (p : Bool) → is_wide_character (wide_number high low) ≡ p → cond p (Ok own) (Err (Wide node)) ≡ Ok c → CharacterRead 0x80 (record { at = at; rest = high ∷ low ∷ rest; found = found }) c
    one false is e = absurd (cc)
    one true is e =
        let same : own ≡ c = cc in
        subst (CharacterRead 0x80 (record { at = at; rest = high ∷ low ∷ rest; found = found })) same
        (record { bytes = high ∷ low ∷ []; is = grammar.SpellsCharacter.two_bytes high low b.0 b.1.0 is; between = record { split = refl; place = refl; grown = sym (append-nil found); distinct = λ d. d } })
two_bytes-read node at found bytes c b e = absurd (cc)

pub character_of-read : (node m : ℕ) (s : Reading) (c : Character) → AreBytes s.rest → character_of node m s ≡ Ok c → CharacterRead (0x80 * flag (has 0x80 m)) s c
character_of-read node m s c b e = one (has 0x80 m) e
  where
    one : (p : Bool) → cond p (reading.two_bytes node s.at s.found s.rest) (reading.one_byte s.at s.found s.rest) ≡ Ok c → CharacterRead (0x80 * flag p) s c
    one true e = two_bytes-read node s.at s.found s.rest c b e
    one false e = one_byte-read s.at s.found s.rest c b e

-- what was read with a character
pub data NameRead (m : ℕ) (path : List ℕ) (s t : Reading) : Type 0 where
  no-name : (name character middle : List ℕ) (below : List Symbol) → SpellsCharacter (0x80 * flag (has 0x80 m)) name character → length (path ++ name) ≤ 1024 → m % 16 ≡ 0 →
      IsSubtrie (flag (has 0x20 m)) (path ++ name) middle below → Between s t (character ++ middle) below → NameRead m path s t
  a-name : (name character : List ℕ) (value : Value) (serial : ℕ) (told counted middle : List ℕ) (below : List Symbol) → SpellsCharacter (0x80 * flag (has 0x80 m)) name character → length (path ++ name) ≤ 1024 →
      SpellsValue (m % 16) value told → SpellsSerial serial counted →
      IsSubtrie (flag (has 0x20 m)) (path ++ name) middle below →
      Between s t (character ++ ((told ++ counted) ++ middle)) (record { name = path ++ name; value = value; serial = serial } ∷ below) → NameRead m path s t

pub one-byte : (at c : ℕ) (rest : List ℕ) (found : List Symbol) → Between (record { at = at; rest = c ∷ rest; found = found }) (record { at = at + 1; rest = rest; found = found }) (c ∷ []) []
one-byte at c rest found = record { split = refl; place = refl; grown = sym (append-nil found); distinct = λ d. d }

below-name : (m : ℕ) (path : List ℕ) (s t : Reading) → NameRead m path s t → AreBytes s.rest → AreBytes t.rest
below-name m path s t h1 h2 = search (rules, below-rest)

symbol-then : (inner : List ℕ → Reading → Answer) → Sounds inner → (m : ℕ) (path : List ℕ) (s : Reading) (c : Character) (u t : Reading) → CharacterRead (0x80 * flag (has 0x80 m)) s c → length (path ++ c.name) ≤ 1024 → AreBytes c.following.rest →
    SymbolRead (m % 16) (path ++ c.name) c.following u → part_if (has 0x20 m) (inner (path ++ c.name)) u ≡ Ok t → NameRead m path s t
symbol-then inner h m path s c u t spelt short b (no-symbol none k) e =
    let w = sounds-if (has 0x20 m) inner h (path ++ c.name) u t (below-rest _ u [] [] k b) e in
    no-name c.name spelt.bytes w.bytes w.symbols spelt.is short none w.is
    (between-both _ _ t spelt.bytes w.bytes [] w.symbols spelt.between (between-both _ u t [] w.bytes [] w.symbols k w.between))
symbol-then inner h m path s c u t spelt short b (one-symbol value serial told counted hv hs k) e =
    let own : Symbol = record { name = path ++ c.name; value = value; serial = serial } in
    let w = sounds-if (has 0x20 m) inner h (path ++ c.name) u t (below-rest _ u (told ++ counted) (own ∷ []) k b) e in
    a-name c.name spelt.bytes value serial told counted w.bytes w.symbols spelt.is short hv hs w.is
    (between-both _ _ t spelt.bytes ((told ++ counted) ++ w.bytes) [] (own ∷ w.symbols) spelt.between (between-both _ u t (told ++ counted) w.bytes (own ∷ []) w.symbols k w.between))

character_part-read : (inner : List ℕ → Reading → Answer) → Sounds inner → (place m : ℕ) (path : List ℕ) (s : Reading) (c : Result Character StabFault) (t : Reading) → AreBytes s.rest →
    ((d : Character) → c ≡ Ok d → CharacterRead (0x80 * flag (has 0x80 m)) s d) → with_character (character_part inner place m path) c ≡ Ok t → NameRead m path s t
character_part-read inner h place m path s (Err fault) t b r e = absurd (cc)
character_part-read inner h place m path s (Ok c) t b r e =
    let k = r c refl in
    let b1 = below-rest s c.following k.bytes [] k.between b in
    let short = not-refused (nat_lt 1024 (length (path ++ c.name))) _ _ t e in
    let w = went-through (part_if (has 0x20 m) (inner (path ++ c.name))) (symbol (m % 16) place (path ++ c.name) c.following) t short.1 in
    symbol-then inner h m path s c w.middle t k (ltb-false 1024 (length (path ++ c.name)) short.0) b1
    (symbol-read (m % 16) place (path ++ c.name) c.following w.middle (omega arith) b1 w.first) w.second

pub character-read : (inner : List ℕ → Reading → Answer) → Sounds inner → (place m : ℕ) (path : List ℕ) (s t : Reading) → AreBytes s.rest → reading.character inner place m path s ≡ Ok t → NameRead m path s t
character-read inner h place m path s t b e = character_part-read inner h place m path s (character_of place m s) t b (λ d is. character_of-read place m s d b is) e

-- whether a node has a character, by its kind and its bit for a middle subtrie
abbrev spells : ℕ → ℕ → Bool
spells kind m = not (kind == 0) || m == 1

not-spelt : (kind m : ℕ) → spells kind m ≡ false → (kind ≡ 0) × (m ≢ 1)
not-spelt kind m h1 = search rules

has-middle : (kind m : ℕ) → spells kind m ≡ true → kind ≡ 0 → flag (m == 1) ≡ 1
has-middle kind m h1 h2 = cc

-- a node from its parts
bare-tells : (m : ℕ) (path : List ℕ) (at : ℕ) (rest : List ℕ) (found : List Symbol) (u v t : Reading) → m < 256 → has 0x80 m ≡ false → spells (m % 16) (m / 0x20 % 2) ≡ false →
    Tells (flag (has 0x40 m)) path (record { at = at + 1; rest = rest; found = found }) u → u ≡ v → Tells (flag (has 0x10 m)) path v t →
    Tells 1 path (record { at = at; rest = m ∷ rest; found = found }) t
bare-tells m path at rest found u v t small narrow none left same right =
    let p = not-spelt (m % 16) (m / 0x20 % 2) none in
    let l = flag-is (m / 0x40 % 2) (omega arith) in
    let r = flag-is (m / 0x10 % 2) (omega arith) in
    let w : m / 0x80 % 2 ≢ 1 = eqb-false (m / 0x80 % 2) 1 narrow in
    let byte : 0x40 * flag (has 0x40 m) + 0x10 * flag (has 0x10 m) ≡ m = omega (arith, l, r, p.0, p.1, small, w) in
    record {
      bytes = m ∷ left.bytes ++ right.bytes;
      symbols = left.symbols ++ right.symbols;
      between = between-both _ _ t (m ∷ []) (left.bytes ++ right.bytes) [] (left.symbols ++ right.symbols) (one-byte at m rest found)
          (between-both _ u t left.bytes right.bytes left.symbols right.symbols left.between (subst (λ w. Between w t right.bytes right.symbols) (sym same) right.between));
      is = subst (λ b. IsSubtrie 1 path (b ∷ left.bytes ++ right.bytes) (left.symbols ++ right.symbols)) byte
          (grammar.IsSubtrie.bare path (flag (has 0x40 m)) (flag (has 0x10 m)) left.bytes right.bytes left.symbols right.symbols left.is right.is);
    }

in-line : (left character told counted middle : List ℕ) → left ++ character ++ told ++ counted ++ middle ≡ left ++ (character ++ ((told ++ counted) ++ middle))
in-line left character told counted middle = simp append_assoc

spelled-tells : (m : ℕ) (path : List ℕ) (at : ℕ) (rest : List ℕ) (found : List Symbol) (u v t : Reading) → m < 256 → spells (m % 16) (m / 0x20 % 2) ≡ true →
    Tells (flag (has 0x40 m)) path (record { at = at + 1; rest = rest; found = found }) u → NameRead m path u v → Tells (flag (has 0x10 m)) path v t →
    Tells 1 path (record { at = at; rest = m ∷ rest; found = found }) t
spelled-tells m path at rest found u v t small some left (no-name name character middle below spelt fits none hm k) right =
    let w = 0x80 * flag (has 0x80 m) in
    let l = flag (has 0x40 m) in
    let r = flag (has 0x10 m) in
    let there : flag (has 0x20 m) ≡ 1 = has-middle (m % 16) (m / 0x20 % 2) some none in
    let whole : w + 0x40 * l + 0x20 + 0x10 * r ≡ m = omega (arith, byte-is m small, there, none) in
    record {
      bytes = m ∷ (left.bytes ++ (character ++ middle)) ++ right.bytes;
      symbols = (left.symbols ++ below) ++ right.symbols;
      between = between-both _ _ t (m ∷ []) ((left.bytes ++ (character ++ middle)) ++ right.bytes) [] ((left.symbols ++ below) ++ right.symbols) (one-byte at m rest found)
          (between-both _ v t (left.bytes ++ (character ++ middle)) right.bytes (left.symbols ++ below) right.symbols (between-both _ u v left.bytes (character ++ middle) left.symbols below left.between k) right.between);
      is = subst (λ b. IsSubtrie 1 path (b ∷ (left.bytes ++ (character ++ middle)) ++ right.bytes) ((left.symbols ++ below) ++ right.symbols)) whole
          (subst (λ bs. IsSubtrie 1 path ((w + 0x40 * l + 0x20 + 0x10 * r) ∷ bs ++ right.bytes) ((left.symbols ++ below) ++ right.symbols)) (append_assoc left.bytes character middle)
          (grammar.IsSubtrie.passage path name character w l r left.bytes middle right.bytes left.symbols below right.symbols spelt fits left.is
          (subst (λ n. IsSubtrie n (path ++ name) middle below) there hm) right.is));
    }
spelled-tells m path at rest found u v t small some left (a-name name character value serial told counted middle below spelt fits hv hs hm k) right =
    let w = 0x80 * flag (has 0x80 m) in
    let l = flag (has 0x40 m) in
    let r = flag (has 0x10 m) in
    let n = flag (has 0x20 m) in
    let own : Symbol = record { name = path ++ name; value = value; serial = serial } in
    let inside = character ++ ((told ++ counted) ++ middle) in
    record {
      bytes = m ∷ (left.bytes ++ inside) ++ right.bytes;
      symbols = (left.symbols ++ own ∷ below) ++ right.symbols;
      between = between-both _ _ t (m ∷ []) ((left.bytes ++ inside) ++ right.bytes) [] ((left.symbols ++ own ∷ below) ++ right.symbols) (one-byte at m rest found)
          (between-both _ v t (left.bytes ++ inside) right.bytes (left.symbols ++ own ∷ below) right.symbols (between-both _ u v left.bytes inside left.symbols (own ∷ below) left.between k) right.between);
      is = subst (λ b. IsSubtrie 1 path (b ∷ (left.bytes ++ inside) ++ right.bytes) ((left.symbols ++ own ∷ below) ++ right.symbols)) (sym (byte-is m small))
          (subst (λ bs. IsSubtrie 1 path ((w + 0x40 * l + 0x20 * n + 0x10 * r + m % 16) ∷ bs ++ right.bytes) ((left.symbols ++ own ∷ below) ++ right.symbols)) (in-line left.bytes character told counted middle)
          (grammar.IsSubtrie.symbol path name character w l n r (m % 16) serial value left.bytes told counted middle right.bytes left.symbols below right.symbols spelt fits hv hs left.is hm right.is));
    }

-- a node without a character is not marked as one with a character of two bytes
narrow-bare : (b : Bool) (m : ℕ) → has_character m ≡ false → (b && not (has_character m)) ≡ false → b ≡ false
narrow-bare b m h1 h2 = search rules

node-sounds : (inner : List ℕ → Reading → Answer) → Sounds inner → (path : List ℕ) (at : ℕ) (found : List Symbol) (bytes : List ℕ) (t : Reading) → AreBytes bytes → node inner path at found bytes ≡ Ok t →
    Tells 1 path (record { at = at; rest = bytes; found = found }) t
node-sounds inner h path at found [] t b e = absurd (cc)
node-sounds inner h path at found (m ∷ rest) t b e =
    let s : Reading = record { at = at + 1; rest = rest; found = found } in
    let known = not-refused (is_wide_bare m) _ _ t e in
    let first = went-through (node_rest inner at m path) _ t known.1 in
    let last = went-through (part_if (has 0x10 m) (inner path)) _ t first.second in
    let left = sounds-if (has 0x40 m) inner h path s first.middle b.1 first.first in
    let b1 = below-rest s first.middle left.bytes left.symbols left.between b.1 in
    one (has_character m) refl s first.middle last.middle b.0 (λ e. narrow-bare (has 0x80 m) m e known.0) left b1 last.first (λ b2. sounds-if (has 0x10 m) inner h path last.middle t b2 last.second)
  where
    one : (p : Bool) → has_character m ≡ p → (s u v : Reading) → m < 256 → (has_character m ≡ false → has 0x80 m ≡ false) →
        Tells (flag (has 0x40 m)) path (record { at = at + 1; rest = rest; found = found }) u → AreBytes u.rest →
        part_if p (reading.character inner at m path) u ≡ Ok v → (AreBytes v.rest → Tells (flag (has 0x10 m)) path v t) → Tells 1 path (record { at = at; rest = m ∷ rest; found = found }) t
    one false is s u v l narrow left b1 e right =
        let same = same-reading u v e in
        bare-tells m path at rest found u v t l (narrow is) is left same (right (subst (λ (w : Reading). AreBytes w.rest) same b1))
    one true is s u v l narrow left b1 e right =
        let k = character-read inner h at m path u v b1 e in
        spelled-tells m path at rest found u v t l is left k (right (below-name m path u v k b1))

pub subtrie-sounds : (nodes : ℕ) → Sounds (subtrie nodes)
unfolding subtrie
subtrie-sounds zero path s t b e = absurd (cc)
subtrie-sounds (suc nodes) path s t b e = node-sounds (subtrie nodes) (subtrie-sounds nodes) path s.at s.found s.rest t b e

-- zeros after a trie
zeros-are : (bytes : List ℕ) → are_zeros bytes ≡ true → bytes ≡ replicate (length bytes) 0
zeros-are [] h = refl
zeros-are (b ∷ more) h =
    let parts = and_parts (b == 0) (are_zeros more) h in
    ap (λ d. d ∷ more) (eqb-true b 0 parts.0) ∙ ap (λ r. 0 ∷ r) (zeros-are more parts.1)

pub padding-zeros : (rest : List ℕ) → is_padding rest ≡ true → (length rest ≤ 3) × (rest ≡ replicate (length rest) 0)
padding-zeros rest h1 = search (rules, and_parts, leb-true, zeros-are)

-- a trie that was read to its end
record Ended (a : Answer) (symbols : List Symbol) : Type 0 where
  last : Reading
  is : a ≡ Ok last
  padding : is_padding last.rest ≡ true
  found-is : last.found ≡ symbols

ended-well : (a : Answer) (symbols : List Symbol) → symbols_at_end a ≡ Ok symbols → Ended a symbols
ended-well (Err fault) symbols h = absurd (cc)
ended-well (Ok t) symbols h = one (is_padding t.rest) refl h
  where
    one : (p : Bool) → is_padding t.rest ≡ p → cond p (Ok t.found) (Err (Padding t.at)) ≡ Ok symbols → Ended (Ok t) symbols
    one true e h = record { last = t; is = refl; padding = e; found-is = cc }
    one false e h = absurd (cc)

-- the trie after which only zeros are left
trie-whole : (bytes : List ℕ) (symbols : List Symbol) (t : Reading) → Tells 1 [] (start bytes) t → is_padding t.rest ≡ true → t.found ≡ symbols → IsTrie bytes symbols
trie-whole bytes symbols t w p f =
    let parts = padding-zeros t.rest p in
    let symbols-are : w.symbols ≡ symbols = sym w.between.grown ∙ f in
    subst (λ bs. IsTrie bs symbols) (ap (λ r. w.bytes ++ r) (sym parts.1) ∙ sym w.between.split)
    (grammar.IsTrie.whole w.bytes (length t.rest) symbols (subst (IsSubtrie 1 [] w.bytes) symbols-are w.is) parts.0
    (subst AreDistinct f (w.between.distinct tt)))

-- what is read of bytes is in the grammar
pub read-trie : (bytes : List ℕ) (symbols : List Symbol) → AreBytes bytes → trie_answer bytes ≡ Ok symbols → IsTrie bytes symbols
read-trie [] symbols b h =
    let none : [] ≡ symbols = cc in
    subst (IsTrie []) none grammar.IsTrie.empty
read-trie (d ∷ more) symbols b h =
    let f = ended-well (next_subtrie [] (start (d ∷ more))) symbols h in
    trie-whole (d ∷ more) symbols f.last (subtrie-sounds (length (d ∷ more)) [] (start (d ∷ more)) f.last b f.is) f.padding f.found-is
