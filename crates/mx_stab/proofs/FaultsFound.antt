-- The fault that is read is in the table.
use Rattle.std.proofs.Common.{◌≡◌, ◌≢◌, ℕ, zero, suc, ◌+◌, ◌-◌, ◌*◌, ◌^◌, ◌≤◌, ◌<◌, ◌==◌, ◌%◌, ◌/◌, Bool, true, false, cond, ◌||◌, List, [], ◌∷◌, ◌++◌, length, take, drop, Option, Some, None, Ok, Err, Result, arith, refl, sym, ap, ◌∙◌, subst, length-append, append_assoc, append-nil, nat_le, nat_lt, bytes_eq}
use Rattle.mx_stab.proofs.Words.{encode_utf8, cond_both, eqb-true, eqb-false, leb-true, leb-false, ltb-true, ltb-false, length-take-le, take-append-drop, bytes_eq-Decides, AreBytes, Symbol, Value, StabFault, Truncated, Padding, Wide, Twice, TooLong, BadSerial, wide_number, is_wide_character, CountsTooFar, EndsWithin, FaultOf, HasCharacter, IsDue, IsTooDeep, IsWideBare, LacksWide, NamesAgain, UpToCharacter, UpToLeft, UpToSymbol, AreBelow, AreDistinct, IsSubtrie, SpellsCharacter, SpellsSerial, SpellsValue, Reading, Answer, Character, and_then, part_if, is_among, value_size, value_of, serial_after, symbol_with, symbol, has, has_character, is_wide_bare, character_of, character_part, with_character, node_rest, node, subtrie, next_subtrie, is_padding, symbols_at_end, start, trie_answer, nat_tests}
use Rattle.mx_stab.specs.FaultTable as table
use Rattle.mx_stab.specs.Reading as reading
use Rattle.mx_stab.proofs.Distinct.{distinct-front}
use Rattle.mx_stab.proofs.NodeParts.{has-none, has-one, is-bare, is-no-bare}
use Rattle.mx_stab.proofs.Orders.{all-back, all-front}
use Rattle.mx_stab.proofs.Sound.{Between, CharacterRead, NameRead, Sounds, SymbolRead, Tells, below-rest, character-read, character_of-read, flag, flag-is, serial-cut, sounds-if, subtrie-sounds, symbol-read, value-spelt}
use Rattle.mx_stab.proofs.Whole.{padding-is}

abbrev refused : StabFault → Result (List Symbol) StabFault
refused fault = Err fault

-- a fault that the table has
abbrev InTable : List ℕ → Answer → Type 0
InTable bytes (Ok s) = Unit {0}
InTable bytes (Err fault) = FaultOf bytes fault

table-then : (bytes : List ℕ) (part : Reading → Answer) (a : Answer) → InTable bytes a → ((u : Reading) → a ≡ Ok u → InTable bytes (part u)) → InTable bytes (and_then part a)
table-then bytes part a h1 h2 = grind arith

table-if : (bytes : List ℕ) (b : Bool) (part : Reading → Answer) (s : Reading) → (b ≡ true → InTable bytes (part s)) → InTable bytes (part_if b part s)
table-if bytes b part s h = grind arith

table-cond : (bytes : List ℕ) (b : Bool) (fault : StabFault) (a : Answer) → (b ≡ true → FaultOf bytes fault) → (b ≡ false → InTable bytes a) → InTable bytes (cond b (Err fault) a)
table-cond bytes b fault a h1 h2 = grind arith

-- a reading after these first bytes
record IsAfter (bytes : List ℕ) (k : ℕ) (front : List ℕ) (s : Reading) : Type 0 where
  split : bytes ≡ front ++ s.rest
  place : s.at ≡ length front
  are : AreBytes s.rest
  distinct : AreDistinct s.found
  few : length s.rest ≤ k

abbrev Finds : List ℕ → ℕ → (List ℕ → Reading → Answer) → Type 0
Finds bytes k inner = (front path : List ℕ) (s : Reading) → IsAfter bytes k front s → IsDue front path s.found → InTable bytes (inner path s)

after-part : (bytes : List ℕ) (k : ℕ) (front part : List ℕ) (s u : Reading) (symbols : List Symbol) → IsAfter bytes k front s → Between s u part symbols → IsAfter bytes k (front ++ part) u
after-part bytes k front part s u symbols h b = record {
  split = h.split ∙ ap (λ r. front ++ r) b.split ∙ sym (append_assoc front part u.rest);
  place = omega (arith, h.place, b.place, length-append front part);
  are = below-rest s u part symbols b h.are;
  distinct = b.distinct h.distinct;
  few = omega (arith, h.few, ap length b.split, length-append part u.rest);
}

-- a node that is due, with its byte m, and a reading after a part of it
record InNode (bytes : List ℕ) (k : ℕ) (front path : List ℕ) (before : List Symbol) (at : ℕ) (part : List ℕ) (s : Reading) : Type 0 where
  due : IsDue front path before
  node-place : at ≡ length front
  following : IsAfter bytes k (front ++ part) s

node-split : (bytes : List ℕ) (k : ℕ) (front path : List ℕ) (before : List Symbol) (at : ℕ) (part : List ℕ) (s : Reading) → InNode bytes k front path before at part s → bytes ≡ front ++ (part ++ s.rest)
node-split bytes k front path before at part s n = n.following.split ∙ append_assoc front part s.rest

end-is : (bytes : List ℕ) (k : ℕ) (front : List ℕ) (s : Reading) → IsAfter bytes k front s → s.at + length s.rest ≡ length bytes
end-is bytes k front s h = omega (arith, h.place, ap length h.split, length-append front s.rest)

further : (bytes : List ℕ) (k : ℕ) (front path : List ℕ) (before : List Symbol) (at : ℕ) (part more : List ℕ) (s u : Reading) (symbols : List Symbol) → InNode bytes k front path before at part s → Between s u more symbols →
    InNode bytes k front path before at (part ++ more) u
further bytes k front path before at part more s u symbols n b = record {
  due = n.due;
  node-place = n.node-place;
  following = subst (λ f. IsAfter bytes k f u) (append_assoc front part more) (after-part bytes k (front ++ part) more s u symbols n.following b);
}

-- the rows of the table for the node
cut : (bytes front path rest : List ℕ) (before : List Symbol) (n : ℕ) → bytes ≡ front ++ rest → IsDue front path before → EndsWithin path before rest → 0 < length bytes → n ≡ length bytes → FaultOf bytes (Truncated n)
cut bytes front path rest before n e h k some p =
    let all = FaultOf.cut_off front path rest before h k (omega (arith, some, ap length e)) in
    subst (λ n. FaultOf bytes (Truncated n)) (sym p) (subst (λ b. FaultOf b (Truncated (length b))) (sym e) all)

placed : (kind : ℕ → StabFault) (bytes front rest : List ℕ) (at : ℕ) → bytes ≡ front ++ rest → at ≡ length front → FaultOf (front ++ rest) (kind (length front)) → FaultOf bytes (kind at)
placed kind bytes front rest at e p h = subst (λ b. FaultOf b (kind at)) (sym e) (subst (λ n. FaultOf (front ++ rest) (kind n)) (sym p) h)

-- the serial number of a node
no-end : (x : ℕ) (bytes : List ℕ) → serial_after x bytes ≡ None → AreBelow 128 bytes
no-end x [] h = tt
no-end x (b ∷ more) h = grind (arith, nat_tests, no-end (x * 128 + b) more)

record Earlier (name : List ℕ) (found : List Symbol) : Type 0 where
  earlier : List Symbol
  s : Symbol
  later : List Symbol
  all : found ≡ earlier ++ s ∷ later
  same : s.name ≡ name

came-before : (name : List ℕ) (found : List Symbol) → is_among name found ≡ true → Earlier name found
came-before name [] h = absurd (cc)
came-before name (s ∷ more) h = one (bytes_eq name s.name) (bytes_eq-Decides name s.name).0 h (came-before name more)
  where
    one : (b : Bool) → (b ≡ true → name ≡ s.name) → (b || is_among name more) ≡ true → (is_among name more ≡ true → Earlier name more) → Earlier name (s ∷ more)
    one true e h k = record { earlier = []; s = s; later = more; all = refl; same = sym (e refl) }
    one false e h k = let r = k h in record { earlier = s ∷ r.earlier; s = r.s; later = r.later; all = ap (λ ss. s ∷ ss) r.all; same = r.same }

in-line : (node told digits : List ℕ) (last : ℕ) (more : List ℕ) → node ++ (told ++ ((digits ++ last ∷ []) ++ more)) ≡ node ++ told ++ digits ++ last ∷ more
in-line node told digits last more = simp append_assoc

again : (path : List ℕ) (before : List Symbol) (m : ℕ) (node name : List ℕ) (found : List Symbol) (value : Value) (serial : ℕ) (told counted rest : List ℕ) → UpToCharacter path before m node name found →
    SpellsValue (m % 16) value told → SpellsSerial serial counted → is_among name found ≡ true → NamesAgain path before (node ++ told ++ counted ++ rest)
again path before m node name found value serial told counted rest h hv hs e =
    let r = came-before name found e in
    NamesAgain.name_is m node r.earlier r.s r.later value serial told counted rest
    (subst (λ n. UpToCharacter path before m node n (r.earlier ++ r.s ∷ r.later)) (sym r.same) (subst (λ f. UpToCharacter path before m node name f) r.all h)) hv hs

serial-found : (bytes : List ℕ) (k : ℕ) (front path : List ℕ) (before : List Symbol) (at m : ℕ) (node name : List ℕ) (s : Reading) (value : Value) (told left : List ℕ) (r : Option (ℕ × List ℕ)) → 0 < length bytes →
    InNode bytes k front path before at node s → UpToCharacter path before m node name s.found → SpellsValue (m % 16) value told → s.rest ≡ told ++ left → AreBytes left → serial_after 0 left ≡ r →
    InTable bytes (symbol_with at name value s r)
serial-found bytes k front path before at m node name s value told left None some n h hv e b is =
    let whole = node-split bytes k front path before at node s n ∙ ap (λ r. front ++ (node ++ r)) e ∙ ap (λ r. front ++ r) (sym (append_assoc node told left)) in
    cut bytes front path (node ++ told ++ left) before (s.at + length s.rest) whole n.due
    (EndsWithin.at_serial m node name s.found value told left h hv (no-end 0 left is)) some (end-is bytes k (front ++ node) s n.following)
serial-found bytes k front path before at m node name s value told left (Some (serial, more)) some n h hv e b is =
    let c = serial-cut 0 serial left more b is in
    let rest = node ++ told ++ c.front ++ (c.last + 128) ∷ more in
    let whole : bytes ≡ front ++ rest = node-split bytes k front path before at node s n ∙ ap (λ r. front ++ (node ++ r)) (e ∙ ap (λ r. told ++ r) c.split) ∙ ap (λ r. front ++ r) (in-line node told c.front (c.last + 128) more) in
    let digits = c.front ++ (c.last + 128) ∷ [] in
    let whole2 : bytes ≡ front ++ (node ++ told ++ digits ++ more) =
    node-split bytes k front path before at node s n ∙ ap (λ r. front ++ (node ++ r)) (e ∙ ap (λ r. told ++ r) c.split) ∙ ap (λ r. front ++ r) (in-two node told digits more) in
    table-cond bytes (nat_le (2 ^ 32) serial) (BadSerial at) _
    (λ large. placed BadSerial bytes front rest at whole n.node-place (FaultOf.bad_serial front path rest before n.due
    (CountsTooFar.serial_is m c.last node name s.found value told c.front more h hv c.below c.small (omega (arith, c.same, leb-true (2 ^ 32) serial large)))))
    (λ fits. table-cond bytes (is_among name s.found) (Twice at) _
    (λ twice. placed Twice bytes front _ at whole2 n.node-place (FaultOf.twice front path _ before n.due
    (again path before m node name s.found value serial told digits more h hv
    (subst (λ x. SpellsSerial x digits) (sym c.same) (SpellsSerial.digits c.front c.last c.below c.small (omega (arith, c.same, leb-false (2 ^ 32) serial fits)))) twice)))
    (λ new. tt))
  where
    in-two : (node told digits more : List ℕ) → node ++ (told ++ (digits ++ more)) ≡ node ++ told ++ digits ++ more
    in-two node told digits more = simp append_assoc

-- the symbol of a node
symbol-found : (bytes : List ℕ) (k : ℕ) (front path : List ℕ) (before : List Symbol) (at m : ℕ) (node name : List ℕ) (s : Reading) → 0 < length bytes →
    InNode bytes k front path before at node s → UpToCharacter path before m node name s.found → InTable bytes (symbol (m % 16) at name s)
symbol-found bytes k front path before at m node name s some n h = one (m % 16 == 0) (eqb-false (m % 16) 0)
  where
    size : ℕ
    size = value_size (m % 16)

    one : (b : Bool) → (b ≡ false → m % 16 ≢ 0) → InTable bytes (cond b (Ok s) (cond (nat_lt (length s.rest) (value_size (m % 16))) (Err (Truncated (s.at + length s.rest)))
        (symbol_with at name (value_of (m % 16) (take (value_size (m % 16)) s.rest)) s (serial_after 0 (drop (value_size (m % 16)) s.rest)))))
    one true e = tt
    one false e =
        let told = take size s.rest in
        let left = drop size s.rest in
        let both : s.rest ≡ told ++ left = sym (take-append-drop size s.rest) in
        let all : AreBytes (told ++ left) = subst (AreBytes) both n.following.are in
        table-cond bytes (nat_lt (length s.rest) size) (Truncated (s.at + length s.rest)) _
        (λ few. cut bytes front path (node ++ s.rest) before _ (node-split bytes k front path before at node s n) n.due
        (EndsWithin.at_value m node name s.rest s.found h (e refl) (ltb-true (length s.rest) size few)) some (end-is bytes k (front ++ node) s n.following))
        (λ fits. let kind = e refl in serial-found bytes k front path before at m node name s (value_of (m % 16) told) told left (serial_after 0 left) some n h
        (value-spelt (m % 16) told (omega (arith, kind)) (omega arith) (length-take-le size s.rest (ltb-false (length s.rest) size fits)) (all-front (λ d. d < 256) told left all))
        both (all-back (λ d. d < 256) told left all) refl)

-- the character of a node
abbrev CharacterInTable : List ℕ → Result Character StabFault → Type 0
CharacterInTable bytes (Ok c) = Unit {0}
CharacterInTable bytes (Err fault) = FaultOf bytes fault

missing : (bytes : List ℕ) (k : ℕ) (front path : List ℕ) (before : List Symbol) (at m : ℕ) (node : List ℕ) (s : Reading) (n : ℕ) → 0 < length bytes → InNode bytes k front path before at node s →
    UpToLeft path before m node s.found → HasCharacter m → length s.rest < 1 + table.flag 0x80 m → n ≡ s.at + length s.rest → FaultOf bytes (Truncated n)
missing bytes k front path before at m node s n some i h there few place =
    cut bytes front path (node ++ s.rest) before n (node-split bytes k front path before at node s i) i.due (EndsWithin.at_character m node s.rest s.found h there few) some
    (place ∙ end-is bytes k (front ++ node) s i.following)

one_byte-found : (bytes : List ℕ) (k : ℕ) (front path : List ℕ) (before : List Symbol) (at m : ℕ) (node : List ℕ) (a : ℕ) (found : List Symbol) (rest : List ℕ) → 0 < length bytes →
    InNode bytes k front path before at node (record { at = a; rest = rest; found = found }) → UpToLeft path before m node found → HasCharacter m → CharacterInTable bytes (reading.one_byte a found rest)
one_byte-found bytes k front path before at m node a found [] some n h there = missing bytes k front path before at m node _ a some n h there (omega arith) (omega arith)
one_byte-found bytes k front path before at m node a found (c ∷ rest) some n h there = tt

two_bytes-found : (bytes : List ℕ) (k : ℕ) (front path : List ℕ) (before : List Symbol) (at m : ℕ) (node : List ℕ) (a : ℕ) (found : List Symbol) (rest : List ℕ) → 0 < length bytes →
    InNode bytes k front path before at node (record { at = a; rest = rest; found = found }) → UpToLeft path before m node found → HasCharacter m → table.flag 0x80 m ≡ 1 → CharacterInTable bytes (reading.two_bytes at a found rest)
two_bytes-found bytes k front path before at m node a found [] some n h there mark = missing bytes k front path before at m node _ a some n h there (omega arith) (omega arith)
two_bytes-found bytes k front path before at m node a found (high ∷ []) some n h there mark = missing bytes k front path before at m node _ (a + 1) some n h there (omega (arith, mark)) refl
two_bytes-found bytes k front path before at m node a found (high ∷ low ∷ rest) some n h there mark = one (is_wide_character (wide_number high low)) refl
  where
    one : (b : Bool) → is_wide_character (wide_number high low) ≡ b →
        CharacterInTable bytes (cond b (Ok (record { name = encode_utf8 (wide_number high low); following = record { at = a + 2; rest = rest; found = found } })) (Err (Wide at)))
    one true e = tt
    one false e = placed Wide bytes front (node ++ high ∷ low ∷ rest) at (node-split bytes k front path before at node _ n) n.node-place
        (FaultOf.wide front path _ before n.due (LacksWide.no_character m high low node rest found h there mark (λ t. cc (e, t))))

character_of-found : (bytes : List ℕ) (k : ℕ) (front path : List ℕ) (before : List Symbol) (at m : ℕ) (node : List ℕ) (s : Reading) → 0 < length bytes →
    InNode bytes k front path before at node s → UpToLeft path before m node s.found → HasCharacter m → CharacterInTable bytes (character_of at m s)
character_of-found bytes k front path before at m node s some n h there = cond_both (has 0x80 m) _ _ (CharacterInTable bytes)
    (λ e. two_bytes-found bytes k front path before at m node s.at s.found s.rest some n h there (eqb-true (table.flag 0x80 m) 1 e))
    (λ _. one_byte-found bytes k front path before at m node s.at s.found s.rest some n h there)

bit-is : (weight m : ℕ) → flag (has weight m) ≡ table.flag weight m
bit-is weight m = flag-is (m / weight % 2) (omega arith)

wide-bit : {name character : List ℕ} (m : ℕ) → SpellsCharacter (0x80 * flag (has 0x80 m)) name character → SpellsCharacter (0x80 * table.flag 0x80 m) name character
wide-bit {name} {character} m h = subst (λ f. SpellsCharacter (0x80 * f) name character) (bit-is 0x80 m) h

-- a node that was read to the end of its symbol
record SymbolIsAfter (path : List ℕ) (before : List Symbol) (m : ℕ) (node name : List ℕ) (s w : Reading) : Type 0 where
  part : List ℕ
  own : List Symbol
  between : Between s w part own
  is : UpToSymbol path before m (node ++ part) name w.found

symbol-after : (path : List ℕ) (before : List Symbol) (m : ℕ) (node name : List ℕ) (s w : Reading) → UpToCharacter path before m node name s.found → SymbolRead (m % 16) name s w → AreDistinct w.found →
    SymbolIsAfter path before m node name s w
symbol-after path before m node name s w h (SymbolRead.no-symbol none k) d = record {
  part = [];
  own = [];
  between = k;
  is = subst (λ b. UpToSymbol path before m b name w.found) (sym (append-nil node))
      (subst (λ f. UpToSymbol path before m node name f) (sym (k.grown ∙ append-nil s.found)) (UpToSymbol.none path before m node name s.found h none));
}
symbol-after path before m node name s w h (SymbolRead.one-symbol value serial told counted hv hs k) d = record {
  part = told ++ counted;
  own = record { name = name; value = value; serial = serial } ∷ [];
  between = k;
  is = subst (λ b. UpToSymbol path before m b name w.found) (append_assoc node told counted)
      (subst (λ f. UpToSymbol path before m (node ++ told ++ counted) name f) (sym k.grown)
      (UpToSymbol.symbol path before m node name s.found value serial told counted h hv hs (subst AreDistinct k.grown d)));
}

-- what belongs to the character of a node
module _ (bytes : List ℕ) (some : 0 < length bytes) (k : ℕ) (inner : List ℕ → Reading → Answer) (finds : Finds bytes k inner) (sounds : Sounds inner) where
  up-to-character : (path : List ℕ) (before : List Symbol) (m : ℕ) (node : List ℕ) (s : Reading) (c : Character) → UpToLeft path before m node s.found → HasCharacter m →
      (r : CharacterRead (0x80 * flag (has 0x80 m)) s c) → length (path ++ c.name) ≤ 1024 → UpToCharacter path before m (node ++ r.bytes) (path ++ c.name) c.following.found
  up-to-character path before m node s c h there r short =
      subst (λ f. UpToCharacter path before m (node ++ r.bytes) (path ++ c.name) f) (sym (r.between.grown ∙ append-nil s.found))
      (UpToCharacter.character path before m node s.found c.name r.bytes h there (wide-bit m r.is) short)

  middle-found : (front path : List ℕ) (before : List Symbol) (at m : ℕ) (node name : List ℕ) (s w : Reading) → InNode bytes k front path before at node s → UpToCharacter path before m node name s.found →
      symbol (m % 16) at name s ≡ Ok w → InTable bytes (part_if (has 0x20 m) (inner name) w)
  middle-found front path before at m node name s w n h e =
      let r = symbol-read (m % 16) at name s w (omega arith) n.following.are e in
      let d = read-distinct (m % 16) name s w r n.following.distinct in
      let b = symbol-after path before m node name s w h r d in
      let f = further bytes k front path before at node b.part s w b.own n b.between in
      table-if bytes (has 0x20 m) (inner name) w (λ there. finds (front ++ (node ++ b.part)) name w f.following
      (IsDue.middle front path before m (node ++ b.part) name w.found n.due b.is (eqb-true (table.flag 0x20 m) 1 there)))
    where
      read-distinct : (kind : ℕ) (name : List ℕ) (s w : Reading) → SymbolRead kind name s w → AreDistinct s.found → AreDistinct w.found
      read-distinct kind name s w (SymbolRead.no-symbol none k) d = k.distinct d
      read-distinct kind name s w (SymbolRead.one-symbol value serial told counted hv hs k) d = k.distinct d

  part-found : (front path : List ℕ) (before : List Symbol) (at m : ℕ) (node : List ℕ) (s : Reading) (c : Result Character StabFault) → InNode bytes k front path before at node s → UpToLeft path before m node s.found →
      HasCharacter m → CharacterInTable bytes c → ((d : Character) → c ≡ Ok d → CharacterRead (0x80 * flag (has 0x80 m)) s d) → InTable bytes (with_character (character_part inner at m path) c)
  part-found front path before at m node s (Err fault) n h there t r = t
  part-found front path before at m node s (Ok c) n h there t r =
      let q = r c refl in
      let f = further bytes k front path before at node q.bytes s c.following [] n q.between in
      table-cond bytes (nat_lt 1024 (length (path ++ c.name))) (TooLong at) _
      (λ long. placed TooLong bytes front (node ++ q.bytes ++ c.following.rest) at (node-split bytes k front path before at (node ++ q.bytes) c.following f) n.node-place
      (FaultOf.too_long front path _ before n.due (IsTooDeep.path_is m node c.name q.bytes c.following.rest s.found h there (wide-bit m q.is) (ltb-true 1024 (length (path ++ c.name)) long))))
      (λ short. let u = up-to-character path before m node s c h there q (ltb-false 1024 (length (path ++ c.name)) short) in
      table-then bytes (part_if (has 0x20 m) (inner (path ++ c.name))) (symbol (m % 16) at (path ++ c.name) c.following)
      (symbol-found bytes k front path before at m (node ++ q.bytes) (path ++ c.name) c.following some f u)
      (λ w e. middle-found front path before at m (node ++ q.bytes) (path ++ c.name) c.following w f u e))

  character-found : (front path : List ℕ) (before : List Symbol) (at m : ℕ) (node : List ℕ) (s : Reading) → InNode bytes k front path before at node s → UpToLeft path before m node s.found → HasCharacter m →
      InTable bytes (reading.character inner at m path s)
  character-found front path before at m node s n h there =
      part-found front path before at m node s (character_of at m s) n h there (character_of-found bytes k front path before at m node s some n h there)
      (λ d e. character_of-read at m s d n.following.are e)

  -- after what belongs to a character
  right-found : (front path : List ℕ) (before : List Symbol) (at m : ℕ) (node name : List ℕ) (found : List Symbol) (middle : List ℕ) (below : List Symbol) (v : Reading) → IsDue front path before →
      UpToSymbol path before m node name found → IsSubtrie (table.flag 0x20 m) name middle below → v.found ≡ found ++ below → table.flag 0x10 m ≡ 1 → IsAfter bytes k (front ++ (node ++ middle)) v → InTable bytes (inner path v)
  right-found front path before at m node name found middle below v due u hm grown right b =
      finds (front ++ (node ++ middle)) path v b (subst (λ f. IsDue (front ++ (node ++ middle)) path f) (sym grown)
      (IsDue.right front path before m node name found middle below due u hm (subst AreDistinct grown b.distinct) right))

  named-right : (front path : List ℕ) (before : List Symbol) (at m : ℕ) (node : List ℕ) (s v : Reading) → InNode bytes k front path before at node s → UpToLeft path before m node s.found → HasCharacter m →
      NameRead m path s v → table.flag 0x10 m ≡ 1 → InTable bytes (inner path v)
  named-right front path before at m node s v n h there (NameRead.no-name name character middle below spelt fits none hm b) right =
      let f = further bytes k front path before at node (character ++ middle) s v below n b in
      let u = UpToSymbol.none path before m (node ++ character) (path ++ name) s.found (UpToCharacter.character path before m node s.found name character h there (wide-bit m spelt) fits) none in
      right-found front path before at m (node ++ character) (path ++ name) s.found middle below v n.due u (subst (λ l. IsSubtrie l (path ++ name) middle below) (bit-is 0x20 m) hm) b.grown right
      (subst (λ p. IsAfter bytes k (front ++ p) v) (sym (append_assoc node character middle)) f.following)
  named-right front path before at m node s v n h there (NameRead.a-name name character value serial told counted middle below spelt fits hv hs hm b) right =
      let own : Symbol = record { name = path ++ name; value = value; serial = serial } in
      let f = further bytes k front path before at node (character ++ ((told ++ counted) ++ middle)) s v (own ∷ below) n b in
      let grown : v.found ≡ (s.found ++ own ∷ []) ++ below = b.grown ∙ sym (append_assoc s.found (own ∷ []) below) in
      let u = UpToSymbol.symbol path before m (node ++ character) (path ++ name) s.found value serial told counted
      (UpToCharacter.character path before m node s.found name character h there (wide-bit m spelt) fits) hv hs
      (distinct-front (s.found ++ own ∷ []) below (subst AreDistinct grown f.following.distinct)) in
      right-found front path before at m (node ++ character ++ told ++ counted) (path ++ name) (s.found ++ own ∷ []) middle below v n.due u
      (subst (λ l. IsSubtrie l (path ++ name) middle below) (bit-is 0x20 m) hm) grown right
      (subst (λ p. IsAfter bytes k (front ++ p) v) (in-node node character told counted middle) f.following)
    where
      in-node : (node character told counted middle : List ℕ) → node ++ (character ++ ((told ++ counted) ++ middle)) ≡ (node ++ character ++ told ++ counted) ++ middle
      in-node node character told counted middle = simp append_assoc

  -- what is in a node after its left subtrie
  rest-found : (front path : List ℕ) (before : List Symbol) (at m : ℕ) (node : List ℕ) (s : Reading) → InNode bytes k front path before at node s → UpToLeft path before m node s.found → InTable bytes (node_rest inner at m path s)
  rest-found front path before at m node s n h = one (has_character m) (has-one m) (has-none m) (λ v e. character-read inner sounds at m path s v n.following.are e)
    where
      one : (b : Bool) → (b ≡ true → HasCharacter m) → (b ≡ false → ¬ HasCharacter m) → ((v : Reading) → reading.character inner at m path s ≡ Ok v → NameRead m path s v) →
          InTable bytes (and_then (part_if (has 0x10 m) (inner path)) (part_if b (reading.character inner at m path) s))
      one true some none read =
          table-then bytes (part_if (has 0x10 m) (inner path)) (reading.character inner at m path s) (character-found front path before at m node s n h (some refl))
          (λ v e. table-if bytes (has 0x10 m) (inner path) v (λ right. named-right front path before at m node s v n h (some refl) (read v e) (eqb-true (table.flag 0x10 m) 1 right)))
      one false some none read =
          table-if bytes (has 0x10 m) (inner path) s (λ right. finds (front ++ node) path s n.following
          (IsDue.right_of_bare front path before m node s.found n.due h (none refl) (eqb-true (table.flag 0x10 m) 1 right)))

  left-found : (front path : List ℕ) (before : List Symbol) (at m : ℕ) (s u : Reading) → at ≡ length front → IsDue front path before → IsAfter bytes k (front ++ m ∷ []) s → s.found ≡ before → ¬ IsWideBare m →
      part_if (has 0x40 m) (inner path) s ≡ Ok u → InTable bytes (node_rest inner at m path u)
  left-found front path before at m s u place due b same narrow e =
      let left = sounds-if (has 0x40 m) inner sounds path s u b.are e in
      let n : InNode bytes k front path before at (m ∷ []) s = record { due = due; node-place = place; following = b } in
      let f = further bytes k front path before at (m ∷ []) left.bytes s u left.symbols n left.between in
      let grown : u.found ≡ before ++ left.symbols = left.between.grown ∙ ap (λ f. f ++ left.symbols) same in
      rest-found front path before at m (m ∷ left.bytes) u f (subst (λ f. UpToLeft path before m (m ∷ left.bytes) f) (sym grown)
      (UpToLeft.left path before m left.bytes left.symbols narrow (subst (λ l. IsSubtrie l path left.bytes left.symbols) (bit-is 0x40 m) left.is) (subst AreDistinct grown f.following.distinct)))

  node-found : (front path : List ℕ) (at : ℕ) (found : List Symbol) (rest : List ℕ) → IsAfter bytes (suc k) front (record { at = at; rest = rest; found = found }) → IsDue front path found →
      InTable bytes (node inner path at found rest)
  node-found front path at found [] b due =
      cut bytes front path [] found at b.split due EndsWithin.at_byte some (omega (arith, end-is bytes (suc k) front _ b))
  node-found front path at found (m ∷ rest) b due =
      let s : Reading = record { at = at + 1; rest = rest; found = found } in
      let next : IsAfter bytes k (front ++ m ∷ []) s = record {
        split = b.split ∙ sym (append_assoc front (m ∷ []) rest);
        place = omega (arith, b.place, length-append front (m ∷ []));
        are = b.are.1;
        distinct = b.distinct;
        few = omega (arith, b.few);
      } in
      table-cond bytes (is_wide_bare m) (Wide at) _
      (λ bare. placed Wide bytes front (m ∷ rest) at b.split b.place (FaultOf.wide front path (m ∷ rest) found due (LacksWide.bare m rest (is-bare m bare))))
      (λ narrow. let n = is-no-bare m narrow in
      table-then bytes (node_rest inner at m path) (part_if (has 0x40 m) (inner path) s)
      (table-if bytes (has 0x40 m) (inner path) s (λ left. finds (front ++ m ∷ []) path s next (IsDue.left front path found m due n (eqb-true (table.flag 0x40 m) 1 left))))
      (λ u e. left-found front path found at m s u b.place due next refl n e))

subtrie-found : (bytes : List ℕ) → 0 < length bytes → (nodes : ℕ) → Finds bytes nodes (subtrie nodes)
unfolding subtrie
subtrie-found bytes some zero front path s b due =
    let none = nothing s.rest b.few in
    cut bytes front path [] s.found s.at (b.split ∙ ap (λ r. front ++ r) none) due EndsWithin.at_byte some (omega (arith, end-is bytes zero front s b, b.few))
  where
    nothing : (rest : List ℕ) → length rest ≤ 0 → rest ≡ []
    nothing [] l = refl
    nothing (r ∷ rest) l = absurd (omega (arith, l))
subtrie-found bytes some (suc nodes) front path s b due =
    node-found bytes some nodes (subtrie nodes) (subtrie-found bytes some nodes) (subtrie-sounds nodes) front path s.at s.found s.rest b due

-- the fault that is found after a trie
trie-found : (bytes : List ℕ) (t : Reading) → Tells 1 [] (start bytes) t → (b : Bool) → is_padding t.rest ≡ b → (fault : StabFault) → cond b (Ok t.found) (Err (Padding t.at)) ≡ refused fault → FaultOf bytes fault
trie-found bytes t w true e fault f = absurd (cc)
trie-found bytes t w false e fault f =
    let place : t.at ≡ length w.bytes = omega (arith, w.between.place) in
    let is : Padding t.at ≡ fault = cc in
    subst (λ f. FaultOf bytes f) is (placed Padding bytes w.bytes t.rest t.at w.between.split place
    (FaultOf.padding w.bytes t.rest w.symbols w.is (subst AreDistinct w.between.grown (w.between.distinct tt))
    (λ zeros few same. let p = ap is_padding same ∙ padding-is zeros few in cc (p, e))))

ended-found : (bytes : List ℕ) (a : Answer) → InTable bytes a → ((t : Reading) → a ≡ Ok t → Tells 1 [] (start bytes) t) → (fault : StabFault) → symbols_at_end a ≡ refused fault → FaultOf bytes fault
ended-found bytes (Ok t) h k fault f = trie-found bytes t (k t refl) (is_padding t.rest) refl fault f
ended-found bytes (Err g) h k fault f = let is : g ≡ fault = cc in subst (λ f. FaultOf bytes f) is h

-- what is met is in the table
pub fault-found : (bytes : List ℕ) (fault : StabFault) → AreBytes bytes → trie_answer bytes ≡ refused fault → FaultOf bytes fault
fault-found [] fault b e = absurd (cc)
fault-found (d ∷ more) fault b e =
    let bytes = d ∷ more in
    ended-found bytes (next_subtrie [] (start bytes)) (subtrie-found bytes (omega arith) (length bytes) [] [] (start bytes)
    (record { split = refl; place = refl; are = b; distinct = tt; few = omega arith }) IsDue.first)
    (λ t e. subtrie-sounds (length bytes) [] (start bytes) t b e) fault e
