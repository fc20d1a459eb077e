-- The fault that the table has is met by the reader.
use Rattle.std.proofs.Common.{◌≡◌, ◌≢◌, ℕ, ◌+◌, ◌*◌, ◌%◌, ◌^◌, ◌≤◌, ◌<◌, ◌==◌, true, false, ◌||◌, List, [], ◌∷◌, ◌++◌, length, replicate, None, Err, arith, refl, sym, ap, ◌∙◌, append_assoc, length-append, zero-add, nat_le, nat_lt, IfSome, rules}
use Rattle.mx_stab.proofs.Words.{cond-false, cond-true, lt-ltb, lt-leb, le-leb, bytes_eq-Decides, Symbol, StabFault, Truncated, Padding, Wide, Twice, TooLong, BadSerial, CountsTooFar, EndsWithin, FaultOf, HasCharacter, IsDue, IsTooDeep, LacksWide, NamesAgain, UpToCharacter, UpToLeft, flag, AreBelow, AreDistinct, IsSubtrie, number, Reading, Answer, and_then, part_if, is_among, value_size, serial_after, symbol_with, symbol, has, is_wide_bare, character_of, character_part, with_character, node_rest, next_subtrie, is_padding, symbols_at_end, start, trie_answer, nat_tests}
use Rattle.mx_stab.specs.Faults.{place_of}
use Rattle.mx_stab.specs.Reading as reading
use Rattle.mx_stab.proofs.NodeParts.{after-left, character-none, character-there, following-character, following-symbol, not-bare, there, wide-bare}
use Rattle.mx_stab.proofs.Parts.{next-node}
use Rattle.mx_stab.proofs.Sound.{padding-zeros}
use Rattle.mx_stab.proofs.Whole.{character-is, read-some, serial-fits, serial-spelt, serial-told, some-bytes, symbol-valued, tells-subtrie}

-- a subtrie is due at a place
abbrev due_at : ℕ → List ℕ → List Symbol → Reading
due_at at rest found = record { at = at; rest = rest; found = found }

-- the fault of a subtrie that is due is that of the trie
due-met : {front path : List ℕ} {before : List Symbol} → IsDue front path before → (rest : List ℕ) (fault : StabFault) → next_subtrie path (due_at (length front) rest before) ≡ Err fault →
    next_subtrie [] (start (front ++ rest)) ≡ Err fault
due-met IsDue.first rest fault e = e
due-met (IsDue.left front path before m h narrow left) rest fault e =
    ap (λ bytes. next_subtrie [] (start bytes)) (append_assoc front (m ∷ []) rest)
    ∙ due-met h (m ∷ rest) fault (next-node path (length front) before (m ∷ rest) ∙ cond-false (is_wide_bare m) _ _ (not-bare m narrow)
    ∙ ap (and_then (node_rest next_subtrie (length front) m path)) (there (next_subtrie path) (due_at (length front + 1) rest before) left
    ∙ ap (λ at. next_subtrie path (due_at at rest before)) (sym (length-append front (m ∷ []))) ∙ e))
due-met (IsDue.middle front path before m node name found h k below) rest fault e =
    ap (λ bytes. next_subtrie [] (start bytes)) (append_assoc front node rest)
    ∙ due-met h (node ++ rest) fault (following-symbol k (length front) rest
    ∙ ap (and_then (part_if (has 0x10 m) (next_subtrie path))) (there (next_subtrie name) (due_at (length front + length node) rest found) below
    ∙ ap (λ at. next_subtrie name (due_at at rest found)) (sym (length-append front node)) ∙ e))
due-met (IsDue.right_of_bare front path before m node found h k none right) rest fault e =
    let s = due_at (length front + length node) rest found in
    ap (λ bytes. next_subtrie [] (start bytes)) (append_assoc front node rest)
    ∙ due-met h (node ++ rest) fault (after-left k (length front) rest
    ∙ ap (λ b. and_then (part_if (has 0x10 m) (next_subtrie path)) (part_if b (reading.character next_subtrie (length front) m path) s)) (character-none m none)
    ∙ there (next_subtrie path) s right
    ∙ ap (λ at. next_subtrie path (due_at at rest found)) (sym (length-append front node)) ∙ e)
due-met (IsDue.right front path before m node name found middle symbols h k below distinct right) rest fault e =
    let s = due_at (length front + length node) (middle ++ rest) found in
    ap (λ bytes. next_subtrie [] (start bytes)) (append_assoc front (node ++ middle) rest ∙ ap (λ bytes. front ++ bytes) (append_assoc node middle rest))
    ∙ due-met h (node ++ (middle ++ rest)) fault (following-symbol k (length front) (middle ++ rest)
    ∙ ap (and_then (part_if (has 0x10 m) (next_subtrie path))) (tells-subtrie below s rest refl distinct)
    ∙ there (next_subtrie path) (due_at (length front + length node + length middle) rest (found ++ symbols)) right
    ∙ ap (λ at. next_subtrie path (due_at at rest (found ++ symbols))) (omega (arith, length-append front (node ++ middle), length-append node middle)) ∙ e)

-- at the character of a node
at-character : {path : List ℕ} {before : List Symbol} {m : ℕ} {node : List ℕ} {found : List Symbol} → UpToLeft path before m node found → HasCharacter m → (at : ℕ) (rest : List ℕ) →
    next_subtrie path (due_at at (node ++ rest) before) ≡ and_then (part_if (has 0x10 m) (next_subtrie path)) (reading.character next_subtrie at m path (due_at (at + length node) rest found))
at-character {path} {before} {m} {node} {found} h some at rest = cc (after-left h at rest, character-there m some)

marked : (m : ℕ) → flag 0x80 m ≡ 1 → has 0x80 m ≡ true
marked m h = ap (λ n. n == 1) h

cut-character : (node m at : ℕ) (found : List Symbol) (rest : List ℕ) → length rest < 1 + flag 0x80 m → character_of node m (due_at at rest found) ≡ Err (Truncated (at + length rest))
cut-character node m at found rest h = grind arith

no-serial : (x : ℕ) (digits : List ℕ) → AreBelow 128 digits → serial_after x digits ≡ None
no-serial x [] h = refl
no-serial x (d ∷ more) h = cond-true (nat_lt d 128) _ _ (lt-ltb d 128 h.0) ∙ no-serial (x * 128 + d) more h.1

-- after the value of a node
at-serial : {path : List ℕ} {before : List Symbol} {m : ℕ} {node name : List ℕ} {found : List Symbol} → UpToCharacter path before m node name found → (told : List ℕ) (at : ℕ) (rest : List ℕ) (a : Answer) →
    symbol (m % 16) at name (due_at (at + length node) (told ++ rest) found) ≡ a →
    next_subtrie path (due_at at (node ++ told ++ rest) before) ≡ and_then (part_if (has 0x10 m) (next_subtrie path)) (and_then (part_if (has 0x20 m) (next_subtrie name)) a)
at-serial {path} {before} {m} {node} {name} {found} h told at rest a e =
    ap (λ bytes. next_subtrie path (due_at at bytes before)) (append_assoc node told rest)
    ∙ following-character h at (told ++ rest)
    ∙ ap (λ a. and_then (part_if (has 0x10 m) (next_subtrie path)) (and_then (part_if (has 0x20 m) (next_subtrie name)) a)) e

-- the bytes end within a node
ends-met : {path : List ℕ} {before : List Symbol} {bytes : List ℕ} → EndsWithin path before bytes → (at : ℕ) → next_subtrie path (due_at at bytes before) ≡ Err (Truncated (at + length bytes))
ends-met {path} {before} EndsWithin.at_byte at = next-node path at before [] ∙ ap (λ n. Err (Truncated n)) (omega arith)
ends-met {path} (EndsWithin.at_character m node rest found h some few) at =
    at-character h some at rest
    ∙ ap (λ c. and_then (part_if (has 0x10 m) (next_subtrie path)) (with_character (character_part next_subtrie at m path) c)) (cut-character at m (at + length node) found rest few)
    ∙ ap (λ n. Err (Truncated n)) (omega (arith, length-append node rest))
ends-met {path} (EndsWithin.at_value m node name rest found h some few) at =
    grind (arith, nat_tests, following-character h at rest, lt-ltb (length rest) (value_size (m % 16)) few, length-append node rest)
ends-met {path} (EndsWithin.at_serial m node name found value told digits h v below) at =
    let s = due_at (at + length node) (told ++ digits) found in
    at-serial h told at digits _ (symbol-valued (m % 16) at name value told digits s v refl ∙ ap (symbol_with at name value s) (no-serial 0 digits below))
    ∙ ap (λ n. Err (Truncated n)) (omega (arith, length-append (node ++ told) digits, length-append node told, length-append told digits))

-- no character of two bytes where one is marked
wide-met : {path : List ℕ} {before : List Symbol} {bytes : List ℕ} → LacksWide path before bytes → (at : ℕ) → next_subtrie path (due_at at bytes before) ≡ Err (Wide at)
wide-met {path} {before} (LacksWide.bare m rest bare) at = next-node path at before (m ∷ rest) ∙ cond-true (is_wide_bare m) _ _ (wide-bare m bare)
wide-met {path} (LacksWide.no_character m high low node rest found h some mark none) at =
    grind (arith, nat_tests, at-character h some at (high ∷ low ∷ rest), marked m mark)

-- a path that is too long
deep-met : {path : List ℕ} {before : List Symbol} {bytes : List ℕ} → IsTooDeep path before bytes → (at : ℕ) → next_subtrie path (due_at at bytes before) ≡ Err (TooLong at)
deep-met {path} {before} (IsTooDeep.path_is m node name character rest found h some spelt long) at =
    ap (λ bytes. next_subtrie path (due_at at bytes before)) (append_assoc node character rest)
    ∙ at-character h some at (character ++ rest)
    ∙ ap (λ c. and_then (part_if (has 0x10 m) (next_subtrie path)) (with_character (character_part next_subtrie at m path) c))
    (character-is spelt at m (due_at (at + length node) (character ++ rest) found) rest (omega arith) refl)
    ∙ ap (and_then (part_if (has 0x10 m) (next_subtrie path))) (cond-true (nat_lt 1024 (length (path ++ name))) _ _ (lt-ltb 1024 (length (path ++ name)) long))

-- a serial number that is too large
far-met : {path : List ℕ} {before : List Symbol} {bytes : List ℕ} → CountsTooFar path before bytes → (at : ℕ) → next_subtrie path (due_at at bytes before) ≡ Err (BadSerial at)
far-met {path} {before} (CountsTooFar.serial_is m last node name found value told digits rest h v below small large) at =
    let all = digits ++ (last + 128) ∷ rest in
    let s = due_at (at + length node) (told ++ all) found in
    ap (λ bytes. next_subtrie path (due_at at bytes before)) (append_assoc (node ++ told) digits ((last + 128) ∷ rest))
    ∙ at-serial h told at all _ (symbol-valued (m % 16) at name value told all s v refl ∙ ap (symbol_with at name value s) (serial-spelt 0 digits last rest below small)
    ∙ cond-true (nat_le (2 ^ 32) (number 128 (digits ++ last ∷ []))) _ _ (le-leb (2 ^ 32) (number 128 (digits ++ last ∷ [])) large))

-- a name that came before
among : (earlier : List Symbol) (s : Symbol) (later : List Symbol) → is_among s.name (earlier ++ s ∷ later) ≡ true
among [] s later = ap (λ b. b || is_among s.name later) ((bytes_eq-Decides s.name s.name).1 refl)
among (t ∷ earlier) s later = search (rules, among earlier s later)

again-met : {path : List ℕ} {before : List Symbol} {bytes : List ℕ} → NamesAgain path before bytes → (at : ℕ) → next_subtrie path (due_at at bytes before) ≡ Err (Twice at)
again-met {path} {before} (NamesAgain.name_is m node earlier t later value serial told counted rest h v k) at =
    let all = counted ++ rest in
    let s = due_at (at + length node) (told ++ all) (earlier ++ t ∷ later) in
    ap (λ bytes. next_subtrie path (due_at at bytes before)) (append_assoc (node ++ told) counted rest)
    ∙ at-serial h told at all _ (symbol-valued (m % 16) at t.name value told all s v refl ∙ ap (symbol_with at t.name value s) (serial-told serial counted rest k)
    ∙ cond-false (nat_le (2 ^ 32) serial) _ _ (lt-leb (2 ^ 32) serial (serial-fits serial counted k)) ∙ cond-true (is_among t.name (earlier ++ t ∷ later)) _ _ (among earlier t later))

-- a fault of a trie that has bytes
read-fault : (bytes : List ℕ) (fault : StabFault) → fault ≢ Truncated 0 → next_subtrie [] (start bytes) ≡ Err fault → trie_answer bytes ≡ Err fault
read-fault bytes fault h1 h2 = search (rules, next-node)

no-padding : (rest : List ℕ) → ((zeros : ℕ) → zeros ≤ 3 → rest ≢ replicate zeros 0) → is_padding rest ≡ false
no-padding rest h = search (rules, padding-zeros)

-- other bytes after a trie
read-after : (trie rest : List ℕ) (symbols : List Symbol) → IsSubtrie 1 [] trie symbols → AreDistinct symbols → is_padding rest ≡ false → trie_answer (trie ++ rest) ≡ Err (Padding (length trie))
read-after trie rest symbols h distinct none =
    read-some (trie ++ rest) (omega (arith, length-append trie rest, some-bytes h (omega arith)))
    ∙ ap symbols_at_end (tells-subtrie h (start (trie ++ rest)) rest refl distinct)
    ∙ cond-false (is_padding rest) _ _ none ∙ ap (λ n. Err (Padding n)) (zero-add (length trie))

-- what the table has is met
pub fault-met : {bytes : List ℕ} {fault : StabFault} → FaultOf bytes fault → trie_answer bytes ≡ Err fault
fault-met (FaultOf.cut_off front path rest before h k some) =
    read-some (front ++ rest) some
    ∙ ap symbols_at_end (due-met h rest (Truncated (length front + length rest)) (ends-met k (length front)))
    ∙ ap (λ n. Err (Truncated n)) (sym (length-append front rest))
fault-met (FaultOf.padding trie rest symbols h distinct none) = read-after trie rest symbols h distinct (no-padding rest none)
fault-met (FaultOf.wide front path rest before h k) = read-fault (front ++ rest) (Wide (length front)) (λ e. cc) (due-met h rest _ (wide-met k (length front)))
fault-met (FaultOf.twice front path rest before h k) = read-fault (front ++ rest) (Twice (length front)) (λ e. cc) (due-met h rest _ (again-met k (length front)))
fault-met (FaultOf.too_long front path rest before h k) = read-fault (front ++ rest) (TooLong (length front)) (λ e. cc) (due-met h rest _ (deep-met k (length front)))
fault-met (FaultOf.bad_serial front path rest before h k) = read-fault (front ++ rest) (BadSerial (length front)) (λ e. cc) (due-met h rest _ (far-met k (length front)))

-- its place is at most the number of the bytes
pub fault-within : {bytes : List ℕ} {fault : StabFault} → FaultOf bytes fault → IfSome (place_of fault) (λ at. at ≤ length bytes)
fault-within h = search (rules, length-append)
