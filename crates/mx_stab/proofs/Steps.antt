-- What is due, step by step.
use Rattle.std.proofs.Common.{◌≡◌, ℕ, ◌+◌, ◌≤◌, ◌<◌, ◌%◌, Bool, true, false, List, [], ◌∷◌, ◌++◌, length, take, drop, Result, Ok, Err, arith, sym, ap, ◌∙◌, rules}
use Rattle.mx_stab.proofs.Words.{cond-false, cond-true, le-ltb, Symbol, StabFault, Truncated, Wide, Reading, Answer, Character, and_then, part_if, has, has_character, is_wide_bare, character_of, node_rest, symbol, next_subtrie, Point, Progress, and_next, with_path, after_due, after_all, due_if, node_due, symbol_due, after_character, longer_path, reading_of, next_point, due_weight, weight, Due, Subtrie, Rest, Right, nat_tests, common_steps}
use Rattle.mx_stab.proofs.Parts.{next-node}
use Rattle.mx_stab.proofs.Weights.{all_weight-push}

next-next : (f g : Point → Progress) (c : Progress) → and_next f (and_next g c) ≡ and_next (λ p. and_next f (g p)) c
next-next f g = grind arith

next-self : (c : Progress) → c ≡ and_next (λ q. Ok q) c
next-self c = grind arith

-- what was noted last is taken first
pub all-append : (before above : List Due) (p : Point) → after_all (before ++ above) p ≡ and_next (after_all before) (after_all above p)
all-append [] above p = next-self (after_all above p)
all-append (d ∷ before) above p = ap (and_next (after_due d)) (all-append before above p) ∙ next-next (after_due d) (after_all before) (after_all above p)

after-subtrie : (b : Bool) (path : List ℕ) (s : Reading) → after_all (due_if b Subtrie) (record { path = path; reading = s }) ≡ with_path path (part_if b (next_subtrie path) s)
after-subtrie b = grind arith

after-node : (node m : ℕ) (path : List ℕ) (s : Reading) → after_all (node_due node m) (record { path = path; reading = s })
    ≡ with_path path (and_then (node_rest next_subtrie node m path) (part_if (has 0x40 m) (next_subtrie path) s))
after-node node m path s = grind arith

-- the byte m was read, and what follows it was noted
node-went-from : (before : List Due) (path : List ℕ) (at m : ℕ) (rest bytes : List ℕ) (found : List Symbol) → bytes ≡ m ∷ rest → is_wide_bare m ≡ false →
    after_all (before ++ node_due at m) (record { path = path; reading = record { at = at + 1; rest = rest; found = found } })
    ≡ and_next (after_all before) (with_path path (next_subtrie path (record { at = at; rest = bytes; found = found })))
node-went-from before path at m rest bytes found e h = search (rules, all-append, after-node, cond-false, next-node)

pub node-went : (before due : List Due) (old new : Point) (m node : ℕ) → old.reading.rest ≡ m ∷ drop 1 old.reading.rest → new ≡ next_point old → node ≡ old.reading.at → is_wide_bare m ≡ false → due ≡ before ++ node_due node m →
    after_all due new ≡ and_next (after_all before) (after_due Subtrie old)
node-went before due old new m node byte step place h noted = search (rules, node-went-from)

wide-from : (path : List ℕ) (at m : ℕ) (rest bytes : List ℕ) (found : List Symbol) → bytes ≡ m ∷ rest → is_wide_bare m ≡ true → Err (Wide at) ≡ next_subtrie path (record { at = at; rest = bytes; found = found })
wide-from path at m rest bytes found e h = rw e (sym (cond-true (is_wide_bare m) (Err (Wide at)) _ h) ∙ sym (next-node path at found (m ∷ rest)))

pub node-wide : (before : List Due) (old : Point) (m node : ℕ) → old.reading.rest ≡ m ∷ drop 1 old.reading.rest → node ≡ old.reading.at → is_wide_bare m ≡ true →
    Err (Wide node) ≡ and_next (after_all before) (after_due Subtrie old)
node-wide before old m node byte place h =
    rw place (ap (λ a. and_next (after_all before) (with_path old.path a)) (wide-from old.path old.reading.at m (drop 1 old.reading.rest) old.reading.rest old.reading.found byte h))

cut-from : (path : List ℕ) (at : ℕ) (bytes : List ℕ) (found : List Symbol) → bytes ≡ [] → Err (Truncated at) ≡ next_subtrie path (record { at = at; rest = bytes; found = found })
cut-from path at bytes found e = rw e (sym (next-node path at found []))

pub node-cut : (before : List Due) (old : Point) (node : ℕ) → old.reading.rest ≡ [] → node ≡ old.reading.at → Err (Truncated node) ≡ and_next (after_all before) (after_due Subtrie old)
node-cut before old node none place = cc (cut-from old.path old.reading.at old.reading.rest old.reading.found none)

-- a node without a character: its right subtrie was noted
pub bare-went : (before due : List Due) (old : Point) (m node : ℕ) (is : Bool) → has_character m ≡ false → is ≡ has 0x10 m → due ≡ before ++ due_if is Subtrie →
    after_all due old ≡ and_next (after_all before) (after_due (Rest node m) old)
bare-went before due old m node is h1 h2 h3 = search (rules, all-append, after-subtrie)

-- a right subtrie was noted, and the path is what it was
pub right-went : (before due : List Due) (old new : Point) (next : Due) (depth m : ℕ) (is : Bool) → next ≡ Right depth m → new ≡ record old { path = take depth old.path } → is ≡ has 0x10 m → due ≡ before ++ due_if is Subtrie →
    after_all due new ≡ and_next (after_all before) (after_due next old)
right-went before due old new next depth m is h1 h2 h3 h4 = search (rules, all-append, after-subtrie)

after-symbol : (path name : List ℕ) (m : ℕ) (a : Answer) → and_next (after_all (symbol_due (length path) m)) (with_path (path ++ name) a)
    ≡ with_path path (and_then (part_if (has 0x10 m) (next_subtrie path)) (and_then (part_if (has 0x20 m) (next_subtrie (path ++ name))) a))
after-symbol path name = grind (arith, common_steps, nat_tests)

-- what is in a node after its left subtrie, by its character
after-character : (node m : ℕ) (path : List ℕ) (s : Reading) (c : Result Character StabFault) → c ≡ character_of node m s → has_character m ≡ true →
    with_path path (node_rest next_subtrie node m path s) ≡ and_next (after_character (length path) node m) (longer_path path c)
after-character node m path s (Ok c) e h = grind (arith, nat_tests, after-symbol path c.name m (symbol (m % 16) node (path ++ c.name) c.following))
after-character node m path s (Err fault) e h = cc

pub rest-went : (before : List Due) (old new : Point) (came : Progress) (depth node m : ℕ) → has_character m ≡ true → depth ≡ length old.path → Ok new ≡ longer_path old.path (character_of node m old.reading) →
    came ≡ and_next (after_all before) (after_character depth node m new) → came ≡ and_next (after_all before) (after_due (Rest node m) old)
rest-went before old new came depth node m h d e k = search (rules, after-character)

-- the symbol of a node
pub symbol-went : (before due : List Due) (old new : Point) (depth node m : ℕ) → length old.path ≤ 1024 → Ok new ≡ with_path old.path (symbol (m % 16) node old.path old.reading) → due ≡ before ++ symbol_due depth m →
    after_all due new ≡ and_next (after_all before) (after_character depth node m old)
symbol-went before due old new depth node m l e noted = search (rules, all-append, cond-false, le-ltb)

-- one part that was due was taken
taken-after : (before whole : List Due) (next : Due) (p : Point) → whole ≡ before ++ next ∷ [] → after_all whole p ≡ and_next (after_all before) (after_due next p)
taken-after before whole next p e = ap (λ due. after_all due p) e ∙ all-append before (next ∷ []) p

pub taken-same : (before after whole : List Due) (next : Due) (p q : Point) (w : Answer) → whole ≡ before ++ next ∷ [] → after_all after q ≡ and_next (after_all before) (after_due next p) →
    reading_of (after_all whole p) ≡ w → reading_of (after_all after q) ≡ w
taken-same before after whole next p q w e h k = ap reading_of (h ∙ sym (taken-after before whole next p e)) ∙ k

pub taken-failed : (before whole : List Due) (next : Due) (p : Point) (w : Answer) (fault : StabFault) → whole ≡ before ++ next ∷ [] → Err fault ≡ and_next (after_all before) (after_due next p) →
    reading_of (after_all whole p) ≡ w → Err fault ≡ w
taken-failed before whole next p w fault e h k = ap reading_of (h ∙ sym (taken-after before whole next p e)) ∙ k

pub taken-less : (before after whole : List Due) (next : Due) (p q : Point) → whole ≡ before ++ next ∷ [] → weight q after < weight p before + due_weight next → weight q after < weight p whole
taken-less before after whole next p q e h = search (rules, all_weight-push)
