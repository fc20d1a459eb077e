-- What holds of the statements and the fields of lines of bytes.
use Rattle.std.proofs.Common.{◌<◌, ◌^◌, List, [], ◌∷◌, Option, None, Some, ◌≡◌, ℕ, ◌+◌, ◌≤◌, ◌++◌, length, map, arith, refl, subst, append_assoc, append-nil, ⊎_elim, Result, Ok, Err, ◌-◌, drop, option_map, rules}
use Rattle.mx_asm.proofs.Words.{AllByRecursion, AreBytes, Tree, number, name, back, ahead, here, unary, binary, Label, Name, Local, StatementTree, HasOctas, IsStatement, cases_lt, all-both, ExprFault, TooWide, reading, Primary, Product, Sum, Operand, Operands, Spells, Before, FaultAt, Faultless, expression, string, none, more, empty, operands, list-read, cond_both, IfSome, bytes-front, bytes-after, Span, LineFault, Cut, is_too_far, part, cuts_from, statement, faulty, too_far, item_of, before, items_of, Op, Answer, IsOperation, Fields, label_of, Entry, with_operands, with_operation, entry_with, entry_of, entries_of, statements_in, Line, lines_entries, nat_tests, common_steps}
use Rattle.mx_expr.specs.Spelling.Primary.{constant, character, symbol, last_label, enclosed, signed}
use Rattle.mx_expr.specs.Spelling.Product.{primary, times}
use Rattle.mx_expr.specs.Spelling.Sum.{product, plus}
use Rattle.mx_expr.specs.Spelling.Before.{first, sign, parenthesis}
use Rattle.mx_expr.specs.Spelling.FaultAt.{too_wide}
use Rattle.mx_expr.proofs.Partial.{before-product, before-sum}
use Rattle.mx_line.specs.Source.{Item, items_from}
use Rattle.mx_stmt.proofs.FieldsRead.{operation-named}

-- ---- what holds of each statement of a source of bytes: names and labels are bytes, too

-- the numbers of an operand are octas, and its names are bytes
abbrev pub HasBytes : Tree → Type 0
HasBytes (number n) = n < 2 ^ 64
HasBytes (name text) = AreBytes text
HasBytes (back d) = Unit {0}
HasBytes (ahead d) = Unit {0}
HasBytes here = Unit {0}
HasBytes (unary op e) = HasBytes e
HasBytes (binary op l r) = HasBytes l × HasBytes r

abbrev pub IsLabelOfBytes : Label → Type 0
IsLabelOfBytes (Name text) = AreBytes text
IsLabelOfBytes (Local d) = Unit {0}

abbrev pub IfLabelOfBytes : Option Label → Type 0
IfLabelOfBytes None = Unit {0}
IfLabelOfBytes (Some label) = IsLabelOfBytes label

pub record IsOfBytes (s : StatementTree) : Type 0 where
  pub statement : IsStatement s
  pub label : IfLabelOfBytes s.label
  pub operands : AllByRecursion HasBytes s.operands

pub has-octas : (e : Tree) → HasBytes e → HasOctas e
has-octas (number n) h = h
has-octas (unary op e) h = has-octas e h
has-octas (binary op l r) h = (has-octas l h.0, has-octas r h.1)
has-octas e h = tt

pub all-octas : (es : List Tree) → AllByRecursion HasBytes es → AllByRecursion HasOctas es
all-octas [] h = tt
all-octas (e ∷ es) h = (has-octas e h.0, all-octas es h.1)

pub are-statements : (statements : List StatementTree) → AllByRecursion IsOfBytes statements → AllByRecursion IsStatement statements
are-statements [] h = tt
are-statements (s ∷ later) h = (h.0.statement, are-statements later h.1)

-- ---- the trees of a field of bytes: their numbers are octas, and their names are bytes

pub bytes-cut : (front following : List ℕ) → AreBytes (front ++ following) → AreBytes front × AreBytes following
bytes-cut [] following h = (tt, h)
bytes-cut (b ∷ front) following h = let rest = bytes-cut front following h.1 in ((h.0, rest.0), rest.1)

-- a part of a field without a fault, and what is around it
record Part (front text rest : List ℕ) : Type 0 where
  field : List ℕ
  whole : front ++ (text ++ rest) ≡ field
  sound : Faultless field
  bytes : AreBytes text

mutual
  primary-bytes : {text : List ℕ} {e : Tree} → Primary text e → (front rest : List ℕ) (d : ℕ) → Before d front → Part front text rest → HasBytes e
  primary-bytes (constant t n h) front rest d b s =
      ⊎_elim (λ (l : n < 2 ^ 64). l) (λ (wide : 2 ^ 64 ≤ n). absurd (s.sound TooWide (length front) (subst (λ f. FaultAt f TooWide (length front)) s.whole (too_wide front t rest d n b h wide)))) (cases_lt n (2 ^ 64))
  primary-bytes (character c) front rest d b s = let byte = s.bytes.1.0 in omega (arith, byte)
  primary-bytes (symbol c t h a) front rest d b s = s.bytes
  primary-bytes (enclosed t e h) front rest d b s =
      sum-bytes h (front ++ 40 ∷ []) (41 ∷ rest) (d + 1) (parenthesis d front b)
      (record { field = s.field; whole = simp append_assoc (simp append_assoc at s.whole); sound = s.sound; bytes = (bytes-cut t (41 ∷ []) s.bytes.1).0 })
  primary-bytes (signed c op t e g h) front rest d b s =
      primary-bytes h (front ++ c ∷ []) rest d (sign d front c op b g) (record { field = s.field; whole = simp append_assoc s.whole; sound = s.sound; bytes = s.bytes.1 })
  primary-bytes (last_label c h) front rest d b s = tt
  primary-bytes _ front rest d b s = tt

  product-bytes : {text : List ℕ} {e : Tree} → Product text e → (front rest : List ℕ) (d : ℕ) → Before d front → Part front text rest → HasBytes e
  product-bytes (primary t e h) front rest d b s = primary-bytes h front rest d b s
  product-bytes (times t word part op l r h w g) front rest d b s =
      let cut = bytes-cut t (word ++ part) s.bytes in (
        product-bytes h front ((word ++ part) ++ rest) d b (record { field = s.field; whole = simp append_assoc (simp append_assoc at s.whole); sound = s.sound; bytes = cut.0 }),
        primary-bytes g (front ++ (t ++ word)) rest d (before-product d front h b word op w)
            (record { field = s.field; whole = simp append_assoc (simp append_assoc at s.whole); sound = s.sound; bytes = (bytes-cut word part cut.1).1 }),
      )

  sum-bytes : {text : List ℕ} {e : Tree} → Sum text e → (front rest : List ℕ) (d : ℕ) → Before d front → Part front text rest → HasBytes e
  sum-bytes (product t e h) front rest d b s = product-bytes h front rest d b s
  sum-bytes (plus t c part op l r h w g) front rest d b s =
      let cut = bytes-cut t (c ∷ part) s.bytes in (
        sum-bytes h front ((c ∷ part) ++ rest) d b (record { field = s.field; whole = simp append_assoc at s.whole; sound = s.sound; bytes = cut.0 }),
        product-bytes g (front ++ (t ++ c ∷ [])) rest d (before-sum d front h b c op w)
            (record { field = s.field; whole = simp append_assoc (simp append_assoc at s.whole); sound = s.sound; bytes = cut.1.1 }),
      )

numbers-bytes : (bytes following : List ℕ) → AreBytes (bytes ++ following) → AllByRecursion HasBytes (map number bytes)
numbers-bytes [] following l = tt
numbers-bytes (b ∷ bytes) following l = let byte = l.0 in (omega (arith, byte), numbers-bytes bytes following l.1)

operand-bytes : {part : List ℕ} {fs : List Tree} → Operand part fs → (front rest : List ℕ) (es : List Tree) → Operands front es → Part front part rest → AllByRecursion HasBytes fs
operand-bytes (expression t e h) front rest es o s = (sum-bytes h front rest 0 (first front es o) s, tt)
operand-bytes (string bytes h) front rest es o s = numbers-bytes bytes (34 ∷ []) s.bytes.1

operands-bytes : {front : List ℕ} {es : List Tree} → Operands front es → (rest : List ℕ) → Part [] front rest → AllByRecursion HasBytes es
operands-bytes none rest s = tt
operands-bytes (more t part es fs h g) rest s =
    let cut = bytes-cut t (part ++ 44 ∷ []) s.bytes in
    all-both HasBytes es fs
    (operands-bytes h ((part ++ 44 ∷ []) ++ rest) (record { field = s.field; whole = simp append_assoc (simp append_assoc at s.whole); sound = s.sound; bytes = cut.0 }))
    (operand-bytes g t (44 ∷ rest) es h (record { field = s.field; whole = simp append_assoc at s.whole; sound = s.sound; bytes = (bytes-cut part (44 ∷ []) cut.1).0 }))

spelled-bytes : {field : List ℕ} {es : List Tree} → Spells field es → Faultless field → AreBytes field → AllByRecursion HasBytes es
spelled-bytes empty sound l = (omega arith, tt)
spelled-bytes (operands t part es fs h g) sound l =
    let cut = bytes-cut t part l in
    all-both HasBytes es fs
    (operands-bytes h part (record { field = t ++ part; whole = refl; sound = sound; bytes = cut.0 }))
    (operand-bytes g t [] es h (record { field = t ++ part; whole = simp append-nil; sound = sound; bytes = cut.1 }))

abbrev pub ListHas : Result (List Tree) ExprFault → Type 0
ListHas (Err fault) = Unit {0}
ListHas (Ok es) = AllByRecursion HasBytes es

answer-has : (field : List ℕ) (r : Result (List Tree) ExprFault) → AreBytes field → reading field ≡ r → ListHas r
answer-has field (Err fault) l is = tt
answer-has field (Ok es) l is = let list = (list-read field es).0 is in spelled-bytes list.0 list.1 l

pub field-has : (field : List ℕ) → AreBytes field → ListHas (reading field)
field-has field l = answer-has field (reading field) l refl

-- ---- the statements of lines of bytes are as statements are that were read, and their names and labels are bytes

-- ---- statements

abbrev EntryHas : Entry → Type 0
EntryHas (Err refused) = Unit {0}
EntryHas (Ok s) = IsOfBytes s

operands-has : (fields : Fields) (line : ℕ) (op : Op) (r : Result (List Tree) ExprFault) → 0 < line → IfLabelOfBytes fields.label → IsOperation op → ListHas r → EntryHas (entry_with line (with_operands fields line op r))
operands-has fields line op (Err fault) some label is h = tt
operands-has fields line op (Ok trees) some label is h = search (rules, all-octas)

operation-has : (fields : Fields) (line : ℕ) (r : Answer Op) → 0 < line → IfLabelOfBytes fields.label → ((op : Op) → r ≡ Ok op → IsOperation op) → AreBytes fields.operands → EntryHas (entry_with line (with_operation fields line r))
operation-has fields line r h1 h2 h3 h4 = search (rules, operands-has, field-has)

labels-have : (label : Option (List ℕ)) → IfSome label AreBytes → IfLabelOfBytes (option_map label_of label)
labels-have label h = grind (arith, nat_tests)

abbrev ItemHas : Item → Type 0
ItemHas (statement line label op field) = (0 < line) × IfSome label AreBytes × AreBytes field
ItemHas (faulty line why) = Unit {0}
ItemHas (too_far line) = Unit {0}

entry-has : (i : Item) → ItemHas i → EntryHas (entry_of i)
entry-has i h = search (rules, operation-has, labels-have, operation-named)

entries-have : (items : List Item) → AllByRecursion ItemHas items → AllByRecursion IsOfBytes (statements_in (entries_of items))
entries-have [] h = tt
entries-have (i ∷ items) h = search (rules, entry-has, entries-have items h.1)

-- ---- lines

pub part-bytes : (line : List ℕ) (s : Span) → AreBytes line → AreBytes (part line s)
part-bytes line s h = bytes-front (s.to - s.from) (drop s.from line) (bytes-after s.from line h)

item-has : (n : ℕ) (line : List ℕ) (r : Result Cut LineFault) → 0 < n → AreBytes line → ItemHas (item_of n line r)
item-has n line r h1 h2 = grind (arith, common_steps, nat_tests)

map-has : (n : ℕ) (line : List ℕ) (rs : List (Result Cut LineFault)) → 0 < n → AreBytes line → AllByRecursion ItemHas (map (item_of n line) rs)
map-has n line [] some h = tt
map-has n line (r ∷ rs) some h = (item-has n line r some h, map-has n line rs some h)

before-has : (items later : List Item) → AllByRecursion ItemHas items → AllByRecursion ItemHas later → AllByRecursion ItemHas (before items later)
before-has [] later h g = g
before-has (statement line label op field ∷ items) later h g = (h.0, before-has items later h.1 g)
before-has items later h g = (tt, tt)

items-have : (all : List (List ℕ)) (n : ℕ) (lines : List (List ℕ)) → 0 < n → AllByRecursion AreBytes lines → AllByRecursion ItemHas (items_from all n lines)
unfolding items_from
items-have all n [] some h = tt
items-have all n (line ∷ lines) some h = cond_both (is_too_far all n) _ _ (AllByRecursion ItemHas)
    (λ _. (tt, tt))
    (λ _. before-has (items_of n line) (items_from all (n + 1) lines) (map-has n line (cuts_from line 0) some h.0) (items-have all (n + 1) lines (omega arith) h.1))

pub lines-of-bytes : (lines : List Line) → AllByRecursion AreBytes lines → AllByRecursion IsOfBytes (statements_in (lines_entries lines))
lines-of-bytes lines h = entries-have (items_from lines 1 lines) (items-have lines 1 lines (omega arith) h)

pub lines-read : (lines : List Line) → AllByRecursion AreBytes lines → AllByRecursion IsStatement (statements_in (lines_entries lines))
lines-read lines h = are-statements (statements_in (lines_entries lines)) (lines-of-bytes lines h)
