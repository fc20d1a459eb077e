-- The names of a source ascend: none begins before the end of the one before it.
use Rattle.std.proofs.Common.{◌≡◌, ◌≤◌, ◌<◌, ℕ, zero, suc, ◌+◌, ◌-◌, Bool, true, false, cond, List, [], ◌∷◌, ◌++◌, length, take, drop, Option, None, Some, Result, Ok, Err, refl, arith, ◌⊎◌, inl, inr}
use Rattle.std.specs.List.{All, AllByRecursion, AllPairs, flat_map}
use Rattle.std.specs.Option.{option_map}
use Rattle.std.proofs.lemmas.Grind.{common_steps}
use Rattle.std.proofs.lemmas.List.Kept.{AllPairs-cons}
use Rattle.mx_line.specs.declared.cutter.Cut.{Cut}
use Rattle.mx_line.specs.declared.faults.LineFault.{LineFault}
use Rattle.mx_line.specs.declared.spans.Span.{Span}
use Rattle.mx_line.specs.Cutting.{CutInOrder, InOrder, LabelBefore, cuts_from, cuts_within, list_with, statement_of}
use Rattle.mx_line.specs.Spans.{part}
use Rattle.mx_line.proofs.StatementLemmas.{statement-order}
use Rattle.mx_slips.specs.Sources.{numbered_from, statement_at, statements_in}
use Rattle.mx_slips.specs.Tokens.{piece_at, token_length, tokens_after}
use Rattle.mx_slips.specs.declared.pieces.Piece.{Piece}
use Rattle.mx_slips.specs.declared.sources.Statement.{Statement}
use Rattle.mx_slips.specs.declared.tokens.Token.{Token}
use Rattle.mx_view.specs.declared.cells.Cell.{Cell}
use Rattle.mx_line.specs.Lines.{lines_of}
use Rattle.mx_occurrences.specs.declared.course.Course.{Course}
use Rattle.mx_occurrences.specs.declared.occurrence.Named.{Named}
use Rattle.mx_occurrences.specs.declared.occurrence.Occurrence.{Occurrence}
use Rattle.mx_occurrences.specs.Occurrences.{after_label, course_after, course_through, in_label, in_lines, in_operands, in_statement, in_statements, in_token, is_prefix, label_in, label_named, occurrences_of, start, token_if, token_named}
use Rattle.mx_occurrences.specs.Places.{Ascend, IsAfter}

short-part : (n : ℕ) (xs : List ℕ) → length (take n xs) ≤ n
short-part zero xs = omega arith
short-part (suc n) [] = omega arith
short-part (suc n) (x ∷ xs) = let le = short-part n xs in omega (arith, le)

part-within : (n : ℕ) (xs : List ℕ) → length (take n xs) ≤ length xs
part-within zero xs = omega arith
part-within (suc n) [] = omega arith
part-within (suc n) (x ∷ xs) = let le = part-within n xs in omega (arith, le)

-- ---- names between two places of a line, each after the end of the one before it

abbrev Within : ℕ → ℕ → ℕ → List Occurrence → Type 0
Within n p q [] = p ≤ q
Within n p q (o ∷ names) = (o.line ≡ n) × (p ≤ o.from) × Within n (o.from + length o.text) q names

sooner : (n p p' q : ℕ) (names : List Occurrence) → p ≤ p' → Within n p' q names → Within n p q names
sooner n p p' q [] le h = omega (arith, le, h)
sooner n p p' q (o ∷ names) le h = let from = h.1 in (h.0, omega (arith, le, from), h.2)

joined : (n p q r : ℕ) (names more : List Occurrence) → Within n p q names → Within n q r more → Within n p r (names ++ more)
joined n p q r [] more h g = sooner n p q r more h g
joined n p q r (o ∷ names) more h g = (h.0, h.1, joined n (o.from + length o.text) q r names more h.2 g)

-- ---- tokens

abbrev TokensWithin : ℕ → ℕ → List Token → Type 0
TokensWithin p q [] = p ≤ q
TokensWithin p q (t ∷ tokens) = (p ≤ t.from) × TokensWithin (t.from + length t.text) q tokens

tokens-within : (n end j p : ℕ) (text : List ℕ) → end ≡ j + length text → p ≤ j + n → p ≤ end → TokensWithin p end (tokens_after n end text)
unfolding tokens_after
tokens-within n end j p [] e le within = within
tokens-within (suc n) end j p (b ∷ bs) e le within = tokens-within n end (suc j) p bs (omega (arith, e)) (omega (arith, le)) within
tokens-within zero end j p (b ∷ bs) e le within =
    let k = token_length (b ∷ bs) in
    let from : end - length (b ∷ bs) ≡ j = omega (arith, e) in
    let short = short-part k (b ∷ bs) in
    let inside = part-within k (b ∷ bs) in (
      omega (arith, from, le),
      tokens-within (k - 1) end (suc j) (end - length (b ∷ bs) + length (take k (b ∷ bs))) bs (omega (arith, e)) (omega (arith, from, short)) (omega (arith, e, from, inside)),
    )

token-names : (n p q : ℕ) (before c : Course) (tokens : List Token) → TokensWithin p q tokens → Within n p q (flat_map (in_token before c n) tokens)
token-names n p q before c [] h = h
token-names n p q before c (t ∷ tokens) h = by (token_named before c t.text) (token-names n (t.from + length t.text) q before c tokens h.1)
  where
    by : (named : Option Named) → Within n (t.from + length t.text) q (flat_map (in_token before c n) tokens) →
        Within n p q (token_if n t named ++ flat_map (in_token before c n) tokens)
    by None more = let from = h.0 in sooner n p (t.from + length t.text) q _ (omega (arith, from)) more
    by (Some named) more = (refl, h.0, more)

-- ---- statements

abbrev LabelWithin : ℕ → ℕ → Option Piece → Type 0
LabelWithin p q None = p ≤ q
LabelWithin p q (Some label) = (p ≤ label.from) × (label.from + length label.text ≤ q)

pub record IsStatementWithin (p q : ℕ) (s : Statement) : Type 0 where
  pub middle : ℕ
  pub label : LabelWithin p middle s.label
  pub tokens : TokensWithin middle q s.tokens

abbrev StatementsWithin : ℕ → ℕ → List Statement → Type 0
StatementsWithin p q [] = p ≤ q
StatementsWithin p q (s ∷ later) = (r : ℕ) × (IsStatementWithin p r s × StatementsWithin r q later)

part-short : (line : List ℕ) (span : Span) → span.from ≤ span.to → span.from + length (part line span) ≤ span.to
part-short line span le = let short = short-part (span.to - span.from) (drop span.from line) in omega (arith, short, le)

part-long : (line : List ℕ) (span : Span) → span.from ≤ span.to → span.to ≤ length line → span.to ≡ span.from + length (part line span)
part-long line span le within = grind (arith, common_steps)

label-within : (line : List ℕ) (place op : ℕ) (span : Option Span) → LabelBefore place span op → LabelWithin place op (option_map (piece_at line) span)
label-within line place op None h = omega (arith, h)
label-within line place op (Some span) h =
    let from = h.0 in
    let some = h.1 in
    let before = h.2 in
    let short = part-short line span (omega (arith, from, some)) in
    (omega (arith, from), omega (arith, short, before))

cut-within : (line : List ℕ) (place : ℕ) (cut : Cut) → InOrder place (length line) cut → IsStatementWithin place cut.next (statement_at line cut)
cut-within line place cut order =
    let op = order.op in
    let gap = order.gap in
    let operands = order.operands in
    let next = order.next in
    let within = order.within in
    let long = part-long line cut.operands operands (omega (arith, next, within)) in
    record {
      middle = cut.op.from;
      label = label-within line place cut.op.from cut.label order.label;
      tokens = longer cut.operands.to cut.next (statement_at line cut).tokens next
          (tokens-within 0 cut.operands.to cut.operands.from cut.op.from (part line cut.operands) long (omega (arith, op, gap)) (omega (arith, op, gap, operands)));
    }
  where
    longer : (q r : ℕ) (tokens : List Token) → q ≤ r → TokensWithin cut.op.from q tokens → TokensWithin cut.op.from r tokens
    longer q r tokens le h = by cut.op.from tokens h
      where
        by : (p : ℕ) (tokens : List Token) → TokensWithin p q tokens → TokensWithin p r tokens
        by p [] g = omega (arith, le, g)
        by p (t ∷ more) g = (g.0, by (t.from + length t.text) more g.1)

found-within : (line : List ℕ) (place : ℕ) (later : ℕ → List (Result Cut LineFault)) → place ≤ length line →
    ((p : ℕ) → p ≤ length line → StatementsWithin p (length line) (statements_in line (later p))) →
    (found : Result (Option Cut) LineFault) → CutInOrder place (length line) found → StatementsWithin place (length line) (statements_in line (list_with later found))
unfolding statements_in
found-within line place later le at (Err why) order = le
found-within line place later le at (Ok None) order = le
found-within line place later le at (Ok (Some cut)) order = (cut.next, (cut-within line place cut order, at cut.next order.within))

cuts-within : (most : ℕ) (line : List ℕ) (place : ℕ) → place ≤ length line → StatementsWithin place (length line) (statements_in line (cuts_within most line place))
unfolding cuts_within statements_in
cuts-within zero line place le = le
cuts-within (suc most) line place le =
    found-within line place (cuts_within most line) le (λ p within. cuts-within most line p within) (statement_of line place) (statement-order line place le)

-- ---- names of statements

label-name : (n p q : ℕ) (c : Course) (label : Option Piece) → LabelWithin p q label → Within n p q (label_in c n label)
label-name n p q c None h = h
label-name n p q c (Some label) h = (refl, h.0, h.1)

operand-names : (n p q : ℕ) (before c : Course) (s : Statement) (is : Bool) → TokensWithin p q s.tokens → Within n p q (cond is [] (flat_map (in_token before c n) s.tokens))
operand-names n p q before c s true h = empty p s.tokens h
  where
    empty : (p : ℕ) (tokens : List Token) → TokensWithin p q tokens → p ≤ q
    empty p [] g = g
    empty p (t ∷ more) g = let from = g.0 in let rest = empty (t.from + length t.text) more g.1 in omega (arith, from, rest)
operand-names n p q before c s false h = token-names n p q before c s.tokens h

statement-names : (n p q : ℕ) (c : Course) (s : Statement) → IsStatementWithin p q s → Within n p q (in_statement c n s)
statement-names n p q c s h =
    joined n p h.middle q (in_label (after_label c s) n s) (in_operands c (after_label c s) n s)
    (label-name n p h.middle (after_label c s) s.label h.label) (operand-names n h.middle q c (after_label c s) s (is_prefix s) h.tokens)

statements-names : (n p q : ℕ) (c : Course) (statements : List Statement) → StatementsWithin p q statements → Within n p q (in_statements c n statements)
unfolding in_statements
statements-names n p q c [] h = h
statements-names n p q c (s ∷ later) h =
    joined n p h.0 q (in_statement c n s) (in_statements (course_after c s) n later)
    (statement-names n p h.0 c s h.1.0) (statements-names n h.0 q (course_after c s) later h.1.1)

-- ---- lines

abbrev Ascending : List Occurrence → Type 0
Ascending [] = Unit {0}
Ascending (o ∷ names) = AllByRecursion (IsAfter o) names × Ascending names

-- names from a place of a line on, or in later lines
abbrev IsFrom : ℕ → ℕ → Occurrence → Type 0
IsFrom n p o = (n < o.line) ⊎ ((o.line ≡ n) × (p ≤ o.from))

pub record From (n p : ℕ) (names : List Occurrence) : Type 0 where
  pub ascend : Ascending names
  pub each : AllByRecursion (IsFrom n p) names

each-after : (n : ℕ) (o : Occurrence) (names : List Occurrence) → o.line ≡ n → AllByRecursion (IsFrom n (o.from + length o.text)) names → AllByRecursion (IsAfter o) names
each-after n o [] e h = tt
each-after n o (p ∷ names) e h = (by h.0, each-after n o names e h.1)
  where
    by : IsFrom n (o.from + length o.text) p → IsAfter o p
    by (inl lt) = inl (omega (arith, e, lt))
    by (inr at) = let same = at.0 in inr (omega (arith, e, same), at.1)

each-sooner : (n p p' : ℕ) (names : List Occurrence) → p ≤ p' → AllByRecursion (IsFrom n p') names → AllByRecursion (IsFrom n p) names
each-sooner n p p' [] le h = tt
each-sooner n p p' (o ∷ names) le h = (by h.0, each-sooner n p p' names le h.1)
  where
    by : IsFrom n p' o → IsFrom n p o
    by (inl lt) = inl lt
    by (inr at) = let from = at.1 in inr (at.0, omega (arith, le, from))

-- names of a line, and those of later lines
line-then : (n p q : ℕ) (names more : List Occurrence) → Within n p q names → From (n + 1) 0 more → From n p (names ++ more)
line-then n p q [] more h g = record { ascend = g.ascend; each = next more g.each }
  where
    by : (o : Occurrence) → IsFrom (n + 1) 0 o → IsFrom n p o
    by o (inl lt) = inl (omega (arith, lt))
    by o (inr at) = let same = at.0 in inl (omega (arith, same))

    next : (names : List Occurrence) → AllByRecursion (IsFrom (n + 1) 0) names → AllByRecursion (IsFrom n p) names
    next [] e = tt
    next (o ∷ names) e = (by o e.0, next names e.1)
line-then n p q (o ∷ names) more h g =
    let rest = line-then n (o.from + length o.text) q names more h.2 g in
    let from = h.1 in
    record {
      ascend = (each-after n o (names ++ more) h.0 rest.each, rest.ascend);
      each = (inr (h.0, h.1), each-sooner n p (o.from + length o.text) (names ++ more) (omega (arith, from)) rest.each);
    }

lines-from : (n : ℕ) (c : Course) (loads : List (List Cell)) (lines : List (List ℕ)) → From n 0 (in_lines c (numbered_from n loads lines))
unfolding in_lines numbered_from
lines-from n c loads [] = record { ascend = tt; each = tt }
lines-from n c loads (line ∷ later) =
    let statements = statements_in line (cuts_from line 0) in
    line-then n 0 (length line) (in_statements c n statements) (in_lines (course_through c statements) (numbered_from (n + 1) (drop 1 loads) later))
    (statements-names n 0 (length line) c statements (cuts-within (length line + 1 - 0) line 0 (omega arith)))
    (lines-from (n + 1) (course_through c statements) (drop 1 loads) later)

-- ---- by places in the list

all-later : (P : Occurrence → Type 0) (names : List Occurrence) → AllByRecursion P names → All P names
all-later P [] h k d within = absurd (omega (arith, within))
all-later P (o ∷ names) h zero d within = h.0
all-later P (o ∷ names) h (suc k) d within = all-later P names h.1 k d (omega (arith, within))

in-pairs : (names : List Occurrence) → Ascending names → AllPairs IsAfter names
in-pairs [] h = λ i j d lt within. absurd (omega (arith, within))
in-pairs (o ∷ names) h = AllPairs-cons IsAfter o names (all-later (IsAfter o) names h.0) (in-pairs names h.1)

pub names-ascend : (source : List ℕ) → Ascend (occurrences_of source)
names-ascend source = in-pairs (occurrences_of source) (lines-from 1 start [] (lines_of source)).ascend
