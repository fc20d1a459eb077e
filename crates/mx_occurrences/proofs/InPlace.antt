-- The names of a source are in their places.
use Rattle.std.proofs.Common.{◌≡◌, ◌≤◌, ◌<◌, ℕ, zero, suc, ◌+◌, ◌-◌, ◌==◌, Bool, true, false, cond, List, [], ◌∷◌, ◌++◌, length, take, drop, Option, None, Some, Result, Ok, Err, refl, ap, sym, ◌∙◌, arith, append-nil}
use Rattle.std.specs.List.{AllByRecursion, flat_map, slice_range}
use Rattle.std.specs.Option.{option_map}
use Rattle.std.proofs.lemmas.Bool.Decides.{nat_tests}
use Rattle.std.proofs.lemmas.Grind.{common_steps}
use Rattle.std.proofs.lemmas.List.{drop-drop, take-append-drop}
use Rattle.mx_line.specs.declared.cutter.Cut.{Cut}
use Rattle.mx_line.specs.declared.faults.LineFault.{LineFault}
use Rattle.mx_line.specs.declared.spans.Span.{Span}
use Rattle.mx_line.specs.Cutting.{CutInOrder, InOrder, cuts_from, cuts_within, list_with, statement_of}
use Rattle.mx_line.specs.Lines.{lines_of}
use Rattle.mx_line.specs.Spans.{part}
use Rattle.mx_line.proofs.StatementLemmas.{statement-order}
use Rattle.mx_marks.specs.Mending.{line_text}
use Rattle.mx_slips.specs.Loads.{first_cells}
use Rattle.mx_slips.specs.Sources.{line_with, numbered_from, statement_at, statements_in}
use Rattle.mx_slips.specs.Tokens.{piece_at, token_length, tokens_after, tokens_of}
use Rattle.mx_slips.specs.declared.pieces.Piece.{Piece}
use Rattle.mx_slips.specs.declared.sources.Statement.{Statement}
use Rattle.mx_slips.specs.declared.sources.SourceLine.{SourceLine}
use Rattle.mx_slips.specs.declared.tokens.Token.{Token}
use Rattle.mx_view.specs.declared.cells.Cell.{Cell}
use Rattle.mx_occurrences.specs.declared.course.Course.{Course}
use Rattle.mx_occurrences.specs.declared.occurrence.Named.{Named}
use Rattle.mx_occurrences.specs.declared.occurrence.Occurrence.{Occurrence}
use Rattle.mx_occurrences.specs.Occurrences.{after_label, course_after, course_through, in_label, in_lines, in_operands, in_statement, in_statements, in_token, is_prefix, label_in, occurrences_of, start, token_if, token_named}
use Rattle.mx_occurrences.specs.Places.{AreInPlace, IsAt, IsInPlace}

-- ---- texts at places

front-again : (n : ℕ) (xs rest : List ℕ) → take (length (take n xs)) (xs ++ rest) ≡ take n xs
front-again zero xs rest = refl
front-again (suc n) [] rest = refl
front-again (suc n) (x ∷ xs) rest = ap (λ more. x ∷ more) (front-again n xs rest)

front-whole : (n : ℕ) (xs : List ℕ) → take (length (take n xs)) xs ≡ take n xs
front-whole n xs = ap (take (length (take n xs))) (sym (append-nil xs)) ∙ front-again n xs []

part-at : (line : List ℕ) (span : Span) → IsAt line span.from (part line span)
part-at line span = front-whole (span.to - span.from) (drop span.from line)

next-drop : (j : ℕ) (line : List ℕ) (b : ℕ) (bs : List ℕ) → drop j line ≡ b ∷ bs → drop (suc j) line ≡ bs
next-drop zero [] b bs e = absurd (cc)
next-drop zero (c ∷ line) b bs e = cc
next-drop (suc j) [] b bs e = absurd (cc)
next-drop (suc j) (c ∷ line) b bs e = next-drop j line b bs e

-- ---- tokens

abbrev pub AreTokensAt : List ℕ → List Token → Type 0
AreTokensAt line tokens = AllByRecursion (λ (t : Token). IsAt line t.from t.text) tokens

tokens-at : (line : List ℕ) (n j end : ℕ) (text rest : List ℕ) → drop j line ≡ text ++ rest → end ≡ j + length text → AreTokensAt line (tokens_after n end text)
unfolding tokens_after
tokens-at line n j end [] rest e f = tt
tokens-at line (suc n) j end (b ∷ bs) rest e f = tokens-at line n (suc j) end bs rest (next-drop j line b (bs ++ rest) e) (omega (arith, f))
tokens-at line zero j end (b ∷ bs) rest e f =
    let from : end - length (b ∷ bs) ≡ j = omega (arith, f) in
    let k = token_length (b ∷ bs) in
    let front : take (length (take k (b ∷ bs))) (drop (end - length (b ∷ bs)) line) ≡ take k (b ∷ bs) = rw (from, e) (front-again k (b ∷ bs) rest) in
    (front, tokens-at line (k - 1) (suc j) end bs rest (next-drop j line b (bs ++ rest) e) (omega (arith, f)))

-- ---- statements

pub record IsStatementAt (line : List ℕ) (s : Statement) : Type 0 where
  pub label : (label : Piece) → s.label ≡ Some label → IsAt line label.from label.text
  pub tokens : AreTokensAt line s.tokens

label-at : (line : List ℕ) (span : Option Span) (label : Piece) → option_map (piece_at line) span ≡ Some label → IsAt line label.from label.text
label-at line None label e = absurd (cc)
label-at line (Some span) label e = let is : piece_at line span ≡ label = cc in rw (← is) (part-at line span)

part-front : (line : List ℕ) (span : Span) → span.from ≤ span.to → span.to ≤ length line → drop span.from line ≡ part line span ++ drop span.to line
part-front line span le within =
    let same : span.from + (span.to - span.from) ≡ span.to = omega (arith, le) in
    sym (take-append-drop (span.to - span.from) (drop span.from line))
    ∙ ap (λ t. part line span ++ t) (drop-drop (span.to - span.from) span.from line ∙ ap (λ n. drop n line) same)

part-long : (line : List ℕ) (span : Span) → span.from ≤ span.to → span.to ≤ length line → span.to ≡ span.from + length (part line span)
part-long line span le within = grind (arith, common_steps)

cut-at : (line : List ℕ) (place : ℕ) (cut : Cut) → InOrder place (length line) cut → IsStatementAt line (statement_at line cut)
cut-at line place cut order =
    let within : cut.operands.to ≤ length line = omega (arith, order.next, order.within) in
    record {
      label = λ label e. label-at line cut.label label e;
      tokens = tokens-at line 0 cut.operands.from cut.operands.to (part line cut.operands) (drop cut.operands.to line)
          (part-front line cut.operands order.operands within) (part-long line cut.operands order.operands within);
    }

found-at : (line : List ℕ) (place : ℕ) (later : ℕ → List (Result Cut LineFault)) →
    ((p : ℕ) → p ≤ length line → AllByRecursion (IsStatementAt line) (statements_in line (later p))) →
    (found : Result (Option Cut) LineFault) → CutInOrder place (length line) found → AllByRecursion (IsStatementAt line) (statements_in line (list_with later found))
unfolding statements_in
found-at line place later at (Err why) order = tt
found-at line place later at (Ok None) order = tt
found-at line place later at (Ok (Some cut)) order = (cut-at line place cut order, at cut.next order.within)

cuts-at : (most : ℕ) (line : List ℕ) (place : ℕ) → place ≤ length line → AllByRecursion (IsStatementAt line) (statements_in line (cuts_within most line place))
unfolding cuts_within statements_in
cuts-at zero line place le = tt
cuts-at (suc most) line place le =
    found-at line place (cuts_within most line) (λ p within. cuts-at most line p within) (statement_of line place) (statement-order line place le)

-- ---- names

all-both : (P : Occurrence → Type 0) (xs ys : List Occurrence) → AllByRecursion P xs → AllByRecursion P ys → AllByRecursion P (xs ++ ys)
all-both P [] ys all others = others
all-both P (x ∷ xs) ys all others = (all.0, all-both P xs ys all.1 others)

label-in-place : (all : List (List ℕ)) (line : List ℕ) (n : ℕ) (c : Course) (label : Option Piece) → line_text n all ≡ line →
    ((it : Piece) → label ≡ Some it → IsAt line it.from it.text) → AllByRecursion (IsInPlace all) (label_in c n label)
label-in-place all line n c None e at = tt
label-in-place all line n c (Some label) e at = (rw e (at label refl), tt)

token-in-place : (all : List (List ℕ)) (line : List ℕ) (n : ℕ) (t : Token) (named : Option Named) → line_text n all ≡ line → IsAt line t.from t.text →
    AllByRecursion (IsInPlace all) (token_if n t named)
token-in-place all line n t None e at = tt
token-in-place all line n t (Some named) e at = (rw e at, tt)

tokens-in-place : (all : List (List ℕ)) (line : List ℕ) (n : ℕ) (before c : Course) (tokens : List Token) → line_text n all ≡ line → AreTokensAt line tokens →
    AllByRecursion (IsInPlace all) (flat_map (in_token before c n) tokens)
tokens-in-place all line n before c [] e at = tt
tokens-in-place all line n before c (t ∷ tokens) e at =
    all-both (IsInPlace all) (in_token before c n t) (flat_map (in_token before c n) tokens)
    (token-in-place all line n t (token_named before c t.text) e at.0) (tokens-in-place all line n before c tokens e at.1)

operands-in-place : (all : List (List ℕ)) (line : List ℕ) (n : ℕ) (before c : Course) (s : Statement) (is : Bool) → line_text n all ≡ line → AreTokensAt line s.tokens →
    AllByRecursion (IsInPlace all) (cond is [] (flat_map (in_token before c n) s.tokens))
operands-in-place all line n before c s true e at = tt
operands-in-place all line n before c s false e at = tokens-in-place all line n before c s.tokens e at

statement-in-place : (all : List (List ℕ)) (line : List ℕ) (n : ℕ) (c : Course) (s : Statement) → line_text n all ≡ line → IsStatementAt line s →
    AllByRecursion (IsInPlace all) (in_statement c n s)
statement-in-place all line n c s e at =
    all-both (IsInPlace all) (in_label (after_label c s) n s) (in_operands c (after_label c s) n s)
    (label-in-place all line n (after_label c s) s.label e at.label)
    (operands-in-place all line n c (after_label c s) s (is_prefix s) e at.tokens)

statements-in-place : (all : List (List ℕ)) (line : List ℕ) (n : ℕ) (c : Course) (statements : List Statement) → line_text n all ≡ line → AllByRecursion (IsStatementAt line) statements →
    AllByRecursion (IsInPlace all) (in_statements c n statements)
unfolding in_statements
statements-in-place all line n c [] e at = tt
statements-in-place all line n c (s ∷ later) e at =
    all-both (IsInPlace all) (in_statement c n s) (in_statements (course_after c s) n later)
    (statement-in-place all line n c s e at.0) (statements-in-place all line n (course_after c s) later e at.1)

-- lines that are numbered from n on among all lines
abbrev AreNumbered : List (List ℕ) → ℕ → List (List ℕ) → Type 0
AreNumbered all n lines = (i : ℕ) → line_text (n + i) all ≡ line_text (1 + i) lines

first-line : (all : List (List ℕ)) (n : ℕ) (line : List ℕ) (later : List (List ℕ)) → AreNumbered all n (line ∷ later) → line_text n all ≡ line
unfolding line_text
first-line all n line later numbered = let zero_more : n + 0 ≡ n = omega arith in ap (λ k. line_text k all) (sym zero_more) ∙ numbered 0

later-lines : (all : List (List ℕ)) (n : ℕ) (line : List ℕ) (later : List (List ℕ)) → AreNumbered all n (line ∷ later) → AreNumbered all (n + 1) later
unfolding line_text
later-lines all n line later numbered i =
    let more : (n + 1) + i ≡ n + (1 + i) = omega arith in
    let no : (1 + (1 + i) == 1) ≡ false = grind (arith, nat_tests) in
    let less : (1 + (1 + i)) - 1 ≡ 1 + i = omega arith in
    ap (λ k. line_text k all) more ∙ numbered (1 + i) ∙ rw (no, less) refl

lines-in-place : (all : List (List ℕ)) (n : ℕ) (c : Course) (loads : List (List Cell)) (lines : List (List ℕ)) → AreNumbered all n lines →
    AllByRecursion (IsInPlace all) (in_lines c (numbered_from n loads lines))
unfolding in_lines numbered_from
lines-in-place all n c loads [] numbered = tt
lines-in-place all n c loads (line ∷ later) numbered =
    let statements = statements_in line (cuts_from line 0) in
    all-both (IsInPlace all) (in_statements c n statements) (in_lines (course_through c statements) (numbered_from (n + 1) (drop 1 loads) later))
    (statements-in-place all line n c statements (first-line all n line later numbered) (cuts-at (length line + 1 - 0) line 0 (omega arith)))
    (lines-in-place all (n + 1) (course_through c statements) (drop 1 loads) later (later-lines all n line later numbered))

pub names-in-place : (source : List ℕ) → AreInPlace source (occurrences_of source)
names-in-place source = lines-in-place (lines_of source) 1 start [] (lines_of source) (λ i. refl)

pub ruleset laws = (names-in-place)
