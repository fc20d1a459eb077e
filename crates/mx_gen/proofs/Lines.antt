-- A text of lines, each with one statement, comes to the entries of these statements.
use Rattle.std.proofs.Common.{◌≡◌, ℕ, ◌+◌, ◌*◌, ◌^◌, ◌≤◌, Bool, true, false, not, cond, List, [], ◌∷◌, ◌++◌, length, map, sum_by, None, Ok, refl, sym, ap, ◌∙◌, arith, append_assoc, length-append, ◌==◌, rules}
use Rattle.mx_gen.proofs.Words.{list_all, AllByRecursion, and_parts, le-ltb, Cut, cuts_from, lines_of, is_too_far, is_other, StatementTree, Fields, fields_of, entry_with, entries_of, statement_in, source_entries, statements_in, refusal_in}
use Rattle.std.proofs.lemmas.List.{length_push}
use Rattle.std.proofs.lemmas.List.Sums.{sum_by-append}
use Rattle.mx_line.specs.Pieces.{split}
use Rattle.mx_line.specs.Source.{Item, too_far, before as in_front, items_of, items_from}
use Rattle.mx_line.proofs.LineLemmas.{no-lines, first-line, size-next}

-- lines, each with a newline after it
abbrev pub text_of : List (List ℕ) → List ℕ
text_of [] = []
text_of (l ∷ ls) = l ++ 10 ∷ text_of ls

abbrev pub no_newline : ℕ → Bool
no_newline b = not (b == 10)

-- bytes of an operand field, without a newline
abbrev pub IsClean : List ℕ → Type 0
IsClean ops = (list_all is_other ops ≡ true) × (list_all no_newline ops ≡ true)

cut-first : (l rest : List ℕ) → list_all no_newline l ≡ true → split 10 (l ++ 10 ∷ rest) ≡ l ∷ split 10 rest
unfolding split
cut-first [] rest all = refl
cut-first (b ∷ bs) rest all = search (rules, and_parts, cut-first bs rest)

pub lines-are : (ls : List (List ℕ)) → AllByRecursion (λ l. list_all no_newline l ≡ true) ls → lines_of (text_of ls) ≡ ls
lines-are [] h = no-lines
lines-are (l ∷ ls) h = first-line (l ++ 10 ∷ text_of ls) l (text_of ls) (cut-first l (text_of ls) h.0) ∙ ap (λ t. l ∷ t) (lines-are ls h.1)

-- A line of at most 40 bytes that is cut to one statement, which is read as this one.
pub record IsLine (line : List ℕ) (s : StatementTree) : Type 0 where
  pub plain : list_all no_newline line ≡ true
  pub short : length line ≤ 40
  pub cut : Cut
  pub fields : Fields
  pub cuts : cuts_from line 0 ≡ Ok cut ∷ []
  pub said : fields_of line cut ≡ fields
  pub read : entry_with s.line (statement_in fields s.line) ≡ Ok s

-- a line with a number
pub record IsNumbered (number : ℕ) (line : List ℕ) (s : StatementTree) : Type 0 where
  pub number_is : s.line ≡ number
  pub line_is : IsLine line s

abbrev pub AreLines : ℕ → List (List ℕ) → List StatementTree → Type 0
AreLines number [] [] = Unit {0}
AreLines number [] (s ∷ ss) = ⊥
AreLines number (l ∷ ls) [] = ⊥
AreLines number (l ∷ ls) (s ∷ ss) = IsNumbered number l s × AreLines (number + 1) ls ss

plain-lines : (number : ℕ) (ls : List (List ℕ)) (ss : List StatementTree) → AreLines number ls ss → AllByRecursion (λ l. list_all no_newline l ≡ true) ls
plain-lines number [] [] h = tt
plain-lines number (l ∷ ls) (s ∷ ss) h = (h.0.line_is.plain, plain-lines (number + 1) ls ss h.1)
plain-lines number ls ss h = absurd h

one-entry : (number : ℕ) (line : List ℕ) (s : StatementTree) (later : List Item) → IsNumbered number line s → entries_of (in_front (items_of number line) later) ≡ Ok s ∷ entries_of later
one-entry number line s later h = search rules

near : (all before : List (List ℕ)) (line : List ℕ) (after : List (List ℕ)) (number : ℕ) → number ≡ length before + 1 → all ≡ before ++ line ∷ after →
    sum_by length before ≤ 40 * length before → length line ≤ 40 → 41 * length all ≤ 2 ^ 22 → is_too_far all number ≡ false
near all before line after number is e few short most = grind (arith, length-append, size-next, le-ltb)

pub entries-from : (all before lines : List (List ℕ)) (number : ℕ) (ss : List StatementTree) → number ≡ length before + 1 → all ≡ before ++ lines →
    sum_by length before ≤ 40 * length before → 41 * length all ≤ 2 ^ 22 → AreLines number lines ss → entries_of (items_from all number lines) ≡ map Ok ss
unfolding items_from
entries-from all before [] number [] is e few most are = refl
entries-from all before (l ∷ ls) number (s ∷ ss) is e few most are =
    let short = are.0.line_is.short in
    let push = length_push before l in
    let sums : sum_by length (before ++ l ∷ []) ≡ sum_by length before + sum_by length (l ∷ []) = sum_by-append length before (l ∷ []) in
    let one : sum_by length (l ∷ []) ≡ length l = omega arith in
    ap (λ t. entries_of (cond t (too_far number ∷ []) (in_front (items_of number l) (items_from all (number + 1) ls)))) (near all before l ls number is e few short most)
    ∙ one-entry number l s (items_from all (number + 1) ls) are.0
    ∙ ap (λ es. Ok s ∷ es)
    (entries-from all (before ++ l ∷ []) ls (number + 1) ss (omega (arith, is, push)) (e ∙ sym (append_assoc before (l ∷ []) ls))
    (omega (arith, few, short, push, sums, one)) most are.1)
entries-from all before lines number ss is e few most are = absurd are

-- the entries of a text of lines
pub text-entries : (ls : List (List ℕ)) (ss : List StatementTree) → AreLines 1 ls ss → 41 * length ls ≤ 2 ^ 22 → source_entries (text_of ls) ≡ map Ok ss
text-entries ls ss are most =
    ap (λ t. entries_of (items_from t 1 t)) (lines-are ls (plain-lines 1 ls ss are)) ∙ entries-from ls [] ls 1 ss refl refl (omega arith) most are

pub statements-are : (ss : List StatementTree) → statements_in (map Ok ss) ≡ ss
statements-are [] = refl
statements-are (s ∷ ss) = ap (λ t. s ∷ t) (statements-are ss)

pub none-refused : (ss : List StatementTree) → refusal_in (map Ok ss) ≡ None
none-refused [] = refl
none-refused (s ∷ ss) = none-refused ss
