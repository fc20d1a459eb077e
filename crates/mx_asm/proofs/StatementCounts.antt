-- A source has few statements: each takes a byte or the end of its line, and the lines before one that is too far have at
-- most 2^22 bytes with the newlines between them.
use Rattle.std.proofs.Common.{◌≡◌, ◌<◌, ◌≤◌, ℕ, zero, suc, ◌+◌, ◌^◌, Bool, true, false, cond, List, [], ◌∷◌, ◌++◌, length, sum_by, Option, Result, Ok, refl, sym, ap, ◌∙◌, arith, append_assoc, length-append, rules}
use Rattle.mx_asm.proofs.Words.{ltb-false, length-map, LineFault, Cut, size_up_to, is_too_far, statement_of, list_with, cuts_within, statement, too_far, before, items_of, Entry, entry_of, statements_in, Line, lines_entries, nat_tests, common_steps}
use Rattle.mx_line.specs.Source.{Item, items_from}
use Rattle.mx_line.proofs.LineLemmas.{size-next}

-- ---- a line

list-few : (most : ℕ) (later : ℕ → List (Result Cut LineFault)) (r : Result (Option Cut) LineFault) → ((place : ℕ) → length (later place) ≤ most) → length (list_with later r) ≤ suc most
list-few most later r h = grind (arith, nat_tests)

cuts-few : (most : ℕ) (line : List ℕ) (place : ℕ) → length (cuts_within most line place) ≤ most
unfolding cuts_within
cuts-few zero line place = omega arith
cuts-few (suc most) line place = list-few most (cuts_within most line) (statement_of line place) (cuts-few most line)

items-of-few : (n : ℕ) (line : List ℕ) → length (items_of n line) ≤ length line + 1
items-of-few n line = search (rules, length-map, cuts-few)

-- ---- a source

before-few : (items later : List Item) → length (before items later) ≤ length items + length later
before-few (statement line label op operands ∷ items) later = let few = before-few items later in omega (arith, few)
before-few items later = omega arith

-- lines with a newline after each
abbrev size : List Line → ℕ
size lines = sum_by length lines + length lines

size-more : (lines : List Line) (line : Line) → size (lines ++ line ∷ []) ≡ size lines + length line + 1
size-more lines line = grind (arith, common_steps, nat_tests)

items-few : (all earlier lines : List Line) (n : ℕ) → all ≡ earlier ++ lines → n ≡ length earlier + 1 → size earlier ≤ 2 ^ 22 + 1 → length (items_from all n lines) + size earlier ≤ 2 ^ 22 + 2
unfolding items_from
items-few all earlier [] n whole at few = omega (arith, few)
items-few all earlier (line ∷ lines) n whole at few =
    by (is_too_far all n) (ltb-false (2 ^ 22) (size_up_to n all)) (items-few all (earlier ++ line ∷ []) lines (n + 1) (whole ∙ sym (append_assoc earlier (line ∷ []) lines)))
  where
    more : size (earlier ++ line ∷ []) ≡ size earlier + length line + 1
    more = size-more earlier line

    by : (b : Bool) → (b ≡ false → size_up_to n all ≤ 2 ^ 22) →
        (n + 1 ≡ length (earlier ++ line ∷ []) + 1 → size (earlier ++ line ∷ []) ≤ 2 ^ 22 + 1 → length (items_from all (n + 1) lines) + size (earlier ++ line ∷ []) ≤ 2 ^ 22 + 2) →
        length (cond b (too_far n ∷ []) (before (items_of n line) (items_from all (n + 1) lines))) + size earlier ≤ 2 ^ 22 + 2
    by true near later = omega (arith, few)
    by false near later =
        let within = near refl in
        let rest = later (omega (arith, at, length-append earlier (line ∷ []))) (omega (arith, within, ap (λ i. size_up_to i all) at ∙ ap (size_up_to (length earlier + 1)) whole ∙ size-next earlier line lines, more)) in
        let here = items-of-few n line in
        let both = before-few (items_of n line) (items_from all (n + 1) lines) in
        omega (arith, rest, here, both, more)

statements-few : (entries : List Entry) → length (statements_in entries) ≤ length entries
statements-few (Ok s ∷ entries) = let few = statements-few entries in omega (arith, few)
statements-few entries = omega arith

pub few-statements : (lines : List Line) → length (statements_in (lines_entries lines)) < 2 ^ 32
few-statements lines =
    let items = items-few lines [] lines 1 refl (omega arith) (omega arith) in
    let same = length-map (items_from lines 1 lines) entry_of in
    let few = statements-few (lines_entries lines) in
    omega (arith, items, same, few)
