-- The object of a source that is accepted is not too long.
use Rattle.std.proofs.Common.{◌≡◌, ◌<◌, ◌≤◌, ℕ, ◌+◌, ◌*◌, ◌/◌, ◌^◌, false, not, List, [], ◌∷◌, ◌++◌, length, Option, None, Some, Result, Ok, Err, arith, refl, ap, length-append, rules, fold}
use Rattle.mx_asm.proofs.Words.{result_unwrap_or, sum_by-cons, Value, Awaited, Wait, same_awaited, Item, written, ending, NameTable, complete_form, waits_for, waits_for_others, Label, Name, Local, Placed, Answer, Known, StatementTree, Head, Refused, fixes, waiting_for, waiting_at, Sight, outline, waits_in, nothing_known, known_after, sights_from, sights_of, final_known, label_fault, fault_with, statement_fault, first_fault, moved, onto, fix_items, covered, byte_items, with_bytes, opening, first_head, sight_items, sight_head, items_from, closing, padded_trie, nat_tests, common_steps, IsSound, no_targets, encoding, sound-start, statements_in, source_entries, end_refusal, refusal, emission, AreBytes}
use Rattle.std.proofs.lemmas.List.Filters.{length-filter_both}
use Rattle.mx_word.specs.declared.waits.Awaited.TheVariants as awaited
use Rattle.mx_asm.proofs.Weights.{weight, weights}
use Rattle.mx_asm.proofs.OpenWaits.{any_settles, open_waits, open-unlabelled, open-named, open-local, named-waits, local-waits}
use Rattle.mx_asm.proofs.OneStatement.{AreLabels, name-new, no-label-fault, labels-kept}
use Rattle.mx_asm.proofs.OnePassLaw.{no-labels}
use Rattle.mx_asm.proofs.EndLaw.{both-none}
use Rattle.mx_asm.proofs.StatementLengths.{written-append, written-cons, load_length, encoding-fits}
use Rattle.mx_mmo.proofs.Spelt.{octas-length}
use Rattle.mx_asm.proofs.MeaningSteady.{sound-kept}
use Rattle.mx_asm.proofs.SourceWeights.{source-weights, source-short}

-- ---- the object of statements that are accepted has at most the sum of their weights, and what its front and its end take

-- the bytes that items are written as
abbrev pub size : List Item → ℕ
size items = length (written items)

-- ---- fix records

-- items that have at most this many bytes, or none at all
abbrev IfWithin : ℕ → Result (List Item) Refused → Type 0
IfWithin most (Err refused) = Unit {0}
IfWithin most (Ok items) = size items ≤ most

fixes-within : (line : ℕ) (value : Value) (waits : List Wait) → IfWithin (12 * length waits) (fixes line value waits)
unfolding fixes
fixes-within line value [] = omega arith
fixes-within line value (wait ∷ waits) = grind (arith, nat_tests, fixes-within line value waits)

moved-most : (lambda : ℕ) (value : Value) → size (moved lambda value) ≤ 12
moved-most lambda value = grind (arith, nat_tests)

onto-within : (front : List Item) (r : Result (List Item) Refused) (most : ℕ) → size front ≤ 12 → IfWithin most r → IfWithin (12 + most) (onto front r)
onto-within front r most h1 h2 = grind (arith, common_steps, nat_tests)

fix-items-within : (lambda line : ℕ) (value : Value) (waits : List Wait) → IfWithin (12 + 12 * length waits) (fix_items lambda line value waits)
fix-items-within lambda line value waits = search (rules, onto-within, moved-most, fixes-within)

-- ---- the items of a statement

bytes-most : (h : Head) (line start : ℕ) (bytes : List ℕ) → size (byte_items h line start bytes) ≤ 16 + load_length (covered start bytes)
bytes-most h line start bytes = grind (arith, nat_tests)

both-most : (r : Result (List Item) Refused) (items : List Item) (most more : ℕ) → IfWithin most r → size items ≤ more → size (result_unwrap_or (with_bytes r items) []) ≤ most + more
both-most r items most more h1 h2 = grind (arith, common_steps, nat_tests)

-- records and bytes: what is left of its weight is for its own references
placed-most : (h : Head) (before : List Sight) (s : Sight) (p : Placed) → outline s ≡ Ok p →
    size (sight_items h before s (Ok p)) + 12 * length p.waits ≤ 12 * length (waiting_at before s) + weight s.statement
placed-most h before s p is = search (rules, both-most, fix-items-within, bytes-most, encoding-fits)

-- ---- each reference is set right once

-- the references that a label sets right, and the others
parted : (who : Awaited) (waits : List Wait) → length (waits_for who waits) + length (waits_for_others who waits) ≡ length waits
parted who waits = length-filter_both (λ (w : Wait). same_awaited w.who who) (λ (w : Wait). not (same_awaited w.who who)) (λ w. refl) waits

-- those that wait before a statement and those of its own come to those that it sets right, and those that wait after it
abbrev Balances : List Sight → Sight → List Wait → Type 0
Balances before s waits = length waits + length (open_waits (before ++ s ∷ [])) ≡ length (open_waits before) + length (waits_in (outline s))

balance-none : (before : List Sight) (s : Sight) → s.statement.label ≡ None → Balances before s []
balance-none before s is = omega (arith, ap length (open-unlabelled before s is), length-append (open_waits before) (waits_in (outline s)))

balance-local : (before : List Sight) (s : Sight) (d : ℕ) → s.statement.label ≡ Some (Local d) → Balances before s (waiting_for before s (Some (Local d)))
balance-local before s d is =
    omega (
      arith,
      ap length (open-local before s d is),
      length-append (waits_for_others (awaited.Local d) (open_waits before)) (waits_in (outline s)),
      ap length (local-waits d before),
      parted (awaited.Local d) (open_waits before),
    )

balance-named : (before : List Sight) (s : Sight) (text : List ℕ) → s.statement.label ≡ Some (Name text) → any_settles before (awaited.Name (complete_form s.known.names.prefix text)) ≡ false →
    Balances before s (waiting_for before s (Some (Name text)))
balance-named before s text is new =
    let who : Awaited = awaited.Name (complete_form s.known.names.prefix text) in
    let all = open_waits before ++ waits_in (outline s) in
    omega (
      arith,
      ap length (open-named before s text is),
      ap length (named-waits (complete_form s.known.names.prefix text) before s new),
      parted who all,
      length-append (open_waits before) (waits_in (outline s)),
    )

balance-by : (before : List Sight) (s : Sight) (label : Option Label) → s.statement.label ≡ label → AreLabels s.known.names before → label_fault s.known.names label ≡ None → Balances before s (waiting_for before s label)
balance-by before s label h1 h2 h3 = search (rules, balance-none, balance-local, balance-named, name-new)

-- ---- all statements

sight-most : (h : Head) (before : List Sight) (s : Sight) (r : Answer Placed) → outline s ≡ r → fault_with before s r ≡ None → AreLabels s.known.names before →
    size (sight_items h before s r) + 12 * length (open_waits (before ++ s ∷ [])) ≤ 12 * length (open_waits before) + weight s.statement
sight-most h before s r h1 h2 h3 = search (rules, placed-most, balance-by, no-label-fault)

items-most : (statements : List StatementTree) (k : Known) (before : List Sight) (h : Head) → AreLabels k.names before → first_fault before (sights_from k statements) ≡ None →
    size (items_from h before (sights_from k statements)) ≤ 12 * length (open_waits before) + weights statements
unfolding sights_from items_from first_fault
items-most [] k before h labels none = omega arith
items-most (st ∷ statements) k before h labels none =
    let s : Sight = record { known = k; statement = st } in
    let parts = both-none (statement_fault before s) (first_fault (before ++ s ∷ []) (sights_from (known_after k st) statements)) none in
    let items = sight_items h before s (outline s) in
    let rest = items_from (sight_head h before s (outline s)) (before ++ s ∷ []) (sights_from (known_after k st) statements) in
    omega (
      arith,
      written-append items rest,
      sight-most h before s (outline s) refl parts.0 labels,
      items-most statements (known_after k st) (before ++ s ∷ []) (sight_head h before s (outline s)) (labels-kept k before st parts.0 labels) parts.1,
      sum_by-cons weight st statements,
    )

pub items-length : (statements : List StatementTree) → first_fault [] (sights_of statements) ≡ None → length (written (items_from first_head [] (sights_of statements))) ≤ weights statements
unfolding open_waits
items-length statements none = omega (arith, items-most statements nothing_known [] first_head no-labels none)

-- ---- the front and the end

closing-length : (names : NameTable) (gregs : List ℕ) → size (closing names gregs) ≡ 16 + 8 * length gregs
closing-length names gregs = search (rules, written-cons, octas-length, length-append)

opening-length : size opening ≡ 16
opening-length = refl

pub object-length : (statements : List StatementTree) → first_fault [] (sights_of statements) ≡ None →
    length (final_known statements).gregs ≤ 223 → length (padded_trie (final_known statements).names) / 4 < 2 ^ 16 →
    length (written (opening ++ items_from first_head [] (sights_of statements) ++ closing (final_known statements).names (final_known statements).gregs) ++ ending (padded_trie (final_known statements).names)) ≤ weights statements + 2 ^ 20
object-length statements none few short = search (rules, length-append, written-append, opening-length, items-length, closing-length)

-- ---- the object of a source that is accepted has at most the weights of its statements and 2^20 bytes

-- ---- what is known at the end

sound-step : (k : Known) (before : List Sight) (st : StatementTree) (r : Answer Placed) → encoding no_targets k st ≡ r → fault_with before (record { known = k; statement = st }) r ≡ None → IsSound k → IsSound (known_after k st)
sound-step k before st r h1 h2 h3 = search (rules, sound-kept, no-label-fault)

sound-end : (statements : List StatementTree) (k : Known) (before : List Sight) → first_fault before (sights_from k statements) ≡ None → IsSound k → IsSound (fold known_after k statements)
unfolding sights_from first_fault
sound-end [] k before none sound = sound
sound-end (st ∷ statements) k before none sound = grind (arith, both-none, sound-step, sound-end statements (known_after k st))

pub gregs-few : (statements : List StatementTree) → first_fault [] (sights_of statements) ≡ None → length (final_known statements).gregs ≤ 223
gregs-few statements none = let low = (sound-end statements nothing_known [] none (sound-start 0)).gregs in omega (arith, low)

-- ---- the symbols

pub trie-short : (last : ℕ) (statements : List StatementTree) → end_refusal last statements ≡ None → length (padded_trie (final_known statements).names) / 4 < 2 ^ 16
trie-short last statements none = grind (arith, nat_tests)

-- ---- a source

pub accepted-length : (source : List ℕ) → refusal source ≡ None →
    length (written (emission (statements_in (source_entries source))) ++ ending (padded_trie (final_known (statements_in (source_entries source))).names))
    ≤ weights (statements_in (source_entries source)) + 2 ^ 20
accepted-length source none = search (rules, both-none, object-length, gregs-few, trie-short)

-- ---- the object of a source is not too long

pub object-short : (source : List ℕ) → AreBytes source → refusal source ≡ None →
    length (written (emission (statements_in (source_entries source))) ++ ending (padded_trie (final_known (statements_in (source_entries source))).names)) ≤ 2 ^ 26
object-short source bytes none = search (rules, accepted-length, source-weights, source-short)
