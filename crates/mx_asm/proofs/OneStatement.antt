-- One statement in one pass, and entries one after another, as the two passes have them.
use Rattle.std.proofs.Common.{◌≡◌, ℕ, Bool, true, false, cond, nat_lt, List, [], ◌∷◌, ◌++◌, length, Option, None, Some, is_some, Result, Ok, Err, refl, ap, sym, ◌∙◌, slice_set, ◌||◌, bytes_eq, rules, fold, append_assoc, append-nil, arith}
use Rattle.mx_asm.proofs.Words.{result_unwrap_or, list_any-append, Value, Wait, Item, predefined_value, NameFault, Twice, Predefined, NameTooLong, NameTable, Naming, complete_form, value_in, define_answer, with_symbol, waits_for, waits_for_others, value-inserted, not-some, Label, Name, Local, Effect, Placed, Answer, Known, no_targets, symbol_form, StatementTree, encoding, AsmFault, Refused, Head, Sight, outline, waits_in, with_label, with_effect, known_following, known_with, known_after, fixes, awaited_value, waiting_for, waiting_at, statement_items, statement_head, sight_items, sight_head, refusal_of, name_refusal, name_fault, label_fault, fault_after, fault_with, statement_fault, Assembly, Taken, naming_of, labelled, with_symbol_label, symbol_defined, with_local, taken_items, taken_label, taken_with, statement_taken, Entry, statements_in, refusal_in, sights_from, items_from, first_fault, first_of, Progress, after_entry, and_entries, entries_taken, accepted}
use Rattle.mx_word.specs.declared.waits.Awaited.TheVariants as awaited
use Rattle.mx_asm.proofs.OpenWaits.{or-false, settled_by, any_settles, open_waits, open-unlabelled, open-named, open-local, named-waits, local-waits}
use Rattle.mx_asm.proofs.StatementForms.{HasLabel, encoding-label}

-- ---- one statement in one pass, as the two passes have it

-- what the assembler carries after these statements
abbrev pub status_at : Known → Head → List Sight → ℕ → Assembly
status_at k h before l = record { known = k; waiting = open_waits before; head = h; locals = l; lines = 0; size = 0; opened = true }

-- the symbols are the labels of the statements
abbrev pub AreLabels : NameTable → List Sight → Type 0
AreLabels names before = (full : List ℕ) → any_settles before (awaited.Name full) ≡ is_some (value_in full names.symbols)

abbrev pub sight_local : ℕ → Answer Placed → ℕ
sight_local l (Err fault) = l
sight_local l (Ok p) = with_local l p.effect

-- a refusal, or the items and what follows them
abbrev pub stepped : Option Refused → List Item → Assembly → Taken
stepped (Some refused) items a = Err refused
stepped None items a = Ok (items, a)

-- ---- the items

items-by : (h : Head) (line : ℕ) (p : Placed) (waits : List Wait) (a : Assembly) →
    taken_items a (statement_items h line p waits) ≡ stepped (refusal_of (fixes line (awaited_value p.label) waits)) (result_unwrap_or (statement_items h line p waits) []) a
unfolding fixes
items-by h line p waits a = search rules

-- ---- names

fitting-is : (long : Bool) (form full : List ℕ) → ◌≡◌ {A = Result (List ℕ) NameFault} (cond long (Err NameTooLong) (Ok form)) (Ok full) → full ≡ form
fitting-is long form full h = search rules

pub form-is : (names : NameTable) (text full : List ℕ) → symbol_form names text ≡ Ok full → full ≡ complete_form names.prefix text
form-is names text full h = fitting-is (nat_lt 1024 (length (complete_form names.prefix text))) (complete_form names.prefix text) full h

absent-by : (predefined defined : Bool) (u : Unit {0}) → ◌≡◌ {A = Result (Unit {0}) NameFault} (cond predefined (Err Predefined) (cond defined (Err Twice) (Ok tt))) (Ok u) → defined ≡ false
absent-by predefined defined u h = search rules

absent : (names : NameTable) (full : List ℕ) (u : Unit {0}) → define_answer names full ≡ Ok u → is_some (value_in full names.symbols) ≡ false
absent names full u h = absent-by (is_some (predefined_value full)) (is_some (value_in full names.symbols)) u h

-- ---- a statement

module _ (k : Known) (h : Head) (before : List Sight) (l : ℕ) (st : StatementTree) where
  abbrev here : Sight
  here = record { known = k; statement = st }

  abbrev after : List Sight
  after = before ++ here ∷ []

  -- the references that wait, and the names, are those of the two passes
  settled : (p : Placed) (n : Naming) (waits : List Wait) → waits ≡ waiting_at before here →
      n ≡ record { names = with_label k.names st.label p.label; waiting = open_waits after } →
      taken_label (status_at k h before l) st.line p (Ok (n, waits)) ≡ stepped (fault_after before here p None)
      (result_unwrap_or (statement_items h st.line p (waiting_at before here)) [])
      (status_at (known_following k st p) (statement_head h st.line p (waiting_at before here)) after (with_local l p.effect))
  settled p n waits ws ns = grind (arith, items-by)

  -- what a statement with this fault of its label comes to
  abbrev Comes : Placed → Option Label → Option Value → List Wait → Type 0
  Comes p label value waits =
      taken_label (status_at k h before l) st.line p (labelled (naming_of (status_at k h before l)) label value waits)
      ≡ stepped (fault_after before here p (label_fault k.names label))
      (result_unwrap_or (statement_items h st.line p (waiting_at before here)) [])
      (status_at (known_following k st p) (statement_head h st.line p (waiting_at before here)) after (with_local l p.effect))

  unlabelled-comes : (p : Placed) → st.label ≡ None → p.label ≡ None → outline here ≡ Ok p → Comes p None None p.waits
  unlabelled-comes p label value is =
      settled p (record { names = k.names; waiting = open_waits before ++ p.waits }) [] (ap (waiting_for before here) (sym label))
      (λ i. record { names = with_label k.names (sym label i) (sym value i); waiting = sym (open-unlabelled before here label ∙ ap (λ r. open_waits before ++ waits_in r) is) i })

  local-comes : (p : Placed) (d : ℕ) (value : Value) → st.label ≡ Some (Local d) → p.label ≡ Some value → outline here ≡ Ok p → Comes p (Some (Local d)) (Some value) p.waits
  local-comes p d value label is_value is =
      settled p (record { names = record k.names { backs = slice_set k.names.backs d value }; waiting = waits_for_others (awaited.Local d) (open_waits before) ++ p.waits }) (waits_for (awaited.Local d) (open_waits before))
      (local-waits d before ∙ ap (waiting_for before here) (sym label))
      (λ i. record { names = with_label k.names (sym label i) (sym is_value i); waiting = sym (open-local before here d label ∙ ap (λ r. waits_for_others (awaited.Local d) (open_waits before) ++ waits_in r) is) i })

  module _ (p : Placed) (text : List ℕ) (value : Value) (label : st.label ≡ Some (Name text)) (is_value : p.label ≡ Some value) (is : outline here ≡ Ok p) (labels : AreLabels k.names before) where
    abbrev form : List ℕ
    form = complete_form k.names.prefix text

    defined-comes : (u : Unit {0}) → is_some (value_in form k.names.symbols) ≡ false →
        taken_label (status_at k h before l) st.line p (symbol_defined (naming_of (status_at k h before l)) form value p.waits (Ok u))
        ≡ stepped (fault_after before here p None)
        (result_unwrap_or (statement_items h st.line p (waiting_at before here)) [])
        (status_at (known_following k st p) (statement_head h st.line p (waiting_at before here)) after (with_local l p.effect))
    defined-comes u new =
        settled p (record { names = with_symbol k.names form value; waiting = waits_for_others (awaited.Name form) (open_waits before ++ p.waits) }) (waits_for (awaited.Name form) (open_waits before ++ p.waits))
        (ap (λ r. waits_for (awaited.Name form) (open_waits before ++ waits_in r)) (sym is) ∙ named-waits form before here (labels form ∙ new) ∙ ap (waiting_for before here) (sym label))
        (λ i. record { names = with_label k.names (sym label i) (sym is_value i); waiting = sym (open-named before here text label ∙ ap (λ r. waits_for_others (awaited.Name form) (open_waits before ++ waits_in r)) is) i })

    answered-comes : (full : List ℕ) (answer : Result (Unit {0}) NameFault) → symbol_form k.names text ≡ Ok full → define_answer k.names full ≡ answer →
        taken_label (status_at k h before l) st.line p (symbol_defined (naming_of (status_at k h before l)) full value p.waits answer)
        ≡ stepped (fault_after before here p (name_refusal answer))
        (result_unwrap_or (statement_items h st.line p (waiting_at before here)) [])
        (status_at (known_following k st p) (statement_head h st.line p (waiting_at before here)) after (with_local l p.effect))
    answered-comes full (Err fault) form_is told = refl
    answered-comes full (Ok u) form_is told =
        let same = form-is k.names text full form_is in
        ap (λ f. taken_label (status_at k h before l) st.line p (symbol_defined (naming_of (status_at k h before l)) f value p.waits (Ok u))) same
        ∙ defined-comes u (ap (λ f. is_some (value_in f k.names.symbols)) (sym same) ∙ absent k.names full u told)

    formed-comes : (r : Result (List ℕ) NameFault) → symbol_form k.names text ≡ r →
        taken_label (status_at k h before l) st.line p (with_symbol_label (naming_of (status_at k h before l)) value p.waits r)
        ≡ stepped (fault_after before here p (name_fault k.names r))
        (result_unwrap_or (statement_items h st.line p (waiting_at before here)) [])
        (status_at (known_following k st p) (statement_head h st.line p (waiting_at before here)) after (with_local l p.effect))
    formed-comes (Err fault) is = refl
    formed-comes (Ok full) is = answered-comes full (define_answer k.names full) is refl

    named-comes : Comes p (Some (Name text)) (Some value) p.waits
    named-comes = formed-comes (symbol_form k.names text) refl

  -- by the label and its value
  placed-comes : (p : Placed) (label : Option Label) (value : Option Value) → HasLabel label value → st.label ≡ label → p.label ≡ value → outline here ≡ Ok p → AreLabels k.names before → Comes p label value p.waits
  placed-comes p None None has e v is labels = unlabelled-comes p e v is
  placed-comes p (Some (Name text)) (Some value) has e v is labels = named-comes p text value e v is labels
  placed-comes p (Some (Local d)) (Some value) has e v is labels = local-comes p d value e v is
  placed-comes p label value has e v is labels = absurd has

  step-with : (r : Answer Placed) → outline here ≡ r → AreLabels k.names before →
      taken_with (status_at k h before l) st.line st.label r
      ≡ stepped (fault_with before here r) (sight_items h before here r) (status_at (known_with k st r) (sight_head h before here r) after (sight_local l r))
  step-with r is labels = grind (arith, placed-comes, encoding-label)

  pub one-statement : AreLabels k.names before →
      statement_taken (status_at k h before l) st
      ≡ stepped (statement_fault before here) (sight_items h before here (outline here)) (status_at (known_after k st) (sight_head h before here (outline here)) after (sight_local l (outline here)))
  unfolding known_after
  one-statement labels = simp (step-with)

-- ---- the symbols are the labels

is-some-cond : (b : Bool) (value : Value) (o : Option Value) → is_some (cond b (Some value) o) ≡ (is_some o || b)
is-some-cond b value o = search (rules, or-false)

symbol-more : (names : NameTable) (text full : List ℕ) (value : Value) → is_some (value_in (complete_form names.prefix text) names.symbols) ≡ false →
    is_some (value_in full (with_symbol names (complete_form names.prefix text) value).symbols) ≡ (is_some (value_in full names.symbols) || bytes_eq full (complete_form names.prefix text))
symbol-more names text full value new = search (rules, value-inserted, not-some, is-some-cond)

name-new-by : (names : NameTable) (text full : List ℕ) (answer : Result (Unit {0}) NameFault) → symbol_form names text ≡ Ok full → define_answer names full ≡ answer → name_refusal answer ≡ None → is_some (value_in (complete_form names.prefix text) names.symbols) ≡ false
name-new-by names text full answer h1 h2 h3 = search (rules, form-is, absent)

pub name-new : (names : NameTable) (text : List ℕ) (r : Result (List ℕ) NameFault) → symbol_form names text ≡ r → name_fault names r ≡ None → is_some (value_in (complete_form names.prefix text) names.symbols) ≡ false
name-new names text r h1 h2 = search (rules, name-new-by)

label-more : (names : NameTable) (label : Option Label) (value : Option Value) (full : List ℕ) → HasLabel label value → label_fault names label ≡ None →
    is_some (value_in full (with_label names label value).symbols) ≡ (is_some (value_in full names.symbols) || settled_by names label (awaited.Name full))
label-more names label value full h1 h2 = search (rules, symbol-more, name-new, or-false)

pub effect-symbols : (k : Known) (e : Effect) → (with_effect k e).names.symbols ≡ k.names.symbols
effect-symbols k e = search rules

pub no-label-fault : (before : List Sight) (s : Sight) (p : Placed) (f : Option AsmFault) → fault_after before s p f ≡ None → f ≡ None
no-label-fault before s p f h = search rules

module _ (k : Known) (before : List Sight) (st : StatementTree) where
  labels-with : (r : Answer Placed) → encoding no_targets k st ≡ r → fault_with before (record { known = k; statement = st }) r ≡ None → AreLabels k.names before →
      AreLabels (known_with k st r).names (before ++ record { known = k; statement = st } ∷ [])
  labels-with r is none labels full = grind (arith, list_any-append, or-false, label-more, encoding-label, no-label-fault, effect-symbols)

  pub labels-kept : statement_fault before (record { known = k; statement = st }) ≡ None → AreLabels k.names before →
      AreLabels (known_after k st).names (before ++ record { known = k; statement = st } ∷ [])
  unfolding known_after
  labels-kept none labels = labels-with (encoding no_targets k st) refl none labels

-- ---- entries that are taken one after another, as the two passes have them

-- the head and the greatest register of LOCAL after statements
unfoldable pub head_from : Head → List Sight → List Sight → Head
head_from h before [] = h
head_from h before (s ∷ later) = head_from (sight_head h before s (outline s)) (before ++ s ∷ []) later

unfoldable pub locals_from : ℕ → List Sight → ℕ
locals_from l [] = l
locals_from l (s ∷ later) = locals_from (sight_local l (outline s)) later

-- a refusal, or an assembly
abbrev pub outcome : List Item → Option Refused → Assembly → Progress
outcome out (Some refused) a = (out, Err refused)
outcome out None a = (out, Ok a)

-- what entries come to, after statements
abbrev pub entries_outcome : Known → Head → List Sight → ℕ → List Item → List StatementTree → Option Refused → Progress
entries_outcome k h before l out statements refusal =
    let sights = sights_from k statements in
    outcome (out ++ items_from h before (accepted before sights)) (first_of (first_fault before sights) refusal)
    (status_at (fold known_after k statements) (head_from h before sights) (before ++ sights) (locals_from l sights))

nothing-more : (k : Known) (h : Head) (before : List Sight) (l : ℕ) (out : List Item) → (out, Ok (status_at k h before l)) ≡ entries_outcome k h before l out [] None
unfolding sights_from items_from accepted first_fault head_from locals_from
nothing-more k h before l out = λ i. (sym (append-nil out) i, Ok (status_at k h (sym (append-nil before) i) l))

refused-here : (k : Known) (h : Head) (before : List Sight) (l : ℕ) (out : List Item) (r : Refused) → (out, Err r) ≡ entries_outcome k h before l out [] (Some r)
unfolding sights_from items_from accepted first_fault
refused-here k h before l out r = ap (λ items. (items, Err r)) (sym (append-nil out))

module _ (k : Known) (h : Head) (before : List Sight) (l : ℕ) (out : List Item) (st : StatementTree) (statements : List StatementTree) (refusal : Option Refused) where
  abbrev s : Sight
  s = record { known = k; statement = st }

  abbrev rest : Progress
  rest = entries_outcome (known_after k st) (sight_head h before s (outline s)) (before ++ s ∷ []) (sight_local l (outline s)) (out ++ sight_items h before s (outline s)) statements refusal

  refused-first : (r : Refused) → statement_fault before s ≡ Some r → (out, Err r) ≡ entries_outcome k h before l out (st ∷ statements) refusal
  unfolding sights_from items_from accepted first_fault
  refused-first r is = search rules

  more-first : statement_fault before s ≡ None → rest ≡ entries_outcome k h before l out (st ∷ statements) refusal
  unfolding sights_from items_from accepted first_fault head_from locals_from
  more-first is = grind (arith, append_assoc)

step-outcome : (k : Known) (h : Head) (before : List Sight) (l : ℕ) (out : List Item) (st : StatementTree) (entries : List Entry) (fault : Option Refused) →
    statement_fault before (record { known = k; statement = st }) ≡ fault →
    (statement_fault before (record { known = k; statement = st }) ≡ None →
    entries_taken entries (out ++ sight_items h before (s k h before l out st [] None) (outline (s k h before l out st [] None))) (status_at (known_after k st) (sight_head h before (s k h before l out st [] None) (outline (s k h before l out st [] None))) (before ++ s k h before l out st [] None ∷ []) (sight_local l (outline (s k h before l out st [] None))))
    ≡ rest k h before l out st (statements_in entries) (refusal_in entries)) →
    and_entries (entries_taken entries) (after_entry out (stepped fault (sight_items h before (s k h before l out st [] None) (outline (s k h before l out st [] None))) (status_at (known_after k st) (sight_head h before (s k h before l out st [] None) (outline (s k h before l out st [] None))) (before ++ s k h before l out st [] None ∷ []) (sight_local l (outline (s k h before l out st [] None))))))
    ≡ entries_outcome k h before l out (st ∷ statements_in entries) (refusal_in entries)
step-outcome k h before l out st entries fault is more = grind (arith, refused-first, more-first)

pub entries-are : (entries : List Entry) (k : Known) (h : Head) (before : List Sight) (l : ℕ) (out : List Item) → AreLabels k.names before →
    entries_taken entries out (status_at k h before l) ≡ entries_outcome k h before l out (statements_in entries) (refusal_in entries)
unfolding entries_taken
entries-are [] k h before l out labels = nothing-more k h before l out
entries-are (Err r ∷ entries) k h before l out labels = refused-here k h before l out r
entries-are (Ok st ∷ entries) k h before l out labels =
    ap (λ taken. and_entries (entries_taken entries) (after_entry out taken)) (one-statement k h before l st labels)
    ∙ step-outcome k h before l out st entries (statement_fault before (record { known = k; statement = st })) refl
    (λ none. entries-are entries (known_after k st) (sight_head h before (record { known = k; statement = st }) (outline (record { known = k; statement = st }))) (before ++ record { known = k; statement = st } ∷ [])
    (sight_local l (outline (record { known = k; statement = st }))) (out ++ sight_items h before (record { known = k; statement = st }) (outline (record { known = k; statement = st })))
    (labels-kept k before st none labels))
