-- The items of statements mean their image.
use Rattle.std.proofs.Common.{◌≡◌, ℕ, ◌^◌, ◌≤◌, List, [], ◌∷◌, ◌++◌, fold, true, false, cond, lit≤, refl, sym, ◌∙◌, ap, bit_xor, Option, Some, None, Ok, append_assoc, append-nil, bytes_eq, is_some, rules, arith}
use Rattle.mx_asm.proofs.Words.{AllByRecursion, xor_assoc, xor_zero_l, xor_zero_r, bytes_eq-Decides, Value, Wait, nothing, with_globals, take_items, image_in, meaning, Post, Stab, NameTable, complete_form, first_value, pure_of, value-inserted, not-some, predefined_value, Label, Name, Local, Placed, Known, Targets, no_targets, symbol_form, StatementTree, encoding, from_place, placed, placed-append, xor-pairs, fix_placements, Sight, outline, references, targets, with_label, nothing_known, known_after, sights_from, sights_of, final_known, piece_with, pieces_of, pieces, awaited_value, waiting_at, placements, pages_of, pages_below, page_count, image_with, image, opening, first_head, items_from, front, emission, label_fault, statement_fault, first_fault, first_undefined, nat_tests}
use Rattle.mx_names.specs.Names.{value_in as symbol_in}
use Rattle.mx_names.specs.Waiting.{first_of as earliest}
use Rattle.mx_asm.proofs.StatementForms.{HasLabel, encoding-label}
use Rattle.mx_asm.proofs.OpenWaits.{open_waits}
use Rattle.mx_asm.proofs.OneStatement.{AreLabels, labels-kept, name-new}
use Rattle.mx_asm.proofs.OnePassLaw.{no-labels}
use Rattle.mx_asm.proofs.EndLaw.{wait_refusal, both-none, labels-at-end, first-open}
use Rattle.mx_asm.proofs.MeaningMemory.{same-pages, unless_full, same-numbers}
use Rattle.mx_asm.proofs.MeaningStates.{State, image_at, count_of, limited, take-append}
use Rattle.mx_asm.proofs.MeaningStatements.{after_fixes, after_placed, IsSteady, faultless, after_sight, after_sights, takes-sights, first_state, first-have, opened}
use Rattle.mx_asm.proofs.MeaningPlaces.{fixed-to, lines-of-sights, pages-of-sights}
use Rattle.mx_asm.proofs.MeaningSums.{added, sight_at, symbol-at-end, after-is, fixes-placed, bytes-placed, Settles, unlabelled-settles, named-settles, local-settles}

-- ---- what a statement settles

defined-here : (k : Known) (st : StatementTree) (p : Placed) (text : List ℕ) (value : Value) → encoding no_targets k st ≡ Ok p → st.label ≡ Some (Name text) → p.label ≡ Some value →
    symbol_in (complete_form k.names.prefix text) k.names.symbols ≡ None → symbol_in (complete_form k.names.prefix text) (known_after k st).names.symbols ≡ Some value
defined-here k st p text value is label labelled new =
    let full : List ℕ = complete_form k.names.prefix text in
    let same : bytes_eq full full ≡ true = (bytes_eq-Decides full full).1 refl in
    ap (symbol_in full) (after-is k st p is ∙ (λ i. (with_label k.names (label i) (labelled i)).symbols))
    ∙ value-inserted _ k.names.symbols full new
    ∙ ap (λ b. cond b (Some value) (symbol_in full k.names.symbols)) same

module _ (final : NameTable) (k : Known) (st : StatementTree) (statements : List StatementTree) (earlier : List Sight) (q : ℕ) where
  abbrev here : Sight
  here = sight_at k st

  abbrev rest : List Sight
  rest = sights_from (known_after k st) statements

  settles-by : (p : Placed) (label : Option Label) (value : Option Value) → outline here ≡ Ok p → HasLabel label value → st.label ≡ label → p.label ≡ value → label_fault k.names label ≡ None →
      AreLabels k.names earlier → first_fault (earlier ++ here ∷ []) rest ≡ None → final ≡ (fold known_after (known_after k st) statements).names → Settles final earlier rest here p q
  settles-by p None None is has e v none labels others ends = unlabelled-settles final earlier rest here p q is e
  settles-by p (Some (Name text)) (Some value) is has e v none labels others ends =
      let full : List ℕ = complete_form k.names.prefix text in
      let new : is_some (symbol_in full k.names.symbols) ≡ false = name-new k.names text (symbol_form k.names text) refl none in
      let there = symbol-at-end statements (known_after k st) (earlier ++ here ∷ []) full value others (defined-here k st p text value is e v (not-some _ new)) in
      named-settles final earlier rest here p q is text e (labels full ∙ new)
      (ap (λ o. first_value o (pure_of (predefined_value full))) (ap (λ (n : NameTable). symbol_in full n.symbols) ends ∙ there ∙ ap (λ v. Some (awaited_value v)) (sym v)))
  settles-by p (Some (Local d)) (Some value) is has e v none labels others ends = local-settles final earlier rest here p q is d value e v
  settles-by p label value is has e v none labels others ends = absurd has

-- ---- the sum

-- two pairs of numbers in four places
four-places : (a x b y e w r : ℕ) → bit_xor x y ≡ bit_xor e w → bit_xor (bit_xor (bit_xor (bit_xor a x) b) y) r ≡ bit_xor (bit_xor a e) (bit_xor (bit_xor b w) r)
four-places a x b y e w r h = grind (arith, xor_assoc, xor-pairs)

nothing-open : (t : Targets) (waits : List Wait) (q : ℕ) → waits ≡ [] → added t waits q ≡ 0
nothing-open t waits q e = ap (λ ws. added t ws q) e

pub bytes-of-sights : (final : NameTable) (statements : List StatementTree) (k : Known) (earlier : List Sight) (s : State) (q : ℕ) → AreLabels k.names earlier → first_fault earlier (sights_from k statements) ≡ None → AllByRecursion IsSteady (sights_from k statements) →
    open_waits (earlier ++ sights_from k statements) ≡ [] → final ≡ (fold known_after k statements).names →
    placed (after_sights s earlier (sights_from k statements)).placements q
    ≡ bit_xor (bit_xor (placed s.placements q) (added (targets final (sights_from k statements)) (open_waits earlier) q)) (placed (placements (pieces_of final (sights_from k statements))) q)
unfolding sights_from first_fault after_sights pieces_of placements
bytes-of-sights final [] k earlier s q labels none steady open_none ends = grind (arith, append-nil, xor_zero_r, nothing-open)
bytes-of-sights final (st ∷ statements) k earlier s q labels none steady open_none ends =
    let t : Sight = sight_at k st in
    let later : List Sight = sights_from (known_after k st) statements in
    let parts = both-none (statement_fault earlier t) (first_fault (earlier ++ t ∷ []) later) none in
    let is = faultless earlier t parts.0 in
    let p : Placed = is.placed_as in
    let line : ℕ = st.line in
    let waits : List Wait = waiting_at earlier t in
    let to = fixed-to (targets final later) t p steady.0 is.outlined in
    let u : State = after_placed s line p waits in
    let settles = settles-by final k st statements earlier q p st.label p.label is.outlined (encoding-label no_targets k st p is.outlined) refl refl is.label labels parts.1 ends in
    let others = bytes-of-sights final statements (known_after k st) (earlier ++ t ∷ []) u q (labels-kept k earlier st parts.0 labels) parts.1 steady.1 (ap open_waits (append_assoc earlier (t ∷ []) later) ∙ open_none) ends in
    let bytes : ℕ = placed (from_place p.start p.bytes) q in
    let left : ℕ = placed (placements (pieces_of final later)) q in
    ap (λ r. placed (after_sights (after_sight s earlier t r) (earlier ++ t ∷ []) later).placements q) is.outlined
    ∙ others
    ∙ ap (λ n. bit_xor (bit_xor n (added (targets final later) (open_waits (earlier ++ t ∷ [])) q)) left)
    (bytes-placed (after_fixes s (awaited_value p.label) waits) line p.start p.bytes q ∙ ap (λ n. bit_xor n bytes) (fixes-placed s line (awaited_value p.label) waits settles.by q is.fixed settles.fixed))
    ∙ four-places (placed s.placements q) (added settles.by waits q) bytes (added (targets final later) (open_waits (earlier ++ t ∷ [])) q)
    (added (targets final (t ∷ later)) (open_waits earlier) q) (added (targets final later) p.waits q) left settles.sums
    ∙ ap (bit_xor (bit_xor (placed s.placements q) (added (targets final (t ∷ later)) (open_waits earlier) q)))
    (ap (λ n. bit_xor n left) (sym (to.fixed.bytes q ∙ placed-append (from_place p.start p.bytes) (fix_placements (targets final later) p.waits) q))
    ∙ sym (placed-append (from_place to.after.start to.after.bytes) (placements (pieces_of final later)) q)
    ∙ ap (λ r. placed (placements (piece_with line r ++ pieces_of final later)) q) (sym to.encoded))

-- ---- the law

no-open : (statements : List StatementTree) → first_fault [] (sights_of statements) ≡ None → first_undefined (final_known statements).names (sights_of statements) ≡ None → open_waits (sights_of statements) ≡ []
no-open statements none defined = by (open_waits (sights_of statements)) (sym (first-open statements nothing_known [] (final_known statements).names no-labels none (labels-at-end statements nothing_known [] no-labels none)) ∙ defined)
  where
    by : (waits : List Wait) → wait_refusal (earliest waits) ≡ None → waits ≡ []
    by [] h = refl
    by (w ∷ waits) h = absurd (cc)

none-wait : open_waits [] ≡ []
unfolding open_waits
none-wait = refl

-- the globals, unless there are too many pages
ended : (n g : ℕ) (values : List ℕ) (s : State) → image_in (take_items (Post g values ∷ Stab ∷ []) (limited n s)) ≡ unless_full (count_of n s) (with_globals (image_at n s.placements s.lines) g values)
ended n g values s = search rules

module _ (n : ℕ) (big : 2 ^ 51 ≤ n) (statements : List StatementTree) (none : first_fault [] (sights_of statements) ≡ None) (steady : AllByRecursion IsSteady (sights_of statements)) where
  abbrev final : Known
  final = final_known statements

  abbrev end : State
  end = after_sights first_state [] (sights_of statements)

  abbrev ps : List (ℕ × ℕ)
  ps = placements (pieces statements)

  pub front-taken : take_items (front statements) (Ok nothing) ≡ limited n end
  front-taken =
      let sights = takes-sights n (sights_of statements) [] first_state big none steady first-have in
      take-append opening (items_from first_head [] (sights_of statements)) (Ok nothing)
      ∙ ap (take_items (items_from first_head [] (sights_of statements))) (opened n)
      ∙ sights.taken

  pages-are : pages_of end.placements ≡ pages_of ps
  unfolding references
  pages-are = same-pages _ _ (λ page. pages-of-sights final.names (sights_of statements) [] first_state page none steady tt)

  bytes-are : first_undefined final.names (sights_of statements) ≡ None → placed end.placements ≡ placed ps
  bytes-are defined = same-numbers _ _ (λ q.
      bytes-of-sights final.names statements nothing_known [] first_state q no-labels none steady (no-open statements none defined) refl
      ∙ ap (λ x. bit_xor x (placed ps q)) (xor_zero_l _ ∙ nothing-open (targets final.names (sights_of statements)) (open_waits []) q none-wait)
      ∙ xor_zero_l (placed ps q))

  pub items-mean : first_undefined final.names (sights_of statements) ≡ None →
      meaning (emission statements) ≡ unless_full (pages_below n (pages_of ps)) (record (image_with (pieces statements) final) { page_count = pages_below n (pages_of ps) })
  items-mean defined = grind (arith, nat_tests, pages-are, bytes-are, take-append, front-taken, lines-of-sights)

pub emission-means : (statements : List StatementTree) → first_fault [] (sights_of statements) ≡ None → AllByRecursion IsSteady (sights_of statements) → first_undefined (final_known statements).names (sights_of statements) ≡ None →
    meaning (emission statements) ≡ unless_full (page_count (pages_of (placements (pieces statements)))) (image statements)
emission-means statements none steady defined = items-mean (2 ^ 51) (lit≤ tt) statements none steady defined
