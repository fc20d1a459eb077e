-- The items of statements mean their image, and the items of lines are loaded unless there are too many pages.
use Rattle.std.proofs.Common.{◌≡◌, ℕ, ◌^◌, ◌≤◌, List, [], ◌∷◌, ◌++◌, Bool, true, false, not, cond, lit≤, refl, sym, ◌∙◌, ap, is_some, Some, None, Ok, Err, append_assoc, append-nil, nat_le, ◌||◌, rules, arith}
use Rattle.mx_asm.proofs.Words.{result_err, AllByRecursion, PagesFull, nothing, take_items, meaning, Placed, StatementTree, from_place, NameTable, statements_in, Sight, Piece, outline, references, targets, nothing_known, sights_from, piece_with, pieces_of, placements, pages_of, pages_below, opening, first_head, items_from, emission, statement_fault, first_fault, IsStatement, Line, accepted, lines_entries, lines_items, AreAccepted, outlined, has_room, loaded_image, page_fault, page_refusal_from, page_refusal, accepted_in}
use Rattle.mx_line.specs.Source.{items_from as line_items}
use Rattle.mx_asm.proofs.EndLaw.{both-none}
use Rattle.mx_asm.proofs.MeaningMemory.{same-pages, more-count, append-pages, append-more}
use Rattle.mx_asm.proofs.MeaningStates.{loading_at, count_of, limited, take-append}
use Rattle.mx_asm.proofs.MeaningStatements.{IsSteady, faultless, after_sights, takes-sights, first_state, first-have, opened, no-pages}
use Rattle.mx_asm.proofs.MeaningPlaces.{fixed-to, fixed-pages, pages-of-sights}
use Rattle.mx_asm.proofs.MeaningWhole.{emission-means}
use Rattle.mx_asm.proofs.MeaningSteady.{steady-begun, steady-all, accepted-faultless}

pub image-meant : (statements : List StatementTree) → AreAccepted statements → meaning (emission statements) ≡ loaded_image statements
image-meant statements h = emission-means statements h.faultless (steady-all statements h.read h.faultless) h.defined

-- ---- the pages of statements

pub outlined-pages : (final : NameTable) (later earlier : List Sight) (page : ℕ) → first_fault earlier later ≡ None → AllByRecursion IsSteady later →
    pages_of (placements (pieces_of final later)) page ≡ pages_of (placements (outlined later)) page
unfolding first_fault pieces_of outlined placements
outlined-pages final [] earlier page none steady = refl
outlined-pages final (t ∷ later) earlier page none steady =
    let parts = both-none (statement_fault earlier t) (first_fault (earlier ++ t ∷ []) later) none in
    let is = faultless earlier t parts.0 in
    let p : Placed = is.placed_as in
    let line : ℕ = t.statement.line in
    let to = fixed-to (targets final later) t p steady.0 is.outlined in
    ap (λ r. pages_of (placements (piece_with line r ++ pieces_of final later)) page) to.encoded
    ∙ append-pages (from_place to.after.start to.after.bytes) (placements (pieces_of final later)) page
    ∙ (λ i. fixed-pages (targets final later) p to.after page to.fixed i || outlined-pages final later (earlier ++ t ∷ []) page parts.1 steady.1 i)
    ∙ sym (append-pages (from_place p.start p.bytes) (placements (outlined later)) page)
    ∙ ap (λ r. pages_of (placements (piece_with line r ++ outlined later)) page) (sym is.outlined)

module _ (n : ℕ) (big : 2 ^ 51 ≤ n) (later : List Sight) (none : first_fault [] later ≡ None) (steady : AllByRecursion IsSteady later) where
  pages-are : pages_of (after_sights first_state [] later).placements ≡ pages_of (placements (outlined later))
  unfolding references
  pages-are = same-pages _ _ (λ page. pages-of-sights nothing_known.names later [] first_state page none steady tt ∙ outlined-pages nothing_known.names later [] page none steady)

  taken : take_items (opening ++ items_from first_head [] later) (Ok nothing) ≡ limited n (after_sights first_state [] later)
  taken =
      let sights = takes-sights n later [] first_state big none steady first-have in
      take-append opening (items_from first_head [] later) (Ok nothing) ∙ ap (take_items (items_from first_head [] later)) (opened n) ∙ sights.taken

  front-fault : result_err (take_items (opening ++ items_from first_head [] later) (Ok nothing)) ≡ cond (nat_le (pages_below n (pages_of (placements (outlined later)))) 65536) None (Some PagesFull)
  front-fault =
      let pages = pages-are in
      ap result_err taken ∙ on (nat_le (count_of n (after_sights first_state [] later)) 65536) ∙ (λ i. cond (nat_le (pages_below n (pages i)) 65536) None (Some PagesFull))
    where
      on : (b : Bool) → result_err (cond b (Ok (loading_at n (after_sights first_state [] later))) (Err PagesFull)) ≡ cond b None (Some PagesFull)
      on true = refl
      on false = refl

pub sights-fault : (later : List Sight) → first_fault [] later ≡ None → AllByRecursion IsSteady later → result_err (take_items (opening ++ items_from first_head [] later) (Ok nothing)) ≡ page_fault later
sights-fault later none steady = front-fault (2 ^ 51) (lit≤ tt) later none steady

no-room-needed : page_fault [] ≡ None
unfolding outlined placements
no-room-needed = cc (no-pages (2 ^ 51))

no-statements : accepted_in (lines_entries []) ≡ []
unfolding accepted sights_from line_items
no-statements = refl

pub lines-fault : (lines : List Line) → AllByRecursion IsStatement (statements_in (lines_entries lines)) → result_err (take_items (lines_items lines) (Ok nothing)) ≡ page_fault (accepted_in (lines_entries lines))
lines-fault lines h = search (rules, no-statements, no-room-needed, sights-fault, accepted-faultless, steady-begun)

-- ---- the first statement with too many pages

outlined-append : (xs ys : List Sight) → outlined (xs ++ ys) ≡ outlined xs ++ outlined ys
unfolding outlined
outlined-append [] ys = refl
outlined-append (s ∷ xs) ys = ap (λ ps. piece_with s.statement.line (outline s) ++ ps) (outlined-append xs ys) ∙ sym (append_assoc (piece_with s.statement.line (outline s)) (outlined xs) (outlined ys))

placements-append : (ps qs : List Piece) → placements (ps ++ qs) ≡ placements ps ++ placements qs
unfolding placements
placements-append [] qs = refl
placements-append (p ∷ ps) qs = ap (λ l. from_place p.start p.bytes ++ l) (placements-append ps qs) ∙ sym (append_assoc (from_place p.start p.bytes) (placements ps) (placements qs))

-- where there is no room for the first ones, there is none for more
pub no-room : (n : ℕ) (xs ys : List Sight) → nat_le (pages_below n (pages_of (placements (outlined xs)))) 65536 ≡ false → nat_le (pages_below n (pages_of (placements (outlined (xs ++ ys))))) 65536 ≡ false
no-room n xs ys h = search (rules, more-count, append-more, outlined-append, placements-append)

refusal-from : (later earlier : List Sight) → has_room (outlined earlier) ≡ true → is_some (page_refusal_from earlier later) ≡ not (has_room (outlined (earlier ++ later)))
unfolding page_refusal_from
refusal-from [] earlier room = sym (ap (λ ss. not (has_room (outlined ss))) (append-nil earlier) ∙ ap not room)
refusal-from (s ∷ later) earlier room = grind (arith, append_assoc, no-room, refusal-from later (earlier ++ s ∷ []))

pub nothing-has-room : has_room (outlined []) ≡ true
unfolding outlined placements
nothing-has-room = ap (λ c. nat_le c 65536) (no-pages (2 ^ 51))

pub page-refusal-is : (statements : List Sight) → is_some (page_refusal statements) ≡ not (has_room (outlined statements))
page-refusal-is statements = refusal-from statements [] nothing-has-room
