-- The statements of a line are one list.
use Rattle.std.proofs.Common.{◌≡◌, ℕ, zero, suc, ◌+◌, ◌-◌, ◌<◌, ◌≤◌, List, ◌∷◌, length, Some, None, Result, Ok, Err, sym, ap, ◌∙◌, arith, subst}
use Rattle.mx_line.proofs.Words.{LineFault, Cut, list_with, cuts_within, cuts_from, CutInOrder, Found, StatementOf, Statements}
use Rattle.mx_line.specs.Statements.Statements.{none, fault, next}
use Rattle.mx_line.proofs.StatementLemmas.{past-label, statement-order, list-is}
use Rattle.mx_line.proofs.RuleLaws.{statement_of-is, statement_of-only}

listed-is : (line : List ℕ) (place : ℕ) (f : ℕ → List (Result Cut LineFault)) → ((p : ℕ) → place < p → p ≤ length line → Statements line p (f p)) →
    (found : Found) → StatementOf line place found → CutInOrder place (length line) found → Statements line place (list_with f found)
listed-is line place f h (Err why) s o = fault place why s
listed-is line place f h (Ok None) s o = none place s
listed-is line place f h (Ok (Some cut)) s o = let after = past-label place cut.label cut.op.from o.label in next place cut (f cut.next) s (h cut.next (omega arith) o.within)

within-is : (most : ℕ) (line : List ℕ) (place : ℕ) → length line < most + place → place ≤ length line → Statements line place (cuts_within most line place)
unfolding cuts_within
within-is zero line place h l = absurd (omega arith)
within-is (suc most) line place h l = grind (arith, listed-is, statement_of-is, statement-order, within-is most line)

-- the list that is made is by the rules
pub list-by-rules : (line : List ℕ) (place : ℕ) → place ≤ length line → Statements line place (cuts_from line place)
list-by-rules line place h = within-is (length line + 1 - place) line place (omega arith) h

made : (line : List ℕ) (place : ℕ) (found : Found) → place ≤ length line → StatementOf line place found → cuts_from line place ≡ list_with (cuts_from line) found
made line place found h s = list-is line place h ∙ ap (list_with (cuts_from line)) (statement_of-only line place found s)

-- and no other list is
pub no-other-list : (line : List ℕ) (place : ℕ) (cuts : List (Result Cut LineFault)) → Statements line place cuts → place ≤ length line → cuts ≡ cuts_from line place
no-other-list line place _ (none _ s) h = sym (made line place (Ok None) h s)
no-other-list line place _ (fault _ why s) h = sym (made line place (Err why) h s)
no-other-list line place _ (next _ cut cuts s later) h =
    let order : CutInOrder place (length line) (Ok (Some cut)) = subst (CutInOrder place (length line)) (statement_of-only line place (Ok (Some cut)) s) (statement-order line place h) in
    ap (λ l. Ok cut ∷ l) (no-other-list line cut.next cuts later order.within) ∙ sym (made line place (Ok (Some cut)) h s)

pub ruleset lists = (list-by-rules, no-other-list)
