-- Lines that are taken one after another.
use Rattle.std.proofs.Common.{◌≡◌, ℕ, List, [], ◌∷◌, fold, length, arith, refl, ap, subst, ◌∙◌, Ok, Err}
use Rattle.mx_asm.proofs.EndLaw.{whole-is}
use Rattle.mx_asm.proofs.InTurn.{refusal-stays, taken-at}
use Rattle.mx_asm.proofs.OnePassLaw.{items-are}
use Rattle.mx_asm.specs.OnePass.{Progress, Status, Ended, beginning, line_following, end_following}
use Rattle.mx_asm.specs.Fitting.{AreFit}
use Rattle.mx_asm.specs.Whole.{HasTaken, assembled_lines, line_after, lines_items, lines_taken}
use Rattle.mx_line.specs.Lines.{lines_of}
use Rattle.mx_line.specs.Pieces.{split}
use Rattle.mx_asm.specs.declared.refused.Refused.{Refused}
use Rattle.mx_mmo.specs.declared.items.Item.{Item}

-- the next line, and one that is refused
pub lines-more : (source rest text : List ℕ) (out next : List Item) (a b : Status) → lines_of source ≡ text ∷ lines_of rest → (next, b) ≡ line_following out a text →
    fold line_after (out, a) (lines_of source) ≡ fold line_after (next, b) (lines_of rest)
lines-more source rest text out next a b es e = rw (es, e) refl

pub lines-refused : (source rest text : List ℕ) (out next : List Item) (a : Status) (refused : Refused) → lines_of source ≡ text ∷ lines_of rest → (next, Err refused) ≡ line_following out a text →
    fold line_after (out, a) (lines_of source) ≡ (next, Err refused)
lines-refused source rest text out next a refused es e = lines-more source rest text out next a (Err refused) es e ∙ refusal-stays (lines_of rest) next refused

no-lines : lines_of [] ≡ []
unfolding lines_of split
no-lines = refl

pub lines-done : (source : List ℕ) (out : List Item) (a : Status) → length source ≡ 0 → fold line_after (out, a) (lines_of source) ≡ (out, a)
lines-done [] out a e = rw no-lines refl
lines-done (b ∷ bs) out a e = absurd (omega arith)

-- a source's lines were taken from the beginning
pub start-taken : (lines : List (List ℕ)) (none out : List Item) (begun a : Status) → none ≡ [] → begun ≡ Ok beginning → (out, a) ≡ fold line_after (none, begun) lines → (out, a) ≡ lines_taken lines
start-taken lines none out begun a en eb e = e ∙ rw (en, eb) refl

pub source-taken : (lines : List (List ℕ)) (out : List Item) (a : Status) → (out, a) ≡ lines_taken lines → HasTaken lines a
source-taken lines out a e = taken-at lines a (ap (λ (p : Progress). p.1) e)

pub source-ends : (lines : List (List ℕ)) (out : List Item) (a : Status) (ended : Ended) → (out, a) ≡ lines_taken lines → ended ≡ end_following out a → ended ≡ assembled_lines lines
source-ends lines out a ended e is = is ∙ ap (λ (p : Progress). end_following p.0 p.1) e ∙ whole-is lines

pub source-fits : (lines : List (List ℕ)) (out : List Item) (a : Status) → (out, a) ≡ lines_taken lines → AreFit out → AreFit (lines_items lines)
source-fits lines out a e = subst AreFit (ap (λ (p : Progress). p.0) e ∙ items-are lines)

pub no-items-fit : (items : List Item) → items ≡ [] → AreFit items
unfolding AreFit
no-items-fit items e = rw e tt

pub ruleset taking = (refusal-stays, lines-more, lines-refused, lines-done)
