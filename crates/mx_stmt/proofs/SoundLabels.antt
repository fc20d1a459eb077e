-- The value of a label and the register of a GREG are sound where what is known is.
use Rattle.std.proofs.Common.{◌≡◌, ℕ, ◌+◌, nat_lt, List, length, Option, Ok, Err, rules}
use Rattle.mx_stmt.proofs.Words.{cond_both, Pure, Data, Label, Placed, BadPlace, Answer, and_then, Known, Targets, form_by, data_form, StatementTree, with_bytes, tetra_data, encoding, IsSound}
use Rattle.mx_stmt.proofs.EveryStatement.{at_place, every-statement}
use Rattle.mx_stmt.proofs.SilentStatements.{AreSilent, IsFine, label-fits}

AllFine : List ℕ → Answer Placed → Type 0
AllFine gregs (Err fault) = Unit {0}
AllFine gregs (Ok p) = IsFine gregs p

fine-then : (gregs : List ℕ) {A : Type 0} (a : Answer A) (next : A → Answer Placed) → ((x : A) → a ≡ Ok x → AllFine gregs (next x)) → AllFine gregs (and_then a next)
unfolding AllFine
fine-then gregs a next h = search rules

fine-bytes : (k : Known) (label : Option Label) (d : Data) → AllFine k.gregs (with_bytes k label d)
unfolding AllFine
fine-bytes k label d = cond_both (nat_lt 0x6000_0000_0000_0000 (k.at + length d.bytes)) (Err BadPlace) _ (AllFine k.gregs) (λ high. tt) (λ low. record { label = label-fits label (Pure k.at) tt; effect = tt })

fine-silent : (k : Known) (a : Answer Placed) → IsSound k → AreSilent k a → AllFine k.gregs a
unfolding AllFine AreSilent
fine-silent k a sound h = search rules

fine-value : (gregs : List ℕ) (a : Answer Placed) (p : Placed) → AllFine gregs a → a ≡ Ok p → IsFine gregs p
unfolding AllFine
fine-value gregs a p fine is = search rules

pub encoding-fine : (t : Targets) (k : Known) (s : StatementTree) (p : Placed) → IsSound k → encoding t k s ≡ Ok p → IsFine k.gregs p
encoding-fine t k s p sound is =
    let here = at_place k s in
    fine-value k.gregs (encoding t k s) p (every-statement k s (λ f. AllFine k.gregs (f t)) (λ a h. fine-silent here a (record { symbols = sound.symbols; backs = sound.backs; gregs = sound.gregs }) h)
    (λ size es small eights. fine-then k.gregs (data_form t here s.line size es) (with_bytes here s.label) (λ d is. fine-bytes here s.label d))
    (λ shapes code l fours even. fine-then k.gregs (form_by t here shapes code l) _ (λ tetra is. fine-bytes here s.label (tetra_data s.line here.at tetra)))
    (λ a fours none. fine-then k.gregs a _ (λ tetra is. fine-bytes here s.label (tetra_data s.line here.at tetra)))) is
