use Rattle.std.proofs.Common.{sym, ◌∙◌, ◌≡◌, ◌≢◌, ◌<◌, ◌≤◌, ℕ, List, length, Ok, Err, inl, inr, Result, IfOk, OnOk}
use Rattle.mx_mmo.proofs.Words.{concat, cases_lt, limit, AreBytes, Left, SpellsObject, Start, items_of, object_of, passed_limit, pieces_within, Object, MmoFault, OutOfMemory}
use Rattle.mx_mmo.proofs.Complete.{object-only}
use Rattle.mx_mmo.proofs.Sound.{object-sound}
use Rattle.mx_mmo.proofs.whole.read.Goals as goal

none-passed : (o : Result Left MmoFault) (object : Object) → Ok object ≢ passed_limit o
none-passed (Ok left) object e = cc
none-passed (Err fault) object e = cc

found-of : (bytes : List ℕ) (o : Result Left MmoFault) (r : Result Object MmoFault) → (length bytes ≤ limit → r ≢ Err OutOfMemory → r ≡ object_of bytes) →
    (limit < length bytes → r ≢ Err OutOfMemory → r ≡ passed_limit o) → OnOk r (AreBytes bytes) → IfOk r (λ object. SpellsObject bytes object)
found-of bytes o (Err fault) exact long b = tt
found-of bytes o (Ok object) exact long b = elim (cases_lt limit (length bytes)) [
  | inl far ↦ absurd (none-passed o object (long far (λ e. cc)))
  | inr near ↦ object-sound bytes object b (sym (exact near (λ e. cc)))
]

pub returns-clause-found : goal.returns-clause-found
returns-clause-found c =
    found-of (concat c.args.pieces.now) (items_of Start 0 (pieces_within 0 c.args.pieces.now)).1 c.read_pieces.result c.read_pieces.ensures.exact c.read_pieces.ensures.long c.read_pieces.ensures.bytes

pub returns-clause-only : goal.returns-clause-only
returns-clause-only c = λ object s l ne. c.read_pieces.ensures.exact l ne ∙ object-only (concat c.args.pieces.now) object s l
