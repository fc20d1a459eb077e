-- What is shown at the start of a run.
use Rattle.std.proofs.Common.{◌≡◌, ◌∙◌, ℕ, List, ap, refl, bit_xor}
use Rattle.std.specs.Int.Bits.{xor_zero_l}
use Rattle.mx_core.specs.State.{State}
use Rattle.mx_record.specs.Following.{TellsAll}
use Rattle.mx_record.specs.Pictures.{all_registers, global_shown, no_picture, octa_of, octa_shown, picture, special_shown}
use Rattle.mx_record.specs.Records.{Leads, applied, changed, difference}
use Rattle.mx_record.specs.declared.changes.Change.{Change}
use Rattle.mx_record.specs.declared.changes.Record.{Record}

from-none : (changes : List Change) (old new : ℕ → ℕ) (q : ℕ) → ((i : ℕ) → old i ≡ 0) → TellsAll changes old new → changed (λ _. 0) changes q ≡ new q
from-none changes old new q none h = xor_zero_l (difference changes q) ∙ h.at q ∙ ap (λ x. bit_xor x (new q)) (none q) ∙ xor_zero_l (new q)

pub leads-start : (t : State) (octas : List ℕ) (r : Record) → r.next ≡ t.pc → TellsAll r.special (λ _. 0) (special_shown t) → TellsAll r.global (λ _. 0) (global_shown t) →
    ((i : ℕ) → octa_of octas i ≡ 0) → TellsAll r.stacked (octa_of octas) (octa_of (all_registers t.stack)) → TellsAll r.octas (λ _. 0) (octa_shown t) → Leads r no_picture (picture t)
unfolding applied picture
leads-start t octas r e f g none k l = λ i. record {
  next = (xor_zero_l r.next ∙ e) i;
  special = λ q. from-none r.special (λ _. 0) (special_shown t) q (λ _. refl) f i;
  global = λ q. from-none r.global (λ _. 0) (global_shown t) q (λ _. refl) g i;
  stacked = λ q. from-none r.stacked (octa_of octas) (octa_of (all_registers t.stack)) q none k i;
  octa = λ q. from-none r.octas (λ _. 0) (octa_shown t) q (λ _. refl) l i;
}

pub ruleset starting = (leads-start)
