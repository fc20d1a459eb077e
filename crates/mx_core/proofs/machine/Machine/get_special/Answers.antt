use Rattle.std.proofs.Common.{◌≡◌, ◌==◌, ◌||◌, ◌≤◌, nat_lt, not, ℕ, false, refl, sym, ap, ◌∙◌, arith}
use Rattle.std.proofs.lemmas.Bool.Decides.{nat_tests}
use Rattle.mx_ring.specs.Stack.{set_overfills}
use Rattle.mx_code.specs.SpecialRegisters.{rS}
use Rattle.mx_core.specs.Way.Calls.{unless, get_done}
use Rattle.mx_core.specs.Deeds.{outcome, deed_of}
use Rattle.mx_code.specs.Instructions.{x_of, y_of, z_of, next_of}
use Rattle.mx_code.specs.declared.instruction.Instruction.{Instruction}
use Rattle.mx_core.specs.Kept.{state_of}
use Rattle.mx_core.specs.State.{State, special_register, with_local}
use Rattle.mx_code.specs.declared.operation.Operation.TheVariants as op
use Rattle.mx_code.specs.declared.reason.Reason.TheVariants.{StackFull}
use Rattle.mx_core.proofs.Results.Answered.{set-ok, set-err, refused-as, after-local-seen}
use Rattle.mx_core.proofs.Results.Others.{get_outcome_is}
use Rattle.mx_core.proofs.machine.Machine.get_special.Goals as goal

-- the form is right
formed : (s : State) (i : Instruction) (y z : ℕ) → y ≡ y_of i → z ≡ z_of i → y ≡ 0 → z ≤ 31 →
    outcome s (deed_of op.Get s i) ≡ unless (set_overfills s.stack (x_of i)) StackFull (record (get_done (with_local s (x_of i)) i) { touched = s.touched || z_of i == rS })
formed s i y z e f y0 z31 =
    let form : (not (y_of i == 0) || nat_lt 31 (z_of i)) ≡ false = grind (arith, nat_tests) in
    get_outcome_is s i ∙ rw form refl

pub returns-in-Ok : goal.returns-in-Ok
returns-in-Ok c =
    let s = state_of c.args.self.now in
    let k = x_of c.args.i.now in
    let ok = set-ok s (state_of c.set.new.self) c.x.result c.x_register.result c.in-Ok.ensures.made in
    let local : state_of c.set.new.self ≡ with_local s k = ok.1 ∙ rw (c.x.ensures, c.x_register.ensures) refl in
    let there : state_of c.note_where.new.self ≡ record (with_local s k) { touched = s.touched || z_of c.args.i.now == rS } =
    c.note_where.ensures ∙ rw (local, c.z-in-Ok-2.ensures) refl in
    let value : c.special-value.result ≡ special_register (with_local s k) (z_of c.args.i.now) = c.special-value.ensures ∙ rw (local, c.z-in-Ok.ensures) refl in
    after-local-seen s (state_of c.note_where.new.self) (state_of c.settle.new.self) k _ (next_of c.args.i.now) _ c.settle.result _ there
    (rw (sym value, sym c.next.ensures) c.settle.ensures)
    (sym (ap (λ j. set_overfills s.stack j) c.x.ensures) ∙ ok.0)
    (formed s c.args.i.now c.y.result c.z.result c.y.ensures c.z.ensures c.if-y-ne0.false c.if-z-gt31.false)

pub returns-in-Err : goal.returns-in-Err
returns-in-Err c =
    let s = state_of c.args.self.now in
    let err = set-err s (state_of c.set.new.self) c.x.result c.x_register.result c.in-Err.stop (rw c.in-Err.is at c.set.ensures.made) in
    refused-as _ _ s (state_of c.set.new.self) _ c.in-Err.stop _ (formed s c.args.i.now c.y.result c.z.result c.y.ensures c.z.ensures c.if-y-ne0.false c.if-z-gt31.false)
    (sym (ap (λ j. set_overfills s.stack j) c.x.ensures) ∙ err.0, err.1, err.2)
