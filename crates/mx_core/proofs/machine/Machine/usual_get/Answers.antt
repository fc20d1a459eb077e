use Rattle.std.proofs.Common.{◌≡◌, refl, sym, ◌∙◌}
use Rattle.mx_code.specs.Instructions.{operation_in}
use Rattle.mx_code.specs.declared.operation.Operation.TheVariants as op
use Rattle.mx_core.specs.Kept.{state_of}
use Rattle.mx_core.proofs.KeptSteps.{as-deed}
use Rattle.mx_core.proofs.machine.Machine.usual_get.Goals as goal

pub returns-in-Some : goal.returns-in-Some
returns-in-Some c =
    let i = c.args.i.now in
    let s = state_of c.args.self.now in
    let get : operation_in i ≡ op.Get = sym c.operation.ensures ∙ c.in-Get.is in
    (((λ e. cc), (λ _. c.in-Some.ensures.other)), sym (as-deed op.Get s i i refl get (λ x. cc)) ∙ c.in-Some.ensures.value)
