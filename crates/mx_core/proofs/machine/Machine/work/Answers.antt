use Rattle.std.proofs.Common.{Some, subst, sym, ◌∙◌, ap}
use Rattle.mx_code.specs.Instructions.{operation_in}
use Rattle.mx_ring.specs.declared.notes.RingWork.TheVariants.{Push}
use Rattle.mx_core.specs.Deeds.{deed_of}
use Rattle.mx_core.specs.Way.Noting.{TellsWork}
use Rattle.mx_core.specs.Kept.{state_of}
use Rattle.mx_core.proofs.Undone.Works.{moves_stack, push_told, pop_told, save_told, unsave_told, put_told, still_told, still-others}
use Rattle.mx_core.proofs.machine.Machine.work.Goals as goal

pub returns-in-PushJump-clause-tells : goal.returns-in-PushJump-clause-tells
returns-in-PushJump-clause-tells c =
    subst (λ o. TellsWork (Some (Push c.x.result)) (deed_of o (state_of c.args.self.now) c.args.i.now)) c.operation.ensures
    (push_told c.operation.result (state_of c.args.self.now) c.args.i.now c.x.result c.in-PushJump.is c.x.ensures)

pub returns-in-Pop-clause-tells : goal.returns-in-Pop-clause-tells
returns-in-Pop-clause-tells c = pop_told (operation_in c.args.i.now) (state_of c.args.self.now) c.args.i.now c.x-in-Pop.result (sym c.operation.ensures ∙ c.in-Pop.is) c.x-in-Pop.ensures

pub returns-in-Save-clause-tells : goal.returns-in-Save-clause-tells
returns-in-Save-clause-tells c = save_told (operation_in c.args.i.now) (state_of c.args.self.now) c.args.i.now 255 c.specials_saved.result (sym c.operation.ensures ∙ c.in-Save.is)

pub returns-in-Unsave-clause-tells : goal.returns-in-Unsave-clause-tells
returns-in-Unsave-clause-tells c = unsave_told (operation_in c.args.i.now) (state_of c.args.self.now) c.args.i.now 0 (sym c.operation.ensures ∙ c.in-Unsave.is)

pub returns-in-Put-clause-tells : goal.returns-in-Put-clause-tells
returns-in-Put-clause-tells c = put_told (operation_in c.args.i.now) (state_of c.args.self.now) c.args.i.now c.x-in-Put.result c.put_work.result (sym c.operation.ensures ∙ c.in-Put.is) c.x-in-Put.ensures c.put_work.ensures.value

pub returns-in_default : goal.returns-in_default
returns-in_default c =
    let d = c.in_default in
    record { tells = still_told (operation_in c.args.i.now) (state_of c.args.self.now) c.args.i.now (ap moves_stack (sym c.operation.ensures) ∙ still-others c.operation.result d.not-PushJump d.not-PushGo d.not-Pop d.not-Save d.not-Unsave d.not-Put); needs = tt }
