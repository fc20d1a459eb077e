use Rattle.mx_load.specs.Kept.{image_of}
use Rattle.mx_object.proofs.CountedObjects.{loaded-left, loaded-told, refused-told, unloaded-left}
use Rattle.mx_object.proofs.counted.count_object.Goals as goal

pub returns-in-Ok-clause-told : goal.returns-in-Ok-clause-told
returns-in-Ok-clause-told g c =
    loaded-told _ _ _ c.args.order.now c.args.arguments.now c.args.bytes.now (image_of c.in-Ok.image) c.in-Ok.image.symbols (c.in-Ok.ensures (λ e. absurd (cc))) c.count_loaded.ensures.told

pub returns-in-Err-Bad-clause-told : goal.returns-in-Err-Bad-clause-told
returns-in-Err-Bad-clause-told g c =
    refused-told _ _ c.args.order.now c.args.arguments.now c.args.bytes.now c.in-Err-Bad.place c.in-Err-Bad.fault ((rw c.in-Err-Bad.field-0-is at c.in-Err-Bad.ensures) (λ e. absurd (cc))) (rw c.in-Err-Bad.field-0-is at c.without_sheet.ensures)

pub returns-in-Ok-clause-left : goal.returns-in-Ok-clause-left
returns-in-Ok-clause-left g c = λ t. loaded-left c.args.order.now c.args.arguments.now _ _ _ _ _ (c.in-Ok.ensures (λ e. absurd (cc))) (c.count_loaded.ensures.left t)

pub returns-in-Err-Bad-clause-left : goal.returns-in-Err-Bad-clause-left
returns-in-Err-Bad-clause-left g c = λ t. unloaded-left c.args.order.now c.args.arguments.now _ _

pub returns-in-Err-OutOfMemory-clause-left : goal.returns-in-Err-OutOfMemory-clause-left
returns-in-Err-OutOfMemory-clause-left g c = λ t. unloaded-left c.args.order.now c.args.arguments.now _ _
