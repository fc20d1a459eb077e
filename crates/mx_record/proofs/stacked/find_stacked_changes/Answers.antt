use Rattle.std.proofs.Common.{◌+◌, arith, sym, ◌∙◌, ap}
use Rattle.mx_core.specs.Kept.{state_of}
use Rattle.mx_record.specs.Following.{stacked_by}
use Rattle.mx_record.specs.Pictures.{all_registers, octa_of}
use Rattle.mx_record.specs.Records.{noted}
use Rattle.mx_record.proofs.Stacking.{followed-all, followed-first, followed-here, followed-next, zeros-following}
use Rattle.mx_record.proofs.Telling.{tells-all, tells-none, tells-noted}
use Rattle.mx_record.proofs.stacked.find_stacked_changes.Goals as goal

pub loop-i-init : goal.loop-i-init
loop-i-init c = (tells-none _ _ _ c.args.from c.new-changes.ensures, followed-first (octa_of c.args.stacked.now) (octa_of (all_registers (state_of c.args.machine.now).stack)) c.args.from c.requires.kept)

pub loop-i-preserved : goal.loop-i-preserved
loop-i-preserved c =
    let here = c.get-old.ensures ∙ followed-here (octa_of c.loop-i.stacked) (octa_of c.args.stacked.now) (octa_of (all_registers (state_of c.args.machine.now).stack)) c.loop-i.i c.loop-i.invariant.1 in
    let new = c.read_stacked_octa-new.ensures ∙ ap (λ x. stacked_by c.args.before x (state_of c.args.machine.now).stack c.loop-i.i) here ∙ sym (c.requires.found c.loop-i.i) in (
      tells-noted _ _ (octa_of c.args.stacked.now) (octa_of (all_registers (state_of c.args.machine.now).stack)) c.args.from c.loop-i.i c.loop-i.invariant.0 c.loop-i.auto.i (c.in_ok-note.ensures ∙ ap (λ x. noted c.loop-i.changes c.loop-i.i x c.read_stacked_octa-new.result) here ∙ ap (λ x. noted c.loop-i.changes c.loop-i.i (octa_of c.args.stacked.now c.loop-i.i) x) new),
      followed-next (octa_of c.loop-i.stacked) _ (octa_of c.args.stacked.now) (octa_of (all_registers (state_of c.args.machine.now).stack)) c.loop-i.i c.read_stacked_octa-new.result c.loop-i.invariant.1 c.in_ok-set.ensures new,
    )

pub returns-clause-changes : goal.returns-clause-changes
returns-clause-changes c =
    tells-all _ (octa_of c.args.stacked.now) (octa_of (all_registers (state_of c.args.machine.now).stack)) c.args.from c.loop-i.i c.loop-i.invariant.0 (λ q l. sym (c.requires.kept q l))
    (λ q l. zeros-following (state_of c.args.machine.now).stack (octa_of c.args.stacked.now) c.args.end (c.hidden_count.result + c.from.result) c.loop-i.i q c.requires.zeros
    (omega (arith, c.hidden_count.ensures, c.from.ensures, c.l.ensures)) (omega (arith, c.max-i-end.ensures, c.loop-i-test.false)) l)

pub returns-clause-stack : goal.returns-clause-stack
returns-clause-stack c =
    followed-all (octa_of c.loop-i.stacked) (octa_of c.args.stacked.now) (octa_of (all_registers (state_of c.args.machine.now).stack)) c.loop-i.i c.loop-i.invariant.1
    (λ q l. zeros-following (state_of c.args.machine.now).stack (octa_of c.args.stacked.now) c.args.end (c.hidden_count.result + c.from.result) c.loop-i.i q c.requires.zeros
    (omega (arith, c.hidden_count.ensures, c.from.ensures, c.l.ensures)) (omega (arith, c.max-i-end.ensures, c.loop-i-test.false)) l)
