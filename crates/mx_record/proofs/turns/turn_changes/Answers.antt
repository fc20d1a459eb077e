use Rattle.std.proofs.Common.{arith, ◌∙◌, ap, bit_xor}
use Rattle.mx_core.specs.Kept.{state_of}
use Rattle.mx_record.proofs.Turning.{found, kept, leads-on, reached, zeros-after}
use Rattle.mx_record.proofs.turns.turn_changes.Goals as goal

pub octa_changes-requires : goal.octa_changes-requires
octa_changes-requires c = reached (state_of c.args.old.now) (state_of c.args.new.now) c.args.trace c.reach_of.result c.machines_hold_octas.ensures c.machines_are_whole.ensures c.requires.turn c.reach_of.ensures

pub find_stacked_changes-requires-clause-found : goal.find_stacked_changes-requires-clause-found
find_stacked_changes-requires-clause-found c =
    found (state_of c.args.old.now) (state_of c.args.new.now) c.args.stacked.now c.args.trace c.hidden_count-before.result c.machines_hold_octas.ensures c.machines_hold_octas-2.ensures c.requires.turn c.requires.stack c.hidden_count-before.ensures

pub find_stacked_changes-requires-clause-zeros : goal.find_stacked_changes-requires-clause-zeros
find_stacked_changes-requires-clause-zeros c =
    zeros-after (state_of c.args.old.now).stack c.args.stacked.now _ c.requires.stack (omega (arith, c.hidden_count-before.ensures, c.from.ensures, c.l.ensures))

pub returns-clause-record : goal.returns-clause-record
returns-clause-record c =
    leads-on (state_of c.args.old.now) (state_of c.args.new.now) c.args.stacked.now _ (ap (λ x. bit_xor x c.pc-2.result) c.pc.ensures.value ∙ ap (bit_xor (state_of c.args.old.now).pc) c.pc-2.ensures.value)
    c.in_ok-special.ensures c.in_ok-global.ensures c.requires.stack c.in_ok-stacked.ensures.changes c.in_ok-octas.ensures

pub find_stacked_changes-requires-clause-kept : goal.find_stacked_changes-requires-clause-kept
find_stacked_changes-requires-clause-kept c =
    kept (state_of c.args.old.now) (state_of c.args.new.now) c.args.stacked.now c.args.trace c.kept_count-kept.result c.hidden_count-before.result c.hidden_count.result c.machines_hold_octas.ensures c.requires.turn c.requires.stack c.kept_count-kept.ensures c.hidden_count-before.ensures c.hidden_count.ensures
