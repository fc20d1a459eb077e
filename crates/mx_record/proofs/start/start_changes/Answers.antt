use Rattle.mx_core.specs.Kept.{state_of}
use Rattle.mx_record.specs.Pictures.{octa_of}
use Rattle.mx_record.proofs.Stacks.{none-found}
use Rattle.mx_record.proofs.Starting.{leads-start}
use Rattle.mx_record.proofs.start.start_changes.Goals as goal

pub find_stacked_changes-requires-clause-found : goal.find_stacked_changes-requires-clause-found
find_stacked_changes-requires-clause-found c =
    none-found (state_of c.args.machine.now).stack _ (octa_of c.new-registers.result) c.machines_keep_the_invariant.ensures.over c.machines_keep_the_invariant.ensures.ring c.requires

pub returns-clause-record : goal.returns-clause-record
returns-clause-record c =
    leads-start (state_of c.args.machine.now) c.new-registers.result _ c.pc.ensures.value c.in_ok-special.ensures c.in_ok-global.ensures c.new-registers.ensures c.in_ok-stacked.ensures.changes c.in_ok-octas.ensures
