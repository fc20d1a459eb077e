use Rattle.mx_back.proofs.Histories.{backed-state, backed-count, backed-most, length-states}
use Rattle.mx_back.proofs.laws.states_come_back.Goals as goal

pub returns : goal.returns
returns c = record { state = backed-state; count = backed-count; most = backed-most; notes = length-states }
