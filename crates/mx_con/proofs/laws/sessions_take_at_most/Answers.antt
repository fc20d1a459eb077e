use Rattle.mx_con.proofs.WalkedPlans.{session-takes}
use Rattle.mx_con.proofs.laws.sessions_take_at_most.Goals as goal

pub returns : goal.returns
returns c = session-takes
