use Rattle.mx_core.specs.Kept.{state_of}
use Rattle.mx_core.proofs.Undone.Usual.{set-back}
use Rattle.mx_core.proofs.machine.Machine.put_register_back.Goals as goal

pub returns : goal.returns
returns c = set-back (state_of c.args.self.now) _ c.args.k c.args.x c.set.result c.requires c.set.ensures.made
