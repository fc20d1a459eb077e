use Rattle.std.proofs.Common.{rules}
use Rattle.mx_core.specs.Kept.{state_of}
use Rattle.mx_record.proofs.Searching.{old-next, old-none}
use Rattle.mx_record.proofs.octas.note_old.Goals as goal

pub loop-n-preserved : goal.loop-n-preserved
loop-n-preserved c = old-next (state_of c.args.old.now) (state_of c.args.new.now) _ _ c.loop-n.n c.in-Some.at c.in-Some.field-0-1 c.loop-n.invariant c.in-Some.ensures (search rules)

pub returns-in-None : goal.returns-in-None
returns-in-None c = old-none (state_of c.args.old.now) (state_of c.args.new.now) _ c.loop-n.n c.loop-n.invariant c.in-None.ensures
