use Rattle.mx_host.specs.Keeping.{Keeps}
use Rattle.mx_inputs.proofs.reading.files_at.Given as goal

abbrev pub invariant-loop-place : goal.invariant-loop-place
invariant-loop-place g l = Keeps (g.H.Host.told l.fn.host) (g.H.Host.told l.host) (g.H.Host.faults l.fn.host) (g.H.Host.faults l.host)
