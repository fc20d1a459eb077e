use Rattle.mx_host.specs.Keeping.{Keeps}
use Rattle.mx_serve.proofs.serving.work_on.Given as goal

abbrev pub invariant-loop-part : goal.invariant-loop-part
invariant-loop-part g l = Keeps (g.H.Host.told l.fn.host) (g.H.Host.told l.host) (g.H.Host.faults l.fn.host) (g.H.Host.faults l.host)
