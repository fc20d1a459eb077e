use Rattle.mx_host.specs.Keeping.{Keeps}
use Rattle.mx_serve.proofs.serving.take_frames.Given as goal

abbrev pub invariant-loop-frame : goal.invariant-loop-frame
invariant-loop-frame g l = Keeps (g.H.Host.told l.fn.host) (g.H.Host.told l.host) (g.H.Host.faults l.fn.host) (g.H.Host.faults l.host)
