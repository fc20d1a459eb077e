use Rattle.std.proofs.Common.{◌≡◌, IsTrue, length}
use Rattle.mx_host.specs.HostModel.{contents, tells}
use Rattle.mx_host.specs.Keeping.{Keeps}
use Rattle.mx_serve.specs.Wire.{bodies_put}
use Rattle.mx_serve.proofs.writing.put_bodies.Given as goal

-- the bodies that are left are left to write
abbrev pub invariant-loop-rest : goal.invariant-loop-rest
invariant-loop-rest g l = record {
  told : IsTrue (tells (g.H.Host.told l.fn.host)) →
      bodies_put l.bodies (contents (g.H.Host.told l.fn.host)) ≡ bodies_put l.rest (contents (g.H.Host.told l.host));
  keeps : Keeps (g.H.Host.told l.fn.host) (g.H.Host.told l.host) (g.H.Host.faults l.fn.host) (g.H.Host.faults l.host);
}

abbrev pub decreases-loop-rest : goal.decreases-loop-rest
decreases-loop-rest g l = length l.rest
