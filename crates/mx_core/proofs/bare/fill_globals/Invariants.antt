use Rattle.mx_core.proofs.BareStarts.{value_among, Filled}
use Rattle.mx_core.proofs.bare.fill_globals.Given as goal

-- the globals below $k have their values
abbrev pub invariant-loop-k : goal.invariant-loop-k
invariant-loop-k l = Filled (value_among l.globals l.g) l.fn.ring.size l.g l.k l.ring
