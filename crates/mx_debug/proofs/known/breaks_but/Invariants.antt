use Rattle.std.proofs.Common.{◌≡◌, ◌++◌, drop}
use Rattle.mx_debug.specs.Words.{breaks_but}
use Rattle.mx_debug.proofs.known.breaks_but.Given as goal

abbrev pub invariant-loop-b : goal.invariant-loop-b
invariant-loop-b l = breaks_but l.number l.breaks ≡ l.left ++ breaks_but l.number (drop l.b-index l.breaks)
