use Rattle.std.proofs.Common.{◌≡◌, ◌++◌, drop}
use Rattle.mx_debug.specs.Words.{watches_but}
use Rattle.mx_debug.proofs.known.watches_but.Given as goal

abbrev pub invariant-loop-watch : goal.invariant-loop-watch
invariant-loop-watch l = watches_but l.number l.watches ≡ l.left ++ watches_but l.number (drop l.watch-index l.watches)
