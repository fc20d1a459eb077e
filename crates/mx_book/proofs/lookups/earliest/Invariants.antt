use Rattle.std.proofs.Common.{◌≡◌, drop}
use Rattle.mx_book.specs.Lookups.{earlier, earliest}
use Rattle.mx_book.proofs.lookups.earliest.Given as goal

abbrev pub invariant-loop-load : goal.invariant-loop-load
invariant-loop-load l = earliest l.line l.loads ≡ earlier l.best (earliest l.line (drop l.load-index l.loads))
