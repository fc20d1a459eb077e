use Rattle.std.proofs.Common.{◌≡◌, ◌++◌, map, take}
use Rattle.mx_diagnostics.specs.Diagnostics.{warning_diagnostic}
use Rattle.mx_diagnostics.proofs.telling.add_warnings.Given as goal

abbrev pub invariant-loop-warning : goal.invariant-loop-warning
invariant-loop-warning l = l.told ≡ l.fn.told ++ map warning_diagnostic (take l.warning-index l.warnings)
