-- A runner's machine, lent.
use Rattle.std.specs.Borrow.{Lends, MutBor, Fml}
use Rattle.mx_core.specs.Kept.{Kept}
use Rattle.mx_core.specs.contracts.machine.Machine as lent
use Rattle.mx_run.specs.Running.{Running}
use Rattle.mx_run.specs.contracts.runner.Runner.{the_row}

-- the runner ends with the last machine after the loan, and with the flags that it had
abbrev pub LendsMachine : MutBor Running → MutBor Kept → Fml
LendsMachine runner machine = Lends the_row lent.the_row runner machine (λ k. record { machine = k; flags = runner.now.flags })
