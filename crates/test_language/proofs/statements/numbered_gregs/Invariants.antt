use Rattle.std.proofs.Common.{◌≡◌, ◌≤◌}
use Rattle.mx_names.specs.Gregs.{lowest_of}
use Rattle.test_language.proofs.statements.numbered_gregs.Given as goal

abbrev pub invariant-loop-reg : goal.invariant-loop-reg
invariant-loop-reg l = (l.g ≤ l.reg) × (lowest_of l.gregs ≡ l.reg)
