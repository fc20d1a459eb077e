use Rattle.std.proofs.Common.{◌≡◌, ◌++◌, take}
use Rattle.std.specs.List.{flat_map}
use Rattle.mx_slips.specs.Surveys.{uses_by}
use Rattle.mx_slips.proofs.surveys.add_statements.Given as goal

abbrev pub invariant-loop-statement : goal.invariant-loop-statement
invariant-loop-statement l = l.uses ≡ l.fn.uses ++ flat_map (uses_by l.line) (take l.statement-index l.statements)
