use Rattle.std.proofs.Common.{◌≡◌, ◌++◌, take}
use Rattle.std.specs.List.{flat_map}
use Rattle.mx_book.specs.Labels.{constant_of}
use Rattle.mx_book.proofs.labels.add_constants.Given as goal

abbrev pub invariant-loop-statement : goal.invariant-loop-statement
invariant-loop-statement l = l.names ≡ l.fn.names ++ flat_map constant_of (take l.statement-index l.statements)
