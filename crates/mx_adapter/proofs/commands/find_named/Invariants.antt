use Rattle.std.proofs.Common.{◌≡◌, drop, map}
use Rattle.mx_adapter.specs.Commands.{named_by, named_in}
use Rattle.mx_adapter.proofs.commands.find_named.Given as goal

abbrev pub invariant-loop-row : goal.invariant-loop-row
invariant-loop-row l = named_in (map named_by l.rows) l.name ≡ named_in (map named_by (drop l.row-index l.rows)) l.name
