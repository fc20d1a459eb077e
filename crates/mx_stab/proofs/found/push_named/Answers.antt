use Rattle.std.proofs.Common.{sym}
use Rattle.mx_stab.proofs.NameSets.{names-added}
use Rattle.mx_stab.proofs.found.push_named.Goals as goal

pub returns-clause-names : goal.returns-clause-names
returns-clause-names c = λ h. names-added c.push.result c.args.names.now c.add.new.names c.args.symbols.now c.push.new.self c.args.symbol c.as_slice.result.now h c.in_ok-add.ensures (sym c.as_slice.ensures) c.push.ensures.ok
