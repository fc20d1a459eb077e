use Rattle.std.proofs.Common.{sym}
use Rattle.mx_files.proofs.TypedLines.{shown-none, shown-some}
use Rattle.mx_files.proofs.typing.put_shown.Goals as goal

pub returns-then-is_empty : goal.returns-then-is_empty
returns-then-is_empty g c = shown-none _ _ c.args.text.now (sym c.if-is_empty.ensures)

pub returns : goal.returns
returns g c = shown-some _ _ _ _ _ _ (sym c.if-is_empty.ensures) c.write_line.ensures
