use Rattle.std.proofs.Common.{rules}
use Rattle.mx_stmt.proofs.OperandLists.{two-read}
use Rattle.mx_stmt.proofs.shapes.set_form.Goals as goal

pub returns-in_ok-x-in-len2 : goal.returns-in_ok-x-in-len2
returns-in_ok-x-in-len2 c = rw (two-read c.args.operands.now c.x-item.result c.y-item.result c.in-len2.len_at_least c.in-len2.len_below c.x-item.is c.y-item.is) (search rules)
