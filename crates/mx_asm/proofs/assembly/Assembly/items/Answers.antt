use Rattle.std.proofs.lemmas.Result.{err_from_is_err_and}
use Rattle.mx_asm.proofs.FixLists.{fixes-are-late}
use Rattle.mx_asm.proofs.assembly.Assembly.items.Goals as goal

pub returns-in_err-items-clause-late : goal.returns-in_err-items-clause-late
returns-in_err-items-clause-late c =
    let p = err_from_is_err_and c.from_residual.result c.from_residual.ensures.1 in
    rw (p.1, p.2) (fixes-are-late c.in_err-items.field-0.0 c.self.inside.head.lambda c.args.line c.args.value c.args.waits.now c.in_err-items.ensures.items)
