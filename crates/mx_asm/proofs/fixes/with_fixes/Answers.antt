use Rattle.std.proofs.Common.{sym, ◌∙◌}
use Rattle.mx_asm.proofs.FixLists.{fixes-failed}
use Rattle.mx_asm.proofs.fixes.with_fixes.Goals as goal

pub returns-in-Err-clause-fixes : goal.returns-in-Err-clause-fixes
returns-in-Err-clause-fixes c = λ memory. sym (fixes-failed c.args.line c.args.value c.loop-wait.items c.loop-wait.wait-index c.args.waits.now c.wait-item.result c.in-Err.fault c.loop-wait-test.true c.wait-item.is c.in-Err.ensures.fix) ∙ c.loop-wait.invariant.0
