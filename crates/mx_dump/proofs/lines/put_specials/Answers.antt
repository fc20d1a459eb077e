use Rattle.std.proofs.Common.{arith}
use Rattle.std.proofs.lemmas.Result.{err_from_is_err_and}
use Rattle.mx_core.specs.Kept.{state_of}
use Rattle.mx_dump.specs.Dump.{special_line}
use Rattle.mx_dump.proofs.DumpLines.{special-lines}
use Rattle.mx_files.proofs.WrittenLines.{writes-none, writes-next, writes-last, writes-all}
use Rattle.mx_dump.proofs.lines.put_specials.Goals as goal

pub loop-code-init : goal.loop-code-init
loop-code-init g c = writes-none _ _

pub returns-in_err-put_special : goal.returns-in_err-put_special
returns-in_err-put_special g c =
    let p = err_from_is_err_and c.from_residual.result c.from_residual.ensures.1 in
    rw (p.1, p.2) (let s = state_of c.args.machine.now in
    writes-last (special_line s) _ _ _ _ _ _ 32 c.loop-code.code _ _ (special-lines s) c.loop-code-test.true c.loop-code.invariant c.in_err-put_special.ensures)

pub loop-code-preserved : goal.loop-code-preserved
loop-code-preserved g c =
    writes-next (special_line (state_of c.args.machine.now)) _ _ _ _ _ _ 32 c.loop-code.code c.loop-code-test.true c.loop-code.invariant c.in_ok-put_special.ensures

pub returns : goal.returns
returns g c =
    let s = state_of c.args.machine.now in
    writes-all (special_line s) _ _ _ _ 32 c.loop-code.code _ (special-lines s) (omega (arith, c.loop-code-test.false)) c.loop-code.invariant
