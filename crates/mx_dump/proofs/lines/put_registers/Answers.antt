use Rattle.std.proofs.Common.{arith}
use Rattle.std.proofs.lemmas.Result.{err_from_is_err_and}
use Rattle.mx_core.specs.Kept.{state_of}
use Rattle.mx_dump.specs.Dump.{register_line}
use Rattle.mx_dump.proofs.DumpLines.{register-lines}
use Rattle.mx_files.proofs.WrittenLines.{writes-none, writes-next, writes-last, writes-all}
use Rattle.mx_dump.proofs.lines.put_registers.Goals as goal

pub loop-k-init : goal.loop-k-init
loop-k-init g c = writes-none _ _

pub returns-in_err-put_register : goal.returns-in_err-put_register
returns-in_err-put_register g c =
    let p = err_from_is_err_and c.from_residual.result c.from_residual.ensures.1 in
    rw (p.1, p.2) (let s = state_of c.args.machine.now in
    writes-last (register_line s) _ _ _ _ _ _ 256 c.loop-k.k _ _ (register-lines s) c.loop-k-test.true c.loop-k.invariant c.in_err-put_register.ensures)

pub loop-k-preserved : goal.loop-k-preserved
loop-k-preserved g c =
    writes-next (register_line (state_of c.args.machine.now)) _ _ _ _ _ _ 256 c.loop-k.k c.loop-k-test.true c.loop-k.invariant c.in_ok-put_register.ensures

pub returns : goal.returns
returns g c =
    let s = state_of c.args.machine.now in
    writes-all (register_line s) _ _ _ _ 256 c.loop-k.k _ (register-lines s) (omega (arith, c.loop-k-test.false)) c.loop-k.invariant
