use Rattle.std.proofs.lemmas.Result.{err_from_is_err_and}
use Rattle.mx_core.specs.Kept.{state_of}
use Rattle.mx_dump.proofs.DumpLines.{writes-specials, writes-registers, writes-memory}
use Rattle.mx_dump.proofs.lines.dump.Goals as goal

pub returns-in_err-put_specials : goal.returns-in_err-put_specials
returns-in_err-put_specials g c =
    let p = err_from_is_err_and c.from_residual.result c.from_residual.ensures.1 in
    rw (p.1, p.2) (writes-specials (state_of c.args.machine.now) _ _ _ _ _ c.in_err-put_specials.ensures)

pub returns-in_err-put_registers : goal.returns-in_err-put_registers
returns-in_err-put_registers g c =
    let p = err_from_is_err_and c.from_residual-in_err-put_registers.result c.from_residual-in_err-put_registers.ensures.1 in
    rw (p.1, p.2) (writes-registers (state_of c.args.machine.now) _ _ _ _ _ _ _ c.in_ok-put_specials.ensures c.in_err-put_registers.ensures)

pub returns : goal.returns
returns g c = writes-memory (state_of c.args.machine.now) _ _ _ _ _ _ _ _ _ c.in_ok-put_specials.ensures c.in_ok-put_registers.ensures c.put_octas.ensures
