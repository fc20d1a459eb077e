use Rattle.std.proofs.Common.{arith}
use Rattle.std.proofs.lemmas.Result.{err_from_is_err_and}
use Rattle.mx_type.specs.Lines.{ended, symbol_line}
use Rattle.mx_files.proofs.Parts.{leaves-all}
use Rattle.mx_files.proofs.TypedLines.{list-next, list-ends, list-done}
use Rattle.mx_files.proofs.typing.put_symbols.Goals as goal

pub loop-symbol-init : goal.loop-symbol-init
loop-symbol-init g c = leaves-all _ _ _

pub returns-in_err-put_symbol : goal.returns-in_err-put_symbol
returns-in_err-put_symbol g c =
    let p = err_from_is_err_and c.from_residual.result c.from_residual.ensures.1 in
    rw (p.1, p.2) (list-ends (λ s. ended (symbol_line s)) _ _ _ _ _ _ _ _ _ _ _ _ c.loop-symbol-test.true c.symbol-item.is c.loop-symbol.invariant c.in_err-put_symbol.ensures)

pub loop-symbol-preserved : goal.loop-symbol-preserved
loop-symbol-preserved g c = list-next (λ s. ended (symbol_line s)) _ _ _ _ _ _ _ _ _ _ _ c.loop-symbol-test.true c.symbol-item.is c.loop-symbol.invariant c.in_ok-put_symbol.ensures

pub returns : goal.returns
returns g c = list-done (λ s. ended (symbol_line s)) _ _ _ _ c.args.symbols.now c.loop-symbol.symbol-index _ (omega (arith, c.loop-symbol-test.false)) c.loop-symbol.invariant
