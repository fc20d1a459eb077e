use Rattle.std.proofs.Common.{arith}
use Rattle.std.proofs.lemmas.Result.{err_from_is_err_and}
use Rattle.mx_files.proofs.PutPieces.{text-next, text-ends, text-last}
use Rattle.mx_files.proofs.pieces.put_text.Goals as goal

pub returns-in_err-put_piece : goal.returns-in_err-put_piece
returns-in_err-put_piece g c =
    let p = err_from_is_err_and c.from_residual.result c.from_residual.ensures.1 in
    rw (p.1, p.2) (text-ends _ _ _ _ _ _ _ _ _ _ _ c.loop-rest-test.true c.split_at.ensures.front c.loop-rest.invariant c.in_err-put_piece.ensures)

pub loop-rest-preserved : goal.loop-rest-preserved
loop-rest-preserved g c = text-next _ _ _ _ _ _ _ _ _ _ _ c.loop-rest-test.true c.split_at.ensures.front c.split_at.ensures.back c.loop-rest.invariant c.in_ok-put_piece.ensures

pub returns : goal.returns
returns g c = text-last _ _ _ _ _ _ _ _ _ _ (omega (arith, c.loop-rest-test.false)) c.loop-rest.invariant c.put_piece-2.ensures
