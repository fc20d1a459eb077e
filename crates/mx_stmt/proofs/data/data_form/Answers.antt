use Rattle.std.proofs.Common.{◌+◌, ◌%◌, ◌^◌, sym, ap, ◌∙◌}
use Rattle.std.proofs.lemmas.Result.{err_from_is_err_and}
use Rattle.mx_stmt.proofs.DataLists.{data-failed, data-more, data-ends}
use Rattle.mx_stmt.proofs.data.data_form.Goals as goal

pub returns-in_err-target : goal.returns-in_err-target
returns-in_err-target c =
    let p = err_from_is_err_and c.from_residual.result c.from_residual.ensures.1 in
    rw (p.1, p.2) (λ memory.
    sym (data-failed _ _ c.args.line _ c.loop-e.«data» c.loop-e.place c.loop-e.e-index c.args.operands.now c.e-item.result _ c.loop-e-test.true c.e-item.is
    (sym (c.in_err-target.ensures (λ same. memory (cc)))))
    ∙ c.loop-e.invariant)

pub loop-e-preserved : goal.loop-e-preserved
loop-e-preserved c =
    data-more _ _ c.args.line _ c.loop-e.«data» c.push.new.self c.loop-e.place _ c.loop-e.e-index c.args.operands.now c.e-item.result c.in_ok-target.target c.loop-e-test.true c.e-item.is
    (sym (c.in_ok-target.ensures (λ memory. cc))) c.in_ok-push.ensures (ap (λ n. (c.loop-e.place + n) % 2 ^ 64) c.bytes.ensures)
    ∙ c.loop-e.invariant

pub returns : goal.returns
returns c = λ memory. sym (data-ends _ _ c.args.line _ c.loop-e.«data» c.loop-e.place c.loop-e.e-index c.args.operands.now c.loop-e-test.false) ∙ c.loop-e.invariant
