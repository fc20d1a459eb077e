use Rattle.std.proofs.Common.{Ok, Err, sym, ap, subst, ◌∙◌, refl}
use Rattle.mx_stmt.proofs.Words.{err_from_is_err_and, trees_of, Spells, Faultless, IsFirst, fault_of, IsFault, fields_of, operation, operand_list}
use Rattle.mx_stmt.proofs.FieldsRead.{operation-is, operation-only, of-operands, same-parsed, memory-of, same-first}
use Rattle.mx_stmt.proofs.reader.read_statement.Goals as goal

pub returns-in_err-op-clause-fault : goal.returns-in_err-op-clause-fault
returns-in_err-op-clause-fault c =
    let p = err_from_is_err_and c.from_residual.result c.from_residual.ensures.1 in
    rw (p.1, p.2) (λ memory. operation _ (operation-is c.args.text.now c.args.cut.now c.is_some.result c.slice_span.result.now _ c.is_some.ensures c.slice_span.ensures (sym c.in_err-op.was ∙ c.operation_for.ensures)))

pub returns-in_err-op-clause-first : goal.returns-in_err-op-clause-first
returns-in_err-op-clause-first c =
    let p = err_from_is_err_and c.from_residual.result c.from_residual.ensures.1 in
    rw (p.1, p.2) (λ fault is memory. ap (λ f. Err f) (operation-only _ _ fault (operation-is c.args.text.now c.args.cut.now c.is_some.result c.slice_span.result.now _ c.is_some.ensures c.slice_span.ensures (sym c.in_err-op.was ∙ c.operation_for.ensures)) is))

pub returns-in-Err-clause-fault : goal.returns-in-Err-clause-fault
returns-in-Err-clause-fault c = λ memory.
    subst (IsFault (fields_of c.args.text.now c.args.cut.now)) (sym c.of.ensures)
    (operand_list c.in_ok-op.op c.in-Err.fault (operation-is c.args.text.now c.args.cut.now c.is_some.result c.slice_span.result.now _ c.is_some.ensures c.slice_span.ensures (sym c.in_ok-op.was ∙ c.operation_for.ensures))
    (subst (λ field. IsFirst field c.in-Err.fault) c.slice_span-2.ensures (c.in-Err.ensures.fault (λ same. memory (c.of.ensures ∙ ap fault_of same)))))

pub returns-in-Err-clause-first : goal.returns-in-Err-clause-first
returns-in-Err-clause-first c = λ fault is memory.
    let q = of-operands _ _ fault (operation-is c.args.text.now c.args.cut.now c.is_some.result c.slice_span.result.now _ c.is_some.ensures c.slice_span.ensures (sym c.in_ok-op.was ∙ c.operation_for.ensures)) is in
    let same = c.in-Err.ensures.first q.list_fault (subst (λ field. IsFirst field q.list_fault) (sym c.slice_span-2.ensures) q.first) (λ same. memory (ap (λ f. Err f) (c.of.ensures ∙ memory-of c.in-Err.fault _ refl same))) in
    ap (λ f. Err f) (c.of.ensures ∙ same-first c.in-Err.fault q.list_fault _ refl same ∙ sym q.is)

pub returns-clause-read : goal.returns-clause-read
returns-clause-read c = record {
  line_is = refl;
  label_is = c.in_ok-label.ensures.label;
  op_is = operation-is c.args.text.now c.args.cut.now c.is_some.result c.slice_span.result.now _ c.is_some.ensures c.slice_span.ensures (sym c.in_ok-op.was ∙ c.operation_for.ensures);
  spelled = subst (λ field. Spells field (trees_of c.in-Ok.operands)) c.slice_span-2.ensures c.in-Ok.ensures.list.0;
  faultless = subst Faultless c.slice_span-2.ensures c.in-Ok.ensures.list.1;
}

pub returns-clause-only : goal.returns-clause-only
returns-clause-only c = λ s is memory.
    let op = operation-is c.args.text.now c.args.cut.now c.is_some.result c.slice_span.result.now _ c.is_some.ensures c.slice_span.ensures (sym c.in_ok-op.was ∙ c.operation_for.ensures) in
    let list = c.in-Ok.ensures.spelled s.operands (subst (λ field. Spells field s.operands) (sym c.slice_span-2.ensures) is.spelled) (subst Faultless (sym c.slice_span-2.ensures) is.faultless) (λ same. cc) in
    ap (λ p. Ok p) (same-parsed _ s (sym is.line_is) (c.in_ok-label.ensures.label ∙ sym is.label_is) (cc (op, is.op_is)) (cc))

pub returns-clause-first : goal.returns-clause-first
returns-clause-first c = λ fault is memory.
    let q = of-operands _ _ fault (operation-is c.args.text.now c.args.cut.now c.is_some.result c.slice_span.result.now _ c.is_some.ensures c.slice_span.ensures (sym c.in_ok-op.was ∙ c.operation_for.ensures)) is in
    let same = c.in-Ok.ensures.first q.list_fault (subst (λ field. IsFirst field q.list_fault) (sym c.slice_span-2.ensures) q.first) (λ same. cc) in
    cc
