use Rattle.std.proofs.Common.{Some, arith}
use Rattle.std.proofs.lemmas.Result.{err_from_is_err_and}
use Rattle.mx_core.specs.Kept.{state_of}
use Rattle.mx_dump.specs.Shown.{IsNextShown}
use Rattle.mx_dump.proofs.DumpLines.{writes-no-octa, writes-octa, writes-octas-ended, writes-octas}
use Rattle.mx_dump.proofs.lines.put_octas.Goals as goal

pub loop-a-init : goal.loop-a-init
loop-a-init g c = record { most = omega arith; octas = omega arith; written = writes-no-octa (state_of c.args.machine.now) _ _ }

pub returns-in_err-put_octa : goal.returns-in_err-put_octa
returns-in_err-put_octa g c =
    let p = err_from_is_err_and c.from_residual.result c.from_residual.ensures.1 in
    rw (p.1, p.2) (writes-octas-ended (state_of c.args.machine.now) _ _ _ _ _ _ c.loop-a.from c.in-Some.a c.in-Some.x _ c.loop-a.invariant.octas c.in-Some.ensures c.loop-a.invariant.written c.in_err-put_octa.ensures)

pub loop-a-preserved : goal.loop-a-preserved
loop-a-preserved g c =
    let there : IsNextShown (state_of c.args.machine.now) c.loop-a.from (Some (c.in-Some.a, c.in-Some.x)) = c.in-Some.ensures in
    let below = there.1 in
    let octas = there.2 in
    record {
      most = omega (arith, below, octas);
      octas = omega (arith, octas);
      written = writes-octa (state_of c.args.machine.now) _ _ _ _ _ _ c.loop-a.from c.in-Some.a c.in-Some.x c.loop-a.invariant.octas c.in-Some.ensures c.loop-a.invariant.written c.in_ok-put_octa.ensures;
    }

pub returns : goal.returns
returns g c = writes-octas (state_of c.args.machine.now) _ _ _ _ c.loop-a.from c.loop-a.invariant.octas c.loop-a.invariant.most c.in_default.ensures c.loop-a.invariant.written
