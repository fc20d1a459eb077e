use Rattle.std.proofs.lemmas.Result.{err_from_is_err_and}
use Rattle.mx_stab.proofs.Steps.{taken-failed, taken-less, taken-same}
use Rattle.mx_stab.proofs.reading.read_all.Goals as goal

pub loop-next-smaller : goal.loop-next-smaller
loop-next-smaller c = taken-less c.pop.new.self.items c.take.new.due.items c.loop-next.due.items c.in-Some.next c.loop-next.reader c.take.new.self c.in-Some.ensures.items c.in_ok-take.ensures.less

pub loop-next-preserved : goal.loop-next-preserved
loop-next-preserved c = taken-same c.pop.new.self.items c.take.new.due.items c.loop-next.due.items c.in-Some.next c.loop-next.reader c.take.new.self _ c.in-Some.ensures.items (c.in_ok-take.ensures.same (λ e. cc)) c.loop-next.invariant

pub returns-in_err-take : goal.returns-in_err-take
returns-in_err-take c =
    let p = err_from_is_err_and c.from_residual-in_err-take.result c.from_residual-in_err-take.ensures.1 in
    rw (p.1, p.2) (λ ne. taken-failed c.pop.new.self.items c.loop-next.due.items c.in-Some.next c.loop-next.reader _ c.in_err-take.field-0.0 c.in-Some.ensures.items (c.in_err-take.ensures.same (λ e. ne (cc))) c.loop-next.invariant)
