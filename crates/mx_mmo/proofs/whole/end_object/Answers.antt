use Rattle.std.proofs.Common.{ap, sym}
use Rattle.std.proofs.lemmas.Result.{err_from_is_err_and}
use Rattle.mx_mmo.specs.Whole.{with_tail}
use Rattle.mx_mmo.proofs.Nexts.{finish-fault}
use Rattle.mx_mmo.proofs.whole.end_object.Goals as goal

pub returns-in_err-tail : goal.returns-in_err-tail
returns-in_err-tail c =
    let p = err_from_is_err_and c.from_residual.result c.from_residual.ensures.1 in
    rw (p.1, p.2) (λ ne. sym (ap (with_tail c.args.items) (finish-fault c.args.reader c.finish.new.self c.in_err-tail.field-0.0 c.requires (c.in_err-tail.ensures.answers (λ e. ne (cc))))))
