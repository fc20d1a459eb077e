use Rattle.std.proofs.Common.{sym, ◌∙◌}
use Rattle.mx_names.proofs.Nearest.{nearest-none, nearest-before}
use Rattle.mx_names.proofs.gregs.nearest_from.Goals as goal

pub loop-place-init : goal.loop-place-init
loop-place-init c = sym (nearest-none _ _ c.args.values.now)

pub loop-place-preserved : goal.loop-place-preserved
loop-place-preserved c =
    c.with_register-nearest.ensures
    ∙ nearest-before c.args.address c.args.first c.loop-place.place c.args.values.now _ c.loop-place-test.true c.loop-place.auto.place c.loop-place.invariant
