use Rattle.std.proofs.Common.{rules, arith, sym, subst}
use Rattle.mx_asm.proofs.Words.{common_steps, Load, AreFit}
use Rattle.mx_asm.proofs.Fitting.{fit-push}
use Rattle.mx_asm.proofs.head.load_all.Goals as goal

pub loop-rest-preserved : goal.loop-rest-preserved
loop-rest-preserved c = (
  grind (arith, common_steps),
  λ fit. subst AreFit (sym c.in_ok-push.ensures.ok) (fit-push c.loop-rest.items (Load c.tetra_of.result) (c.loop-rest.invariant.1 fit) (search rules)),
)
