use Rattle.mx_debug.proofs.Reaching.{reached-after, on-ok}
use Rattle.mx_debug.proofs.arriving.arrive.Goals as goal

pub returns-clause-reached : goal.returns-clause-reached
returns-clause-reached c =
    on-ok _ (reached-after _ _ _ _ _ c.in_ok-go_to.ensures.program c.if-k-eq0.false c.in_ok-go_to.ensures.reached) c.make_last_turn.ensures.reached
