use Rattle.mx_ring.proofs.Lists.{set-refused, push-refused, pop-refused, save-refused, refused-list}
use Rattle.mx_ring.proofs.laws.refusals_are_those_of_lists.Goals as goal

pub returns : goal.returns
returns c =
    record { set = set-refused; push = push-refused; pop = pop-refused; save = save-refused; unsave = refused-list }
