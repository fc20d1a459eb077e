use Rattle.mx_ring.proofs.Lists.{same-visible, same-hidden}
use Rattle.mx_ring.proofs.laws.lists_show_the_same.Goals as goal

pub returns : goal.returns
returns c = record { visible = same-visible; hidden = same-hidden }
