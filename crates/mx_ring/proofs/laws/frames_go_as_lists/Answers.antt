use Rattle.mx_ring.proofs.Lists.{saved-list, unsaved-list, specials-list}
use Rattle.mx_ring.proofs.laws.frames_go_as_lists.Goals as goal

pub returns : goal.returns
returns c = record { save = saved-list; unsave = unsaved-list; specials = specials-list }
