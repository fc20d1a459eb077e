use Rattle.mx_mem.proofs.Finding.{place-within}
use Rattle.mx_mem.proofs.places.find_guessed_place.Goals as goal

pub returns-in-None-clause-within : goal.returns-in-None-clause-within
returns-in-None-clause-within c = place-within _ _ c.args.places.now _ c.requires c.place_far.ensures
