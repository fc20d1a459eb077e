use Rattle.std.proofs.Common.{◌∙◌, ap, map, set, sym}
use Rattle.std.proofs.lemmas.List.{map-set}
use Rattle.mx_core.specs.Bare.{shared_in, shared_of, with_shared}
use Rattle.mx_core.specs.Kept.{state_of}
use Rattle.mx_multi.specs.Joint.{no_processor}
use Rattle.mx_multi.proofs.Places.{held-at}
use Rattle.mx_multi.proofs.seats.swap_at.Goals as goal

pub returns-clause-machines : goal.returns-clause-machines
returns-clause-machines c =
    map-set state_of c.args.machines.now.items c.args.at c.swap_memory.new.self
    ∙ ap (λ s. set (map state_of c.args.machines.now.items) c.args.at s)
    (c.swap_memory.ensures.state ∙ ap (λ s. with_shared (shared_in c.args.memory.now) s) (sym (held-at _ _ c.requires _ no_processor c.index_mut.ensures.value)))

pub returns-clause-memory : goal.returns-clause-memory
returns-clause-memory c = c.swap_memory.ensures.memory ∙ ap (λ s. shared_of s) (sym (held-at _ _ c.requires _ no_processor c.index_mut.ensures.value))
