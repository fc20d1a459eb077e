use Rattle.std.proofs.Common.{◌∙◌, List, ap, arith, length, map, refl, subst, sym}
use Rattle.mx_core.specs.Kept.{Kept, state_of}
use Rattle.mx_multi.specs.Joint.{AllAlone}
use Rattle.mx_multi.proofs.Begun.{start-alone, start-count, machine-count}
use Rattle.mx_multi.proofs.multi.Multi.start.Goals as goal

pub new-seats-requires-clause-some : goal.new-seats-requires-clause-some
new-seats-requires-clause-some c =
    let count = machine-count _ _ _ c.in_ok-processors.ensures in
    let least = c.requires.least in
    omega (arith, count, least)

pub new-seats-requires-clause-flags : goal.new-seats-requires-clause-flags
new-seats-requires-clause-flags c = start-count _ _ _ _ c.in_ok-processors.ensures c.in_ok-halted.ensures

pub new-seats-requires-clause-apart : goal.new-seats-requires-clause-apart
new-seats-requires-clause-apart c = start-alone _ _ _ (λ k. refl) c.in_ok-processors.ensures

pub invariant_of-result : goal.invariant_of-result
invariant_of-result c =
    subst (λ (ks : List Kept). AllAlone (map state_of ks)) (sym c.new-seats.ensures.machines) (start-alone _ _ _ (λ k. refl) c.in_ok-processors.ensures)

pub returns-clause-count : goal.returns-clause-count
returns-clause-count c = ap (λ (ks : List Kept). length ks) c.new-seats.ensures.machines ∙ machine-count _ _ _ c.in_ok-processors.ensures
