use Rattle.std.proofs.Common.{◌≡◌, ◌++◌, take}
use Rattle.std.specs.List.{flat_map}
use Rattle.mx_hover.specs.Completions.{item_if}
use Rattle.mx_hover.proofs.completions.add_names.Given as goal

abbrev pub invariant-loop-name : goal.invariant-loop-name
invariant-loop-name l = l.values ≡ l.fn.values ++ flat_map (λ w. item_if l.word l.kind w.now) (take l.name-index l.names)
