use Rattle.std.proofs.Common.{◌≡◌, drop, map}
use Rattle.serde_json.specs.View.{items_view}
use Rattle.mx_adapter.specs.Needs.{argument_of, first_unmet_of_each}
use Rattle.mx_adapter.proofs.needs.find_in_each.Given as goal

abbrev pub invariant-loop-number : goal.invariant-loop-number
invariant-loop-number l =
    first_unmet_of_each (map argument_of l.needs) 0 (items_view l.parts)
    ≡ first_unmet_of_each (map argument_of l.needs) l.number (items_view (drop l.number l.parts))
