use Rattle.std.proofs.Common.{◌≡◌, drop, map}
use Rattle.std.specs.Prelude.{option_map}
use Rattle.serde_json.specs.View.{view}
use Rattle.mx_adapter.specs.Needs.{argument_of, first_unmet}
use Rattle.mx_adapter.proofs.needs.find_first.Given as goal

abbrev pub invariant-loop-need : goal.invariant-loop-need
invariant-loop-need l =
    first_unmet (map argument_of l.needs) (option_map (λ v. view v.now) l.value)
    ≡ first_unmet (map argument_of (drop l.need-index l.needs)) (option_map (λ v. view v.now) l.value)
