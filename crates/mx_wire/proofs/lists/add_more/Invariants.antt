use Rattle.std.proofs.Common.{◌≡◌, ◌++◌, ℕ, List, take}
use Rattle.mx_json.specs.Json.{further}
use Rattle.mx_wire.proofs.lists.add_more.Given as goal

abbrev pub invariant-loop-value : goal.invariant-loop-value
invariant-loop-value l = l.text ≡ l.fn.text ++ further (λ (value : List ℕ). value) (take l.value-index l.values)
