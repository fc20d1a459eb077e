use Rattle.std.proofs.Common.{◌≡◌, ◌++◌, take}
use Rattle.std.specs.List.{flat_map}
use Rattle.mx_occurrences.specs.Occurrences.{in_token}
use Rattle.mx_occurrences.proofs.gathering.add_tokens.Given as goal

abbrev pub invariant-loop-token : goal.invariant-loop-token
invariant-loop-token l = l.out ≡ l.fn.out ++ flat_map (in_token l.before l.course l.line) (take l.token-index l.tokens)
