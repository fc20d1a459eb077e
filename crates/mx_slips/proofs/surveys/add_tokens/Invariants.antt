use Rattle.std.proofs.Common.{◌≡◌, ◌++◌, take}
use Rattle.std.specs.List.{flat_map}
use Rattle.mx_slips.specs.Surveys.{use_in}
use Rattle.mx_slips.proofs.surveys.add_tokens.Given as goal

abbrev pub invariant-loop-token : goal.invariant-loop-token
invariant-loop-token l = l.uses ≡ l.fn.uses ++ flat_map (use_in l.line l.is_call) (take l.token-index l.tokens)
