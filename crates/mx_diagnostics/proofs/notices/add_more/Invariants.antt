use Rattle.std.proofs.Common.{◌≡◌, ◌++◌, take}
use Rattle.mx_json.specs.Json.{further}
use Rattle.mx_diagnostics.specs.Published.{diagnostic_json}
use Rattle.mx_diagnostics.proofs.notices.add_more.Given as goal

abbrev pub invariant-loop-d : goal.invariant-loop-d
invariant-loop-d l = l.text ≡ l.fn.text ++ further diagnostic_json (take l.d-index l.told)
