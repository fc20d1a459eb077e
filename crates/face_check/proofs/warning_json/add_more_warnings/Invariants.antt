use Rattle.std.proofs.Common.{◌≡◌, ◌++◌, take}
use Rattle.mx_json.specs.Json.{further}
use Rattle.face_check.specs.CheckPages.{warning_json}
use Rattle.face_check.proofs.warning_json.add_more_warnings.Given as goal

abbrev pub invariant-loop-warning : goal.invariant-loop-warning
invariant-loop-warning l = l.text ≡ l.fn.text ++ further warning_json (take l.warning-index l.warnings)
