use Rattle.std.proofs.Common.{◌≡◌, ◌++◌, take}
use Rattle.mx_json.specs.Json.{further}
use Rattle.face_count.specs.CountJson.{line_json}
use Rattle.face_count.proofs.json.add_more_lines.Given as goal

abbrev pub invariant-loop-line : goal.invariant-loop-line
invariant-loop-line l = l.text ≡ l.fn.text ++ further line_json (take l.line-index l.lines)
