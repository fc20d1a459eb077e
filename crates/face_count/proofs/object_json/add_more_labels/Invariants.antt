use Rattle.std.proofs.Common.{◌≡◌, ◌++◌, take}
use Rattle.mx_json.specs.Json.{further}
use Rattle.face_count.specs.ObjectJson.{label_json}
use Rattle.face_count.proofs.object_json.add_more_labels.Given as goal

abbrev pub invariant-loop-label : goal.invariant-loop-label
invariant-loop-label l = l.text ≡ l.fn.text ++ further label_json (take l.label-index l.labels)
