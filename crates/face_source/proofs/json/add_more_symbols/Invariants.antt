use Rattle.std.proofs.Common.{◌≡◌, ◌++◌, take}
use Rattle.mx_json.specs.Json.{further}
use Rattle.face_source.specs.SourceJson.{symbol_json}
use Rattle.face_source.proofs.json.add_more_symbols.Given as goal

abbrev pub invariant-loop-symbol : goal.invariant-loop-symbol
invariant-loop-symbol l = l.text ≡ l.fn.text ++ further symbol_json (take l.symbol-index l.symbols)
