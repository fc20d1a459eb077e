use Rattle.std.proofs.Common.{◌≡◌, ◌++◌, take}
use Rattle.std.specs.List.{flat_map}
use Rattle.mx_text.specs.Numbers.{hex_digits}
use Rattle.mx_json.proofs.strings.add_hex.Given as goal

abbrev pub invariant-loop-b : goal.invariant-loop-b
invariant-loop-b l = l.text ≡ l.fn.text ++ flat_map (hex_digits 2) (take l.b-index l.bytes)
