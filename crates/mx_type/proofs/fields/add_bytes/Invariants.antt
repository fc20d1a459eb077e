use Rattle.std.proofs.Common.{◌≡◌, ◌++◌, take}
use Rattle.mx_type.specs.Lines.{bytes_text}
use Rattle.mx_type.proofs.fields.add_bytes.Given as goal

abbrev pub invariant-loop-b : goal.invariant-loop-b
invariant-loop-b l = l.text ≡ l.fn.text ++ bytes_text (take l.b-index l.bytes)
