use Rattle.std.proofs.Common.{◌≡◌, take}
use Rattle.std.specs.List.{flat_map}
use Rattle.mx_warn.specs.Idle.{kept_text}
use Rattle.mx_warn.proofs.unused_bases.without_line.Given as goal

abbrev pub invariant-loop-line : goal.invariant-loop-line
invariant-loop-line l = l.text ≡ flat_map (kept_text l.number) (take l.line-index l.lines)
