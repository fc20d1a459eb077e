use Rattle.std.proofs.Common.{◌≡◌, ◌++◌, take}
use Rattle.std.specs.List.{flat_map}
use Rattle.face_check.specs.CheckPages.{warning_line}
use Rattle.face_check.proofs.warning_lines.add_warnings.Given as goal

abbrev pub invariant-loop-warning : goal.invariant-loop-warning
invariant-loop-warning l = l.text ≡ l.fn.text ++ flat_map (warning_line l.name) (take l.warning-index l.warnings)
