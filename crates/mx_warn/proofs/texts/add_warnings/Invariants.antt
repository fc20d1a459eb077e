use Rattle.std.proofs.Common.{◌≡◌, ◌++◌, take}
use Rattle.std.specs.List.{flat_map}
use Rattle.mx_warn.specs.Texts.{warning_text}
use Rattle.mx_warn.proofs.texts.add_warnings.Given as goal

abbrev pub invariant-loop-warning : goal.invariant-loop-warning
invariant-loop-warning l = l.text ≡ l.fn.text ++ flat_map warning_text (take l.warning-index l.told)
