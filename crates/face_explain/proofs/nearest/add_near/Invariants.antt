use Rattle.std.proofs.Common.{◌≡◌, ◌++◌, take}
use Rattle.std.specs.List.{flat_map}
use Rattle.mx_explain.specs.Topics.{row}
use Rattle.face_explain.specs.Answers.{offered}
use Rattle.face_explain.proofs.nearest.add_near.Given as goal

abbrev pub invariant-loop-entry : goal.invariant-loop-entry
invariant-loop-entry l = l.text ≡ l.fn.text ++ flat_map (λ e. offered l.word (row e.0 e.1.now e.2.now e.3.now e.4.now)) (take l.entry-index l.entries)
