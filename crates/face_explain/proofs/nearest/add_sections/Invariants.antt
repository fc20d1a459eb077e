use Rattle.std.proofs.Common.{◌≡◌, ◌++◌, take}
use Rattle.std.specs.List.{flat_map}
use Rattle.face_explain.specs.Answers.{section_offered}
use Rattle.face_explain.proofs.nearest.add_sections.Given as goal

abbrev pub invariant-loop-section : goal.invariant-loop-section
invariant-loop-section l = l.text ≡ l.fn.text ++ flat_map (section_offered l.word) (take l.section-index l.sections)
