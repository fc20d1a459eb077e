use Rattle.std.proofs.Common.{sym}
use Rattle.face_explain.specs.Answers.{fitting}
use Rattle.face_explain.proofs.WholeTable.{section-texts}
use Rattle.face_explain.proofs.answer.add_section.Goals as goal

pub returns : goal.returns
returns c = rw (sym (section-texts (fitting c.args.word.now) c.part_of.result c.args.section c.part_of.ensures)) c.add_found.ensures
