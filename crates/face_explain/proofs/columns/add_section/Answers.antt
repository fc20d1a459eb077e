use Rattle.std.proofs.Common.{sym, ap}
use Rattle.face_explain.specs.Lists.{part_text, section_text}
use Rattle.face_explain.proofs.columns.add_section.Goals as goal

pub returns : goal.returns
unfolding section_text
returns c = rw (sym (ap part_text c.part_of.ensures)) c.add_part.ensures
