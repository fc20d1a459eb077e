use Rattle.std.proofs.Common.{sym, ◌∙◌}
use Rattle.face_count.specs.CountPages.{shown_bytes}
use Rattle.face_count.proofs.counting.show_bytes.Goals as goal

pub returns-then-is_object-clause-told : goal.returns-then-is_object-clause-told
unfolding shown_bytes
returns-then-is_object-clause-told g c = rw (sym c.is_object.ensures ∙ c.if-is_object.true) c.show_object.ensures.told

pub returns-clause-told : goal.returns-clause-told
unfolding shown_bytes
returns-clause-told g c = rw (sym c.is_object.ensures ∙ c.if-is_object.false) c.show_source.ensures.told
