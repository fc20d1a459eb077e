use Rattle.std.proofs.Common.{length}
use Rattle.face_page.proofs.rows.add_plain_rows.Given as goal

abbrev pub decreases-loop-rest : goal.decreases-loop-rest
decreases-loop-rest l = length l.rest
