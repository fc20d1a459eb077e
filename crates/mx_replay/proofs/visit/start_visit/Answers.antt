use Rattle.std.proofs.Common.{ap, map, refl}
use Rattle.std.specs.Prelude.{string_bytes}
use Rattle.mx_replay.proofs.Steps.{begun-told, start-is, start-refused}
use Rattle.mx_replay.proofs.visit.start_visit.Goals as goal

pub returns-in-Ok-begin-clause-start : goal.returns-in-Ok-begin-clause-start
returns-in-Ok-begin-clause-start c = start-is _ _ refl refl (begun-told c.args.program.now _ _ _ _ (ap (map string_bytes) c.as_slice.ensures) c.in-Ok.ensures (λ e. absurd (cc)) c.in-Ok-begin.ensures.window)

pub returns-in-Err-begin-clause-refused : goal.returns-in-Err-begin-clause-refused
returns-in-Err-begin-clause-refused c = λ ne. start-refused _ _ _ (begun-told c.args.program.now _ _ _ _ (ap (map string_bytes) c.as_slice.ensures) c.in-Ok.ensures (λ e. ne (cc)) c.in-Err-begin.ensures.window)
