use Rattle.std.proofs.Common.{rules}
use Rattle.mx_core.specs.Kept.{state_of}
use Rattle.mx_record.specs.Pictures.{octa_shown}
use Rattle.mx_record.proofs.Telling.{tells-one}
use Rattle.mx_record.proofs.octas.octa_changes.Goals as goal

pub returns-in_ok-note_octa-in-Octa : goal.returns-in_ok-note_octa-in-Octa
returns-in_ok-note_octa-in-Octa c = tells-one _ (octa_shown (state_of c.args.old.now)) (octa_shown (state_of c.args.new.now)) c.in-Octa.n (search rules) (search rules)
