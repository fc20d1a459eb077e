use Rattle.mx_con.proofs.Parts.{part-after, part-over}
use Rattle.mx_con.proofs.SessionSteps.{asked-read, asked-over}
use Rattle.mx_con.proofs.sessions.ask.Goals as goal

pub returns-in-Ok : goal.returns-in-Ok
returns-in-Ok g c = part-after c.in-Ok.ensures.keeps c.read_line.ensures (λ e. e) (λ t h. asked-read _ tt _ _ _ _ (c.in-Ok.ensures.told t) h)

pub returns-in-Err : goal.returns-in-Err
returns-in-Err g c = part-over c.in-Err.end c.in-Err.ensures (λ h. asked-over _ c.in-Err.end _ _ h)
