use Rattle.mx_con.proofs.ListedSessions.{session-over-listed, session-limit-listed}
use Rattle.mx_con.proofs.SessionClauses.{session-told, session-begun, session-keeps}
use Rattle.mx_con.proofs.SessionSteps.{session-over, session-limit}
use Rattle.mx_con.proofs.sessions.session.Goals as goal

pub returns-in-Ok-clause-plan : goal.returns-in-Ok-clause-plan
returns-in-Ok-clause-plan g c = λ t. session-limit c.args.steps _ _ _ (c.in-Ok.ensures.part.told t).window

pub returns-in-Err-clause-plan : goal.returns-in-Err-clause-plan
returns-in-Err-clause-plan g c = λ t. session-over c.args.steps c.in-Err.end _ _ (c.in-Err.ensures.part.told t).window

pub returns-in-Ok-clause-told : goal.returns-in-Ok-clause-told
returns-in-Ok-clause-told g c = λ t ne. session-told c.args.steps _ _ _ _ _ _ _ (session-limit c.args.steps _ _ _ (c.in-Ok.ensures.part.told t).window) ne

pub returns-in-Err-clause-told : goal.returns-in-Err-clause-told
returns-in-Err-clause-told g c = λ t ne. session-told c.args.steps _ _ _ _ _ _ _ (session-over c.args.steps c.in-Err.end _ _ (c.in-Err.ensures.part.told t).window) ne

pub returns-in-Err-clause-front : goal.returns-in-Err-clause-front
returns-in-Err-clause-front g c = λ t e. session-begun c.args.steps _ _ _ _ _ _ _ (session-over c.args.steps c.in-Err.end _ _ (c.in-Err.ensures.part.told t).window) e

pub returns-in-Ok-clause-keeps : goal.returns-in-Ok-clause-keeps
returns-in-Ok-clause-keeps g c = session-keeps _ _ _ _ c.args.steps _ _ _ _ _ (λ t. session-limit c.args.steps _ _ _ (c.in-Ok.ensures.part.told t).window) c.in-Ok.ensures.part.keeps

pub returns-in-Err-clause-keeps : goal.returns-in-Err-clause-keeps
returns-in-Err-clause-keeps g c = session-keeps _ _ _ _ c.args.steps _ _ _ _ _ (λ t. session-over c.args.steps c.in-Err.end _ _ (c.in-Err.ensures.part.told t).window) c.in-Err.ensures.part.keeps

pub returns-in-Ok-clause-listed : goal.returns-in-Ok-clause-listed
returns-in-Ok-clause-listed g c = λ t ne u. session-limit-listed c.args.steps _ _ _ _ _ (c.in-Ok.ensures.part.told t) u

pub returns-in-Err-clause-listed : goal.returns-in-Err-clause-listed
returns-in-Err-clause-listed g c = λ t ne u. session-over-listed c.args.steps c.in-Err.end _ _ _ _ ne (c.in-Err.ensures.part.told t) u
