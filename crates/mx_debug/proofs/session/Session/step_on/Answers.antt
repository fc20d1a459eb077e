use Rattle.std.proofs.Common.{◌∙◌, ap}
use Rattle.std.specs.Prelude.{min, ◌+◌, ◌-◌, ◌^◌}
use Rattle.mx_debug.specs.Sessions.{Debugged}
use Rattle.mx_debug.proofs.Reaching.{on-ok, reached-on}
use Rattle.mx_debug.proofs.session.Session.step_on.Goals as goal

pub returns-clause-reached : goal.returns-clause-reached
returns-clause-reached c = on-ok _ (reached-on _ _ _ _ _ _ _ c.last_step.type_inv c.last_step.ensures (c.min-k.ensures ∙ ap (λ x. min x c.last_step.result) (c.saturating_add.ensures ∙ ap (λ x. min (x + c.args.n) (2 ^ 64 - 1)) (c.step_number.ensures.count ∙ ap (λ (s : Debugged). s.at) c.self.view_is)))) c.go_to.ensures.reached
