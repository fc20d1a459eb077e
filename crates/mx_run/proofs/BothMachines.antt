-- The machine over a window goes no wild way.
use Rattle.std.proofs.Common.{◌≡◌, ℕ, Bool, refl, ◌∙◌, ap}
use Rattle.mx_host.specs.HostModel.{HostModel}
use Rattle.mx_plan.specs.Wild.{Course, course, carried}
use Rattle.mx_plan.proofs.WildLaws.{course_carried}
use Rattle.mx_core.specs.State.{State}
use Rattle.mx_run.specs.RunPlans.{RunCall, turning, looking, RunSays, RunWorld, running, run_plan}
use Rattle.mx_run.specs.Runs.{FlagsOf, run}
use Rattle.mx_run.specs.WildRuns.{window_machine, run_ended, run_goes, run_by}

call-carried : (o : RunCall) (w : RunWorld) → run_goes window_machine o w ≡ carried running o w
call-carried turning w = refl
call-carried looking w = refl

pub window-ends : (n : ℕ) (f : FlagsOf) (pass : Bool) (s : State) (m : HostModel) → run_by window_machine n f pass s m ≡ run_ended (run n f pass s m)
unfolding run run_by
window-ends n f pass s m =
    ap (λ (goes : (o : RunCall) → RunWorld → Course (RunSays o) RunWorld). course goes (run_plan n f pass) (s, m)) (λ i o w. call-carried o w i)
    ∙ course_carried running (run_plan n f pass) (s, m)

pub ruleset windows = (window-ends)
