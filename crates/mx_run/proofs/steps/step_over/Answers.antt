use Rattle.std.proofs.Common.{◌≡◌, refl, subst}
use Rattle.mx_plan.proofs.KeptHosts.{keeps_host-all}
use Rattle.mx_core.specs.Kept.{state_of}
use Rattle.mx_core.specs.Step.{step}
use Rattle.mx_core.specs.Way.Stepping.{advanced}
use Rattle.mx_core.specs.declared.step.Advance.{Advance}
use Rattle.mx_run.proofs.FreeSteps.{free-went, free-lacking, went-spares, needs-none}
use Rattle.mx_run.proofs.Later.{advanced-later, unmade-later}
use Rattle.mx_run.proofs.steps.step_over.Goals as goal

pub returns-in-Went-clause-step : goal.returns-in-Went-clause-step
returns-in-Went-clause-step g c =
    let s = state_of c.args.machine.now in
    let came = subst (λ (a : Advance). (a, s) ≡ advanced s (step s)) c.in-Went.is (c.requires.came (λ o. absurd (cc))) in
    record {
      told = λ t. free-went _ _ _ _ c.requires.free came;
      spared = λ n h. went-spares n _ _ came h;
      bound = advanced-later _ _ _ came;
      keeps = keeps_host-all _ _;
    }

pub returns-in-OutOfMemory-clause-step : goal.returns-in-OutOfMemory-clause-step
returns-in-OutOfMemory-clause-step g c =
    let lacks = c.requires.there c.in-OutOfMemory.is in
    record {
      told = λ t. free-lacking _ _ _ c.requires.free lacks;
      spared = λ n h. needs-none n _ lacks h;
      bound = unmade-later _ _ refl;
      keeps = keeps_host-all _ _;
    }
