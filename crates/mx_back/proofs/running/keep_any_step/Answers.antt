use Rattle.std.proofs.Common.{refl, subst, sym, ap, ◌∙◌}
use Rattle.mx_host.proofs.Keeping.{keeps-all}
use Rattle.mx_run.proofs.Areas.{has-window}
use Rattle.mx_run.proofs.Later.{stepped-later, called-later, unmade-later}
use Rattle.mx_run.proofs.Runners.{turn-keeps}
use Rattle.mx_run.proofs.TurnAnswers.{call-told}
use Rattle.mx_back.specs.KeptRuns.{ComesStep, ended_at}
use Rattle.mx_back.proofs.KeptSteps.{went-keeps, stopped-keeps, called-keeps, went-step, stopped-step-at, called-step, unnoted-step, unnoted-lacks, call-lacks}
use Rattle.mx_back.proofs.running.keep_any_step.Goals as goal

pub returns-in-Went : goal.returns-in-Went
returns-in-Went g c =
    let e = c.in-Went.ensures in
    let answer = e.answer (λ e. absurd (cc)) in
    record {
      told = λ t. went-step _ _ _ _ answer;
      over = has-window _ _ c.machines_keep_the_invariant.ensures c.machines_are_whole.ensures;
      bound = stepped-later _ _ _ answer;
      keeps = keeps-all _ _;
      fits = e.fits;
      kept = λ t ne. went-keeps _ _ _ _ _ _ answer e.kept;
      lacking = λ t o. absurd (cc);
    }

pub trap_kept-requires : goal.trap_kept-requires
trap_kept-requires g c = record { called = call-told _ _ _ (c.in-Trap.ensures.answer (λ e. absurd (cc))); noted = c.in-Trap.ensures.fits }

pub returns-in-Trap : goal.returns-in-Trap
returns-in-Trap g c =
    let e = c.trap_kept.ensures in
    let answer = c.in-Trap.ensures.answer (λ e. absurd (cc)) in
    record {
      told = λ t. subst (ComesStep _ _) (sym c.check_turn_end.ensures) (called-step _ _ _ _ _ _ _ _ c.pc-pc.ensures.value answer (e.told t));
      over = has-window _ _ c.machines_keep_the_invariant.ensures c.machines_are_whole.ensures;
      bound = called-later _ _ _ _ answer e.bound;
      keeps = turn-keeps _ _ _ _ _ _ _ _ e.told e.keeps;
      fits = e.fits;
      kept = λ t ne. called-keeps _ _ _ _ _ _ _ _ _ _ answer (e.told t) (λ o. ne (c.check_turn_end.ensures ∙ ap (ended_at _) o)) e.kept c.in-Trap.ensures.kept;
      lacking = λ t o. call-lacks _ _ _ _ _ _ _ _ _ _ _ _ answer (e.told t) e.kept c.check_turn_end.ensures o;
    }

pub returns-in-Stopped : goal.returns-in-Stopped
returns-in-Stopped g c =
    let e = c.in-Stopped.ensures in
    let answer = e.answer (λ e. absurd (cc)) in
    record {
      told = λ t. stopped-step-at _ _ _ _ _ _ c.pc-pc.ensures.value c.number.ensures answer;
      over = has-window _ _ c.machines_keep_the_invariant.ensures c.machines_are_whole.ensures;
      bound = stepped-later _ _ _ answer;
      keeps = keeps-all _ _;
      fits = e.fits;
      kept = λ t ne. stopped-keeps _ _ _ _ _ _ answer e.kept;
      lacking = λ t o. absurd (cc);
    }

pub returns-in-OutOfMemory : goal.returns-in-OutOfMemory
returns-in-OutOfMemory g c =
    let e = c.in-OutOfMemory.ensures in
    record {
      told = λ t. unnoted-step _ _ _ (e.memory refl);
      over = has-window _ _ c.machines_keep_the_invariant.ensures c.machines_are_whole.ensures;
      bound = unmade-later _ _ (e.memory refl);
      keeps = keeps-all _ _;
      fits = e.fits;
      kept = λ t ne. absurd (ne refl);
      lacking = λ t o. unnoted-lacks _ _ _ _ _ (e.memory refl) e.kept;
    }
