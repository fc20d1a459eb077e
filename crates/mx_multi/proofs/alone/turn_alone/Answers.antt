use Rattle.std.proofs.Common.{refl}
use Rattle.mx_host.proofs.Keeping.{keeps-all}
use Rattle.mx_run.proofs.Areas.{has-window}
use Rattle.mx_run.proofs.Later.{advanced-later, unmade-later}
use Rattle.mx_multi.proofs.Untraced.{went-makes, stopped-makes, lacking-makes}
use Rattle.mx_multi.proofs.alone.turn_alone.Goals as goal

pub returns-in-Went : goal.returns-in-Went
returns-in-Went g c =
    let answer = c.in-Went.ensures.answer (λ e. absurd (cc)) in
    record {
      told = went-makes _ _ _ answer;
      over = has-window _ _ c.machines_keep_the_invariant.ensures c.machines_are_whole.ensures;
      bound = advanced-later _ _ _ answer;
      keeps = keeps-all _ _;
    }

pub returns-in-Stopped : goal.returns-in-Stopped
returns-in-Stopped g c =
    let answer = c.in-Stopped.ensures.answer (λ e. absurd (cc)) in
    record {
      told = rw (c.pc-pc.ensures.value, c.number.ensures) (stopped-makes _ _ _ c.in-Stopped.reason answer);
      over = has-window _ _ c.machines_keep_the_invariant.ensures c.machines_are_whole.ensures;
      bound = advanced-later _ _ _ answer;
      keeps = keeps-all _ _;
    }

pub returns-in-OutOfMemory : goal.returns-in-OutOfMemory
returns-in-OutOfMemory g c =
    let same = c.in-OutOfMemory.ensures.memory refl in
    record {
      told = lacking-makes _ _ _ same (c.in-OutOfMemory.ensures.lacks_memory refl);
      over = has-window _ _ c.machines_keep_the_invariant.ensures c.machines_are_whole.ensures;
      bound = unmade-later _ _ same;
      keeps = keeps-all _ _;
    }
