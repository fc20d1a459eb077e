use Rattle.std.proofs.Common.{arith, sym, subst, refl, IsTrue, false}
use Rattle.mx_host.specs.HostModel.{contents}
use Rattle.mx_core.specs.Kept.{state_of}
use Rattle.mx_run.specs.Runs.{no_flags}
use Rattle.mx_run.proofs.AccompaniedRuns.{went-rest, went-made, ended-so, lacking-so, spent-so, of-run, accompanied-is}
use Rattle.mx_run.proofs.FreeTurns.{none-made}
use Rattle.mx_run.proofs.Later.{begun-later, few-later, turned-later, last-later}
use Rattle.mx_run.proofs.RunBoth.{rest-begun-both, rest-listed}
use Rattle.mx_run.proofs.Runners.{run-is}
use Rattle.mx_plan.proofs.KeptHosts.{keeps_host-all, keeps_host-kept, keeps_host-then}
use Rattle.mx_watch.proofs.Listened.{goes-on}
use Rattle.mx_watch.proofs.ListTraces.{unless-wild}
use Rattle.mx_count.proofs.CountedTraces.{begun-counted, went-counted, ended-counted, spent-counted, begun-by-list, went-by-list, ended-by-list, spent-by-list}
use Rattle.mx_count.proofs.walk.count_traces.Goals as goal

pub loop-made-init : goal.loop-made-init
loop-made-init g c = record {
  told = λ t. rest-begun-both c.args.n no_flags false (state_of c.args.machine.now, contents (g.H.Host.told c.args.host.now));
  made = λ t. none-made (state_of c.args.machine.now) (contents (g.H.Host.told c.args.host.now));
  counted = λ t. begun-counted c.args.n _ _ _;
  list_counted = λ t u. begun-by-list c.args.n _ _ _ _;
  bound = begun-later (state_of c.args.machine.now);
  keeps = keeps_host-all (g.H.Host.told c.args.host.now) (g.H.Host.faults c.args.host.now);
}

pub loop-made-preserved : goal.loop-made-preserved
loop-made-preserved g c =
    let was = c.loop-made.invariant in
    let inside = c.loop-made-test.true in
    let e = c.in-Ok.ensures in
    record {
      told = λ t. went-rest _ _ tt _ _ _ _ _ inside e.has_window (goes-on _ _ _ _ _ (e.told (subst IsTrue (sym was.keeps.0) t))) (was.told t);
      made = λ t. went-made _ tt _ _ _ (goes-on _ _ _ _ _ (e.told (subst IsTrue (sym was.keeps.0) t))) (was.made t);
      counted = λ t. went-counted _ _ _ _ _ _ _ _ _ _ inside (e.told (subst IsTrue (sym was.keeps.0) t)) (λ test. c.in-Ok-add_step.ensures.ok test) (was.counted t);
      list_counted = λ t u.
          went-by-list _ _ _ _ _ _ _ _ _ _ _ inside e.has_window (e.told (subst IsTrue (sym was.keeps.0) t)) (λ test. c.in-Ok-add_step.ensures.ok test)
          (rest-listed _ _ no_flags false false _ _ _ _ (was.told t) u) (was.list_counted t u);
      bound = turned-later _ _ _ _ was.bound e.bound;
      keeps = keeps_host-then _ _ _ _ _ _ was.keeps (keeps_host-kept _ _ _ _ e.keeps);
    }

-- ---- where a count lacks memory

pub returns-in-Err-add_step-clause-plan : goal.returns-in-Err-add_step-clause-plan
returns-in-Err-add_step-clause-plan g c = λ t.
    let was = c.loop-made.invariant in
    lacking-so _ _ _ _ (omega (arith, c.loop-made-test.true)) (went-made _ tt _ _ _ (goes-on _ _ _ _ _ (c.in-Ok.ensures.told (subst IsTrue (sym was.keeps.0) t))) (was.made t))

pub returns-in-Err-add_step-clause-run : goal.returns-in-Err-add_step-clause-run
returns-in-Err-add_step-clause-run g c =
    let was = c.loop-made.invariant in
    accompanied-is _ _ _ _ _ _ _ _ (returns-in-Err-add_step-clause-plan g c) (λ t ne. absurd (ne refl)) (last-later _ _ _ _ _ c.loop-made-test.true was.bound c.in-Ok.ensures.bound)
    (keeps_host-then _ _ _ _ _ _ was.keeps (keeps_host-kept _ _ _ _ c.in-Ok.ensures.keeps))

pub returns-in-Err-add_step-clause-counted : goal.returns-in-Err-add_step-clause-counted
returns-in-Err-add_step-clause-counted g c = λ t ne. absurd (ne refl)

pub returns-in-Err-add_step-clause-list_counted : goal.returns-in-Err-add_step-clause-list_counted
returns-in-Err-add_step-clause-list_counted g c = λ t ne. absurd (ne refl)

-- ---- where the run ends

pub returns-in-Err-clause-plan : goal.returns-in-Err-clause-plan
returns-in-Err-clause-plan g c = λ t.
    let was = c.loop-made.invariant in
    let e = c.in-Err.ensures in
    of-run _ _ _ _ (ended-so _ _ _ _ _ _ _ _ c.loop-made-test.true e.has_window (was.told t) (e.told (subst IsTrue (sym was.keeps.0) t))).window

pub returns-in-Err-clause-run : goal.returns-in-Err-clause-run
returns-in-Err-clause-run g c =
    let was = c.loop-made.invariant in
    let e = c.in-Err.ensures in
    run-is _ _ _ _ _ _ _ _ _ _ (λ t. ended-so _ _ _ _ _ _ _ _ c.loop-made-test.true e.has_window (was.told t) (e.told (subst IsTrue (sym was.keeps.0) t)))
    (last-later _ _ _ _ _ c.loop-made-test.true was.bound e.bound) (keeps_host-then _ _ _ _ _ _ was.keeps (keeps_host-kept _ _ _ _ e.keeps))

pub returns-in-Err-clause-counted : goal.returns-in-Err-clause-counted
returns-in-Err-clause-counted g c = λ t ne.
    let was = c.loop-made.invariant in
    ended-counted _ _ _ _ _ _ _ _ _ c.loop-made-test.true ne (c.in-Err.ensures.told (subst IsTrue (sym was.keeps.0) t)) (was.counted t)

pub returns-in-Err-clause-list_counted : goal.returns-in-Err-clause-list_counted
returns-in-Err-clause-list_counted g c = λ t ne u.
    let was = c.loop-made.invariant in
    unless-wild _ _ _ (λ same. same)
    (ended-by-list _ _ _ _ _ _ _ _ _ _ c.loop-made-test.true c.in-Err.ensures.has_window ne (c.in-Err.ensures.told (subst IsTrue (sym was.keeps.0) t)) (rest-listed _ _ no_flags false false _ _ _ _ (was.told t) u) (was.list_counted t u))

-- ---- where all steps are made

pub returns-clause-plan : goal.returns-clause-plan
returns-clause-plan g c = λ t. of-run _ _ _ _ (spent-so _ _ _ _ c.loop-made-test.false (c.loop-made.invariant.told t)).window

pub returns-clause-run : goal.returns-clause-run
returns-clause-run g c =
    let was = c.loop-made.invariant in
    run-is _ _ _ _ _ _ _ _ _ _ (λ t. spent-so _ _ _ _ c.loop-made-test.false (was.told t)) (few-later _ _ _ _ (omega (arith, c.loop-made-test.false)) was.bound) was.keeps

pub returns-clause-counted : goal.returns-clause-counted
returns-clause-counted g c = λ t ne. spent-counted _ _ _ _ _ _ c.loop-made-test.false (c.loop-made.invariant.counted t)

pub returns-clause-list_counted : goal.returns-clause-list_counted
returns-clause-list_counted g c = λ t ne u.
    unless-wild _ _ _ (λ same. same) (spent-by-list _ _ _ _ _ _ _ c.loop-made-test.false (c.loop-made.invariant.list_counted t u))
