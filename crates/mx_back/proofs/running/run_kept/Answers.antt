use Rattle.std.proofs.Common.{arith, sym, subst, ap, Err, IsTrue, false}
use Rattle.mx_host.specs.HostModel.{contents}
use Rattle.mx_core.specs.Kept.{state_of}
use Rattle.mx_plan.proofs.KeptHosts.{keeps_host-all, keeps_host-kept, keeps_host-then}
use Rattle.mx_run.specs.Runs.{no_flags}
use Rattle.mx_run.proofs.AccompaniedRuns.{went-rest, went-made, ended-listed, spent-so, of-run, accompanied-is}
use Rattle.mx_run.proofs.FreeTurns.{none-made}
use Rattle.mx_run.proofs.Later.{begun-later, few-later, turned-later, last-later}
use Rattle.mx_run.proofs.RunBoth.{rest-begun-both, rest-listed}
use Rattle.mx_run.proofs.Runners.{run-is}
use Rattle.mx_back.proofs.KeptLists.{begun-beside, went-kept-beside, ended-kept-beside, spent-kept-beside}
use Rattle.mx_back.proofs.KeptSteps.{begun-kept, went-kept-on, ended-kept, ended-kept-so, spent-kept-so, none-kept, went-turns, lacking-turns, same-step, usual-taken}
use Rattle.mx_back.proofs.running.run_kept.Goals as goal

pub loop-made-init : goal.loop-made-init
loop-made-init g c = record {
  plan = λ t. rest-begun-both c.args.n no_flags false (state_of c.args.machine.now, contents (g.H.Host.told c.args.host.now));
  made = λ t. none-made (state_of c.args.machine.now) (contents (g.H.Host.told c.args.host.now));
  bound = begun-later (state_of c.args.machine.now);
  keeps = keeps_host-all (g.H.Host.told c.args.host.now) (g.H.Host.faults c.args.host.now);
  fits = c.requires;
  kept = λ t. begun-kept _ _ _ _;
  turns = λ t. none-kept _ _ _;
  kept_listed = λ t u a. begun-beside _ _ _ _ _ a;
}

pub keep_if_usual-requires : goal.keep_if_usual-requires
keep_if_usual-requires g c = c.loop-made.invariant.fits

pub keep_any_step-requires : goal.keep_any_step-requires
keep_any_step-requires g c = c.keep_if_usual.ensures.fits

pub loop-made-preserved-then-keep_if_usual : goal.loop-made-preserved-then-keep_if_usual
loop-made-preserved-then-keep_if_usual g c =
    let was = c.loop-made.invariant in
    let inside = c.loop-made-test.true in
    let e = usual-taken (g.H.Host.told c.loop-made.host) (g.H.Host.faults c.loop-made.host) _ _ _ _ (c.keep_if_usual.ensures.made c.if-keep_if_usual.true) in
    record {
      plan = λ t. went-rest _ _ _ _ _ _ _ _ inside e.over ((e.told (subst IsTrue (sym was.keeps.0) t)).ending (λ o. absurd (cc))) (was.plan t);
      made = λ t. went-made _ _ _ _ _ ((e.told (subst IsTrue (sym was.keeps.0) t)).ending (λ o. absurd (cc))) (was.made t);
      bound = turned-later _ _ _ _ was.bound e.bound;
      keeps = keeps_host-then _ _ _ _ _ _ was.keeps (keeps_host-kept _ _ _ _ e.keeps);
      fits = e.fits;
      kept = λ t.
          let now = subst IsTrue (sym was.keeps.0) t in
          went-kept-on _ _ _ _ _ _ _ _ _ _ inside (e.told now) (e.kept now (λ o. absurd (cc))) (was.kept t);
      turns = λ t. went-turns _ _ _ _ _ _ (was.made t) (e.kept (subst IsTrue (sym was.keeps.0) t) (λ o. absurd (cc))) (was.turns t);
      kept_listed = λ t u a.
          let now = subst IsTrue (sym was.keeps.0) t in
          went-kept-beside _ _ _ _ _ _ _ _ _ _ _ inside e.over (e.told now) (e.kept now (λ o. absurd (cc))) (rest-listed _ _ no_flags false false _ _ _ _ (was.plan t) u) (was.kept_listed t u a);
    }

pub loop-made-preserved : goal.loop-made-preserved
loop-made-preserved g c =
    let was = c.loop-made.invariant in
    let inside = c.loop-made-test.true in
    let e = same-step _ _ _ _ _ _ _ _ _ _ _ (c.keep_if_usual.ensures.unmade c.if-keep_if_usual.false) (c.keep_if_usual.ensures.same c.if-keep_if_usual.false) c.in-Ok.ensures in
    record {
      plan = λ t. went-rest _ _ _ _ _ _ _ _ inside e.over ((e.told (subst IsTrue (sym was.keeps.0) t)).ending (λ o. absurd (cc))) (was.plan t);
      made = λ t. went-made _ _ _ _ _ ((e.told (subst IsTrue (sym was.keeps.0) t)).ending (λ o. absurd (cc))) (was.made t);
      bound = turned-later _ _ _ _ was.bound e.bound;
      keeps = keeps_host-then _ _ _ _ _ _ was.keeps (keeps_host-kept _ _ _ _ e.keeps);
      fits = e.fits;
      kept = λ t.
          let now = subst IsTrue (sym was.keeps.0) t in
          went-kept-on _ _ _ _ _ _ _ _ _ _ inside (e.told now) (e.kept now (λ o. absurd (cc))) (was.kept t);
      turns = λ t. went-turns _ _ _ _ _ _ (was.made t) (e.kept (subst IsTrue (sym was.keeps.0) t) (λ o. absurd (cc))) (was.turns t);
      kept_listed = λ t u a.
          let now = subst IsTrue (sym was.keeps.0) t in
          went-kept-beside _ _ _ _ _ _ _ _ _ _ _ inside e.over (e.told now) (e.kept now (λ o. absurd (cc))) (rest-listed _ _ no_flags false false _ _ _ _ (was.plan t) u) (was.kept_listed t u a);
    }

-- ---- where the run ends, or a note lacks memory

pub returns-in-Err-clause-plan : goal.returns-in-Err-clause-plan
returns-in-Err-clause-plan g c = λ t.
    let was = c.loop-made.invariant in
    let e = same-step _ _ _ _ _ _ _ _ _ _ _ (c.keep_if_usual.ensures.unmade c.if-keep_if_usual.false) (c.keep_if_usual.ensures.same c.if-keep_if_usual.false) c.in-Err.ensures in
    ended-kept _ _ _ _ _ _ c.loop-made-test.true (was.plan t) (was.made t) (e.told (subst IsTrue (sym was.keeps.0) t))

pub returns-in-Err-clause-run : goal.returns-in-Err-clause-run
returns-in-Err-clause-run g c =
    let was = c.loop-made.invariant in
    let e = same-step _ _ _ _ _ _ _ _ _ _ _ (c.keep_if_usual.ensures.unmade c.if-keep_if_usual.false) (c.keep_if_usual.ensures.same c.if-keep_if_usual.false) c.in-Err.ensures in
    accompanied-is _ _ _ _ _ _ _ _ (returns-in-Err-clause-plan g c)
    (λ t ne u. ended-listed _ _ _ _ _ _ _ _ _ c.loop-made-test.true e.over ne ((e.told (subst IsTrue (sym was.keeps.0) t)).ending (λ o. ne (cc))) (was.plan t) u)
    (last-later _ _ _ _ _ c.loop-made-test.true was.bound e.bound) (keeps_host-then _ _ _ _ _ _ was.keeps (keeps_host-kept _ _ _ _ e.keeps))

pub returns-in-Err-clause-fits : goal.returns-in-Err-clause-fits
returns-in-Err-clause-fits g c = c.in-Err.ensures.fits

pub returns-in-Err-clause-kept : goal.returns-in-Err-clause-kept
returns-in-Err-clause-kept g c = λ t ne.
    let was = c.loop-made.invariant in
    let e = same-step _ _ _ _ _ _ _ _ _ _ _ (c.keep_if_usual.ensures.unmade c.if-keep_if_usual.false) (c.keep_if_usual.ensures.same c.if-keep_if_usual.false) c.in-Err.ensures in
    let now = subst IsTrue (sym was.keeps.0) t in
    ended-kept-so _ _ _ _ _ _ _ _ _ _ c.loop-made-test.true ne (e.told now) (e.kept now (λ o. ne (cc))) (was.kept t)

pub returns-in-Err-clause-front : goal.returns-in-Err-clause-front
returns-in-Err-clause-front g c = λ t o.
    let was = c.loop-made.invariant in
    let e = same-step _ _ _ _ _ _ _ _ _ _ _ (c.keep_if_usual.ensures.unmade c.if-keep_if_usual.false) (c.keep_if_usual.ensures.same c.if-keep_if_usual.false) c.in-Err.ensures in
    lacking-turns _ _ _ _ _ _ _ _ c.loop-made-test.true (was.made t) (was.turns t) (e.lacking (subst IsTrue (sym was.keeps.0) t) (ap Err o))

pub returns-in-Err-clause-kept_listed : goal.returns-in-Err-clause-kept_listed
returns-in-Err-clause-kept_listed g c = λ t ne u a.
    let was = c.loop-made.invariant in
    let e = same-step _ _ _ _ _ _ _ _ _ _ _ (c.keep_if_usual.ensures.unmade c.if-keep_if_usual.false) (c.keep_if_usual.ensures.same c.if-keep_if_usual.false) c.in-Err.ensures in
    let now = subst IsTrue (sym was.keeps.0) t in
    ended-kept-beside _ _ _ _ _ _ _ _ _ _ _ c.loop-made-test.true e.over ne (e.told now) (e.kept now (λ o. ne (cc))) (rest-listed _ _ no_flags false false _ _ _ _ (was.plan t) u) (was.kept_listed t u a)

-- ---- where all steps are made

pub returns-clause-plan : goal.returns-clause-plan
returns-clause-plan g c = λ t. of-run _ _ _ _ (spent-so _ _ _ _ c.loop-made-test.false (c.loop-made.invariant.plan t)).window

pub returns-clause-run : goal.returns-clause-run
returns-clause-run g c =
    let was = c.loop-made.invariant in
    run-is _ _ _ _ _ _ _ _ _ _ (λ t. spent-so _ _ _ _ c.loop-made-test.false (was.plan t)) (few-later _ _ _ _ (omega (arith, c.loop-made-test.false)) was.bound) was.keeps

pub returns-clause-fits : goal.returns-clause-fits
returns-clause-fits g c = c.loop-made.invariant.fits

pub returns-clause-kept : goal.returns-clause-kept
returns-clause-kept g c = λ t ne. spent-kept-so _ _ _ _ _ _ c.loop-made-test.false (c.loop-made.invariant.kept t)

pub returns-clause-kept_listed : goal.returns-clause-kept_listed
returns-clause-kept_listed g c = λ t ne u a. spent-kept-beside _ _ _ _ _ _ _ c.loop-made-test.false (c.loop-made.invariant.kept_listed t u a)
