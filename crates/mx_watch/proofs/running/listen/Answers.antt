use Rattle.std.proofs.Common.{arith, ◌≡◌, sym, subst, refl, IsTrue, false}
use Rattle.mx_host.specs.HostModel.{contents}
use Rattle.mx_core.specs.Kept.{state_of}
use Rattle.mx_run.specs.Runs.{no_flags}
use Rattle.mx_run.specs.declared.end.End.TheVariants.{OutOfMemory, Spent}
use Rattle.mx_run.proofs.AccompaniedRuns.{went-rest, went-made, ended-so, lacking-so, spent-so, of-run, accompanied-is}
use Rattle.mx_run.proofs.FreeTurns.{none-made}
use Rattle.mx_run.proofs.Later.{begun-later, few-later, turned-later, last-later}
use Rattle.mx_run.proofs.RunBoth.{rest-begun-both, rest-listed}
use Rattle.mx_run.proofs.Runners.{run-is}
use Rattle.mx_plan.proofs.KeptHosts.{keeps_host-all, keeps_host-kept, keeps_host-then}
use Rattle.mx_watch.proofs.Listened.{goes-on, begun-heard, went-heard, ended-heard, spent-heard, left-heard}
use Rattle.mx_watch.proofs.Lacked.{begun-told, went-told, lacked-step, lacked-telling}
use Rattle.mx_watch.proofs.ListTraces.{unless-wild, went-by-list, ended-by-list, spent-by-list, begun-by-list}
use Rattle.mx_watch.proofs.running.listen.Goals as goal

pub loop-made-init : goal.loop-made-init
loop-made-init g c = record {
  told = λ t. rest-begun-both c.args.n no_flags false (state_of c.args.machine.now, contents (g.H.Host.told c.args.host.now));
  made = λ t. none-made (state_of c.args.machine.now) (contents (g.H.Host.told c.args.host.now));
  so_far = λ t. begun-told (state_of c.args.machine.now) (contents (g.H.Host.told c.args.host.now)) _;
  heard = λ t. begun-heard c.args.n _ _ _;
  list_heard = λ t u. begun-by-list c.args.n _ _ _ _;
  same = c.requires;
  bound = begun-later (state_of c.args.machine.now);
  keeps = keeps_host-all (g.H.Host.told c.args.host.now) (g.H.Host.faults c.args.host.now);
}

pub tell_all-requires : goal.tell_all-requires
tell_all-requires g c = c.loop-made.invariant.same

pub loop-made-preserved : goal.loop-made-preserved
loop-made-preserved g c =
    let was = c.loop-made.invariant in
    let inside = c.loop-made-test.true in
    let e = c.next_trace.ensures in
    let went = e.went c.if-not-next_trace.false in
    record {
      told = λ t. went-rest _ _ tt _ _ _ _ _ inside e.has_window (goes-on _ _ _ _ _ (went (subst IsTrue (sym was.keeps.0) t))) (was.told t);
      made = λ t. went-made _ tt _ _ _ (goes-on _ _ _ _ _ (went (subst IsTrue (sym was.keeps.0) t))) (was.made t);
      so_far = λ t. went-told _ _ _ _ _ _ _ _ _ _ _ (went (subst IsTrue (sym was.keeps.0) t)) (was.made t) c.in-Ok.ensures.told (was.so_far t);
      heard = λ t. went-heard _ _ _ _ _ _ _ _ _ _ inside (went (subst IsTrue (sym was.keeps.0) t)) c.in-Ok.ensures.told (was.heard t);
      list_heard = λ t u. went-by-list _ _ _ _ _ _ _ _ _ _ _ inside e.has_window (went (subst IsTrue (sym was.keeps.0) t)) c.in-Ok.ensures.told (rest-listed _ _ no_flags false false _ _ _ _ (was.told t) u) (was.list_heard t u);
      same = c.in-Ok.ensures.same;
      bound = turned-later _ _ _ _ was.bound e.bound;
      keeps = keeps_host-then _ _ _ _ _ _ was.keeps (keeps_host-kept _ _ _ _ e.keeps);
    }

-- ---- where a watcher or a report lacks memory

pub returns-in-Err-clause-plan : goal.returns-in-Err-clause-plan
returns-in-Err-clause-plan g c = λ t.
    let was = c.loop-made.invariant in
    lacking-so _ _ _ _ (omega (arith, c.loop-made-test.true)) (went-made _ tt _ _ _ (goes-on _ _ _ _ _ (c.next_trace.ensures.went c.if-not-next_trace.false (subst IsTrue (sym was.keeps.0) t))) (was.made t))

pub returns-in-Err-clause-run : goal.returns-in-Err-clause-run
returns-in-Err-clause-run g c =
    let was = c.loop-made.invariant in
    accompanied-is _ _ _ _ _ _ _ _ (returns-in-Err-clause-plan g c) (λ t ne. absurd (ne refl)) (last-later _ _ _ _ _ c.loop-made-test.true was.bound c.next_trace.ensures.bound)
    (keeps_host-then _ _ _ _ _ _ was.keeps (keeps_host-kept _ _ _ _ c.next_trace.ensures.keeps))

pub returns-in-Err-clause-stops : goal.returns-in-Err-clause-stops
returns-in-Err-clause-stops g c = λ t o.
    let was = c.loop-made.invariant in
    lacked-telling _ _ _ _ c.in-Err.ensures.same _ _ _ _ _ _ _ _ _ _ _ c.loop-made-test.true (c.next_trace.ensures.went c.if-not-next_trace.false (subst IsTrue (sym was.keeps.0) t)) (was.made t) (was.so_far t) c.in-Err.ensures.lacks

pub returns-in-Err-clause-heard : goal.returns-in-Err-clause-heard
returns-in-Err-clause-heard g c = λ t ne. absurd (ne refl)

pub returns-in-Err-clause-list_heard : goal.returns-in-Err-clause-list_heard
returns-in-Err-clause-list_heard g c = λ t ne. absurd (ne refl)

-- ---- where the run ends

pub returns-then-not-next_trace-clause-plan : goal.returns-then-not-next_trace-clause-plan
returns-then-not-next_trace-clause-plan g c = λ t.
    let was = c.loop-made.invariant in
    let e = c.next_trace.ensures in
    let ended = e.ended c.if-not-next_trace.true in
    of-run _ _ _ _ (ended-so _ _ _ _ _ _ _ _ c.loop-made-test.true e.has_window (was.told t) (ended (subst IsTrue (sym was.keeps.0) t))).window

pub returns-then-not-next_trace-clause-run : goal.returns-then-not-next_trace-clause-run
returns-then-not-next_trace-clause-run g c =
    let was = c.loop-made.invariant in
    let e = c.next_trace.ensures in
    let ended = e.ended c.if-not-next_trace.true in
    run-is _ _ _ _ _ _ _ _ _ _ (λ t. ended-so _ _ _ _ _ _ _ _ c.loop-made-test.true e.has_window (was.told t) (ended (subst IsTrue (sym was.keeps.0) t)))
    (last-later _ _ _ _ _ c.loop-made-test.true was.bound e.bound) (keeps_host-then _ _ _ _ _ _ was.keeps (keeps_host-kept _ _ _ _ e.keeps))

pub returns-then-not-next_trace-clause-stops : goal.returns-then-not-next_trace-clause-stops
returns-then-not-next_trace-clause-stops g c = λ t o.
    let was = c.loop-made.invariant in
    lacked-step _ _ _ _ was.same _ _ _ _ _ _ _ _ _ _ c.loop-made-test.true (was.made t) (c.next_trace.ensures.ended c.if-not-next_trace.true (subst IsTrue (sym was.keeps.0) t)) (was.so_far t) o

pub returns-then-not-next_trace-clause-heard : goal.returns-then-not-next_trace-clause-heard
returns-then-not-next_trace-clause-heard g c = λ t ne.
    let was = c.loop-made.invariant in
    left-heard _ _ _ _ _ was.same (ended-heard _ _ _ _ _ _ _ _ _ c.loop-made-test.true ne (c.next_trace.ensures.ended c.if-not-next_trace.true (subst IsTrue (sym was.keeps.0) t)) (was.heard t))

pub returns-then-not-next_trace-clause-list_heard : goal.returns-then-not-next_trace-clause-list_heard
returns-then-not-next_trace-clause-list_heard g c = λ t ne u.
    let was = c.loop-made.invariant in
    unless-wild _ _ _ (left-heard _ _ _ _ _ was.same)
    (ended-by-list _ _ _ _ _ _ _ _ _ _ c.loop-made-test.true c.next_trace.ensures.has_window ne (c.next_trace.ensures.ended c.if-not-next_trace.true (subst IsTrue (sym was.keeps.0) t)) (rest-listed _ _ no_flags false false _ _ _ _ (was.told t) u) (was.list_heard t u))

-- ---- where all steps are made

pub returns-clause-plan : goal.returns-clause-plan
returns-clause-plan g c = λ t. of-run _ _ _ _ (spent-so _ _ _ _ c.loop-made-test.false (c.loop-made.invariant.told t)).window

pub returns-clause-run : goal.returns-clause-run
returns-clause-run g c =
    let was = c.loop-made.invariant in
    run-is _ _ _ _ _ _ _ _ _ _ (λ t. spent-so _ _ _ _ c.loop-made-test.false (was.told t)) (few-later _ _ _ _ (omega (arith, c.loop-made-test.false)) was.bound) was.keeps

pub returns-clause-stops : goal.returns-clause-stops
returns-clause-stops g c = λ t o. let wrong : Spent ≡ OutOfMemory = o in absurd (cc)

pub returns-clause-heard : goal.returns-clause-heard
returns-clause-heard g c = λ t ne. left-heard _ _ _ _ _ c.loop-made.invariant.same (spent-heard _ _ _ _ _ _ c.loop-made-test.false (c.loop-made.invariant.heard t))

pub returns-clause-list_heard : goal.returns-clause-list_heard
returns-clause-list_heard g c = λ t ne u.
    unless-wild _ _ _ (left-heard _ _ _ _ _ c.loop-made.invariant.same) (spent-by-list _ _ _ _ _ _ _ c.loop-made-test.false (c.loop-made.invariant.list_heard t u))
