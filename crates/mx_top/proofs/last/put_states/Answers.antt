use Rattle.std.proofs.Common.{refl}
use Rattle.mx_core.specs.Kept.{state_of}
use Rattle.mx_back.specs.History.{states_before}
use Rattle.mx_files.proofs.WrittenLines.{writes-none}
use Rattle.mx_top.specs.Runs.{state_lines, reached}
use Rattle.mx_top.proofs.LastStates.{states-next, reached-next, writes-next, writes-broken, some-left, all-taken, all-reached}
use Rattle.mx_top.proofs.last.put_states.Goals as goal

pub loop-taken-init : goal.loop-taken-init
unfolding state_lines reached
loop-taken-init g c = record { written = writes-none _ _; left = refl; reached = refl; fits = c.requires.noted }

pub step_back-requires : goal.step_back-requires
step_back-requires g c = record {
  not_empty =
      some-left c.args.back.now c.loop-taken.back (state_of c.args.machine.now) (state_of c.loop-taken.machine) c.loop-taken._taken c.args.count c.requires.few c.loop-taken-test.true
      c.loop-taken.invariant.left;
  noted = c.loop-taken.invariant.fits;
}

pub loop-taken-preserved : goal.loop-taken-preserved
loop-taken-preserved g c =
    let was = c.loop-taken.invariant in
    let states = states_before c.args.back.now (state_of c.args.machine.now) in
    record {
      written = writes-next _ _ _ _ _ _ states _ c.loop-taken._taken _ _ was.left c.step_back.ensures.first was.written c.in-Ok.ensures;
      left = states-next states _ c.loop-taken._taken _ _ was.left c.step_back.ensures.first;
      reached = reached-next (state_of c.args.machine.now) states _ c.loop-taken._taken _ _ was.left c.step_back.ensures.first;
      fits = c.step_back.ensures.fits;
    }

pub returns-in-Err-clause-written : goal.returns-in-Err-clause-written
returns-in-Err-clause-written g c =
    let was = c.loop-taken.invariant in
    writes-broken _ _ _ _ _ _ _ (states_before c.args.back.now (state_of c.args.machine.now)) _ c.loop-taken._taken c.args.count _ _ c.loop-taken-test.true was.left c.step_back.ensures.first was.written
    c.in-Err.ensures

pub returns-clause-written : goal.returns-clause-written
returns-clause-written g c =
    all-taken _ _ _ _ (states_before c.args.back.now (state_of c.args.machine.now)) c.loop-taken._taken c.args.count c.loop-taken-test.false c.loop-taken.auto._taken-end c.loop-taken.invariant.written

pub returns-clause-reached : goal.returns-clause-reached
returns-clause-reached g c =
    all-reached (state_of c.args.machine.now) (states_before c.args.back.now (state_of c.args.machine.now)) c.loop-taken._taken c.args.count c.loop-taken-test.false c.loop-taken.auto._taken-end
    c.loop-taken.invariant.reached
