use Rattle.std.proofs.Common.{◌≡◌, ℕ, ◌+◌, ◌-◌, ◌<◌, false, true, List, arith, drop, length, ◌∙◌, ap, refl, subst, sym}
use Rattle.mx_multi.specs.Schedules.{AllHaveHalted}
use Rattle.mx_multi.specs.Seats.{seated}
use Rattle.mx_multi.specs.Stretches.{running}
use Rattle.mx_multi.proofs.Names.{name-runs, names-of}
use Rattle.mx_multi.proofs.Schedules.{name-below}
use Rattle.mx_multi.proofs.RowTurns.{Over}
use Rattle.mx_multi.proofs.Underway.{Queued, all-spent, begins, ended-named, halted-named, none-named, none-spent, one-named, placed, start-lacks, walked-named}
use Rattle.mx_multi.proofs.runs.run_seats.Goals as goal

-- ---- the start

pub returns-in-Err-clause-turns : goal.returns-in-Err-clause-turns
returns-in-Err-clause-turns g c =
    let start : Over = (g.H.Host.told c.args.host.now, g.H.Host.faults c.args.host.now, seated c.args.seats.now) in
    start-lacks c.args.schedule.now c.args.n start (λ all. c.in-Err.ensures.none (subst (λ hs. AllHaveHalted hs c.args.schedule.now) (sym c.halted.ensures.flags) all))

pub queue_of-requires : goal.queue_of-requires
queue_of-requires g c = rw c.halted.ensures.count c.requires

pub loop-left-init : goal.loop-left-init
loop-left-init g c =
    let same = ap (λ hs. running hs c.args.schedule.now) c.halted.ensures.flags in
    record {
      queue = record { rest = c.args.schedule.now; under = begins _ _ _; named = c.in-Ok.ensures.names ∙ same; place = c.in-Ok.ensures.place ∙ same };
      count = refl;
    }

-- ---- turns by names, each of which goes on

pub walk_rows-walked-requires-clause-names : goal.walk_rows-walked-requires-clause-names
walk_rows-walked-requires-clause-names g c =
    rw c.loop-left.invariant.count (names-of _ _ _ _ (c.as_slice-names.ensures.value ∙ c.loop-left.invariant.queue.named) c.requires)

pub walk_rows-walked-requires-clause-run : goal.walk_rows-walked-requires-clause-run
walk_rows-walked-requires-clause-run g c =
    record { runs = λ i l. name-runs _ _ _ i (c.as_slice-names.ensures.value ∙ c.loop-left.invariant.queue.named) l }

pub returns-then-left-eq0-clause-turns : goal.returns-then-left-eq0-clause-turns
returns-then-left-eq0-clause-turns g c =
    let e = c.walk_rows-walked.ensures in
    let queue = placed _ _ _ _ _ _ _ _ _ c.as_slice-names.ensures.value c.loop-left.invariant.queue c.in-Some.ensures.some in
    let walked = walked-named _ _ _ _ _ _ _ _ _ _ _ _ e.few c.in-Some.ensures.some.inside e.turns queue in
    let none = c.if-left-eq0.true in
    all-spent _ _ _ _ _ _ _ _ (omega (arith, none)) e.inside walked

-- ---- the turn after them

pub turn-requires-clause-inside : goal.turn-requires-clause-inside
turn-requires-clause-inside g c =
    rw (c.walk_rows-walked.ensures.count, c.loop-left.invariant.count)
    (name-below _ _ _ _ c.walk_rows-walked.ensures.inside (names-of _ _ _ _ (c.as_slice-names.ensures.value ∙ c.loop-left.invariant.queue.named) c.requires))

pub turn-requires-clause-runs : goal.turn-requires-clause-runs
turn-requires-clause-runs g c =
    let e = c.walk_rows-walked.ensures in
    let queue = placed _ _ _ _ _ _ _ _ _ c.as_slice-names.ensures.value c.loop-left.invariant.queue c.in-Some.ensures.some in
    let walked = walked-named _ _ _ _ _ _ _ _ _ _ _ _ e.few c.in-Some.ensures.some.inside e.turns queue in
    name-runs _ _ _ _ walked.named e.inside

pub loop-left-preserved-in-Went : goal.loop-left-preserved-in-Went
loop-left-preserved-in-Went g c =
    let was = c.loop-left.invariant in
    let e = c.walk_rows-walked.ensures in
    let queue = placed _ _ _ _ _ _ _ _ _ c.as_slice-names.ensures.value was.queue c.in-Some.ensures.some in
    let walked = walked-named _ _ _ _ _ _ _ _ _ _ _ _ e.few c.in-Some.ensures.some.inside e.turns queue in
    let some = c.if-left-eq0.false in
    let start : Over = (g.H.Host.told c.args.host.now, g.H.Host.faults c.args.host.now, seated c.args.seats.now) in
    let after : Over = (g.H.Host.told c.turn.new.host, g.H.Host.faults c.turn.new.host, seated c.turn.new.self) in
    let left = c.walk_rows-walked.result.left in
    let at = c.walk_rows-walked.result.at in
    record {
      queue = subst (λ (ns : List ℕ). Queued c.args.schedule.now c.args.n start (left - 1) ns (at + 1) after) c.as_slice-names.ensures.value
          (one-named _ _ _ _ _ _ _ _ (omega (arith, some)) e.inside walked c.in-Went.ensures.turn);
      count = c.turn.ensures.count ∙ e.count ∙ was.count;
    }

-- a processor that has not halted is not idle
pub loop-left-preserved-in-Idle : goal.loop-left-preserved-in-Idle
loop-left-preserved-in-Idle g c =
    let e = c.walk_rows-walked.ensures in
    let queue = placed _ _ _ _ _ _ _ _ _ c.as_slice-names.ensures.value c.loop-left.invariant.queue c.in-Some.ensures.some in
    let walked = walked-named _ _ _ _ _ _ _ _ _ _ _ _ e.few c.in-Some.ensures.some.inside e.turns queue in
    let no : false ≡ true = sym (name-runs _ _ _ _ walked.named e.inside) ∙ c.in-Idle.ensures.turn.idle.0 refl in
    absurd (cc)

-- ---- a halt

pub leave_out-requires-clause-names : goal.leave_out-requires-clause-names
leave_out-requires-clause-names g c =
    rw (c.turn.ensures.count, c.walk_rows-walked.ensures.count, c.loop-left.invariant.count) (names-of _ _ _ _ c.loop-left.invariant.queue.named c.requires)

pub loop-left-preserved : goal.loop-left-preserved
loop-left-preserved g c =
    let was = c.loop-left.invariant in
    let e = c.walk_rows-walked.ensures in
    let same = c.as_slice-names.ensures.value in
    let halted = c.turn.new.self.halted in
    let queue = placed _ _ _ _ _ _ _ _ _ same was.queue c.in-Some.ensures.some in
    let walked = walked-named _ _ _ _ _ _ _ _ _ _ _ _ e.few c.in-Some.ensures.some.inside e.turns queue in
    let some = c.if-left-eq0.false in
    record {
      queue = halted-named _ _ _ _ _ _ _ _ (omega (arith, some)) e.inside walked _ _ _ c.in-Halted.ensures.turn
          (c.leave_out.ensures.names ∙ ap (running halted) (sym same))
          (c.leave_out.ensures.place ∙ ap (λ (ns : List ℕ). running halted (drop (c.walk_rows-walked.result.at + 1) ns)) (sym same));
      count = c.turn.ensures.count ∙ e.count ∙ was.count;
    }

-- ---- the end

pub returns-in-None-clause-turns : goal.returns-in-None-clause-turns
returns-in-None-clause-turns g c =
    none-named _ _ _ _ _ _ _ c.loop-left-test.true (sym c.as_slice-names.ensures.value ∙ c.in-None.ensures.none refl) c.loop-left.invariant.queue

pub returns-in-Stopped-clause-turns : goal.returns-in-Stopped-clause-turns
returns-in-Stopped-clause-turns g c =
    let e = c.walk_rows-walked.ensures in
    let queue = placed _ _ _ _ _ _ _ _ _ c.as_slice-names.ensures.value c.loop-left.invariant.queue c.in-Some.ensures.some in
    let walked = walked-named _ _ _ _ _ _ _ _ _ _ _ _ e.few c.in-Some.ensures.some.inside e.turns queue in
    let some = c.if-left-eq0.false in
    ended-named _ _ _ _ _ _ _ _ (omega (arith, some)) e.inside walked _ _ c.in-Stopped.ensures.turn refl

pub returns-in-OutOfMemory-clause-turns : goal.returns-in-OutOfMemory-clause-turns
returns-in-OutOfMemory-clause-turns g c =
    let e = c.walk_rows-walked.ensures in
    let queue = placed _ _ _ _ _ _ _ _ _ c.as_slice-names.ensures.value c.loop-left.invariant.queue c.in-Some.ensures.some in
    let walked = walked-named _ _ _ _ _ _ _ _ _ _ _ _ e.few c.in-Some.ensures.some.inside e.turns queue in
    let some = c.if-left-eq0.false in
    ended-named _ _ _ _ _ _ _ _ (omega (arith, some)) e.inside walked _ _ c.in-OutOfMemory.ensures.turn refl

-- ---- the end where no step is left

pub returns-in-Some-next_place-clause-turns : goal.returns-in-Some-next_place-clause-turns
returns-in-Some-next_place-clause-turns g c =
    let next = c.in-Some-next_place in
    all-spent _ _ _ _ _ _ next.field-0 _ c.loop-left-test.false (subst (λ (ns : List ℕ). next.field-0 < length ns) c.as_slice.ensures.value next.ensures.some.inside) c.loop-left.invariant.queue

pub returns-clause-turns : goal.returns-clause-turns
returns-clause-turns g c =
    none-spent _ _ _ _ _ _ _ c.loop-left-test.false (sym c.as_slice.ensures.value ∙ c.in-None-next_place.ensures.none refl) c.loop-left.invariant.queue
