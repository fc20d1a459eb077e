use Rattle.std.proofs.Common.{ap, subst, sym, ◌∙◌, ◌+◌}
use Rattle.mx_core.specs.Kept.{state_of}
use Rattle.mx_replay.specs.Programs.{GoesOn, step_of}
use Rattle.mx_record.specs.Recording.{IsAt, IsRecordOf, Recorded}
use Rattle.mx_record.proofs.Recording.{goes-ahead, holds-step, leads-next, reached-next, ready-of}
use Rattle.mx_record.proofs.recorder.Recorder.next.Goals as goal

pub turn_changes-requires-clause-turn : goal.turn_changes-requires-clause-turn
turn_changes-requires-clause-turn c =
    let ready = subst (λ (v : Recorded). IsAt v v.before.program v.before.at) (sym c.self.view_is) c.requires.ready in
    let on = subst (λ (v : Recorded). GoesOn v.before.program v.before.at) (sym c.self.view_is) c.requires.on in
    (goes-ahead _ c.step.new.self (state_of c.machine.result.now) (state_of c.machine-2.result.now) c.in_ok-trace.trace ready on c.in_ok-trace.ensures.program c.in_ok-trace.ensures.reached c.machine.ensures c.machine-2.ensures c.in_ok-trace.ensures.trace).turn

pub returns-clause-ready : goal.returns-clause-ready
returns-clause-ready c =
    let ready = subst (λ (v : Recorded). IsAt v v.before.program v.before.at) (sym c.self.view_is) c.requires.ready in
    let on = subst (λ (v : Recorded). GoesOn v.before.program v.before.at) (sym c.self.view_is) c.requires.on in
    let ahead = goes-ahead _ c.step.new.self (state_of c.machine.result.now) (state_of c.machine-2.result.now) c.in_ok-trace.trace ready on c.in_ok-trace.ensures.program c.in_ok-trace.ensures.reached c.machine.ensures c.machine-2.ensures c.in_ok-trace.ensures.trace in
    let at = reached-next c.self.inside.before.program c.self.inside.before.at c.step-2.new.self.at on c.in_ok-step.ensures.reached in
    ready-of (record { before = c.step-2.new.self; after = c.step.new.self; stacked = c.turn_changes.new.stacked }) c.self.inside.before.program (c.self.inside.before.at + 1) (record {
      program = c.in_ok-step.ensures.program;
      step = at;
      together = ahead.at ∙ sym at;
      same = λ j. ahead.same j ∙ sym (ap (λ x. step_of x j) c.in_ok-step.ensures.program);
      stacked = holds-step c.turn_changes.new.stacked c.self.inside.before.program (c.self.inside.before.at + 1) (state_of c.machine-2.result.now) ahead.state c.in_ok-record.ensures.stack;
    })

pub returns-clause-program : goal.returns-clause-program
returns-clause-program c = c.in_ok-step.ensures.program ∙ ap (λ (v : Recorded). v.before.program) c.self.view_is

pub returns-clause-step : goal.returns-clause-step
returns-clause-step c =
    let on = subst (λ (v : Recorded). GoesOn v.before.program v.before.at) (sym c.self.view_is) c.requires.on in
    reached-next c.self.inside.before.program c.self.inside.before.at c.step-2.new.self.at on c.in_ok-step.ensures.reached ∙ ap (λ (v : Recorded). v.before.at + 1) c.self.view_is

pub returns-clause-record : goal.returns-clause-record
returns-clause-record c =
    let ready = subst (λ (v : Recorded). IsAt v v.before.program v.before.at) (sym c.self.view_is) c.requires.ready in
    let on = subst (λ (v : Recorded). GoesOn v.before.program v.before.at) (sym c.self.view_is) c.requires.on in
    let ahead = goes-ahead _ c.step.new.self (state_of c.machine.result.now) (state_of c.machine-2.result.now) c.in_ok-trace.trace ready on c.in_ok-trace.ensures.program c.in_ok-trace.ensures.reached c.machine.ensures c.machine-2.ensures c.in_ok-trace.ensures.trace in
    subst (λ (v : Recorded). IsRecordOf v.before.program v.before.at (c.in_ok-record.record, c.in_ok-trace.trace)) c.self.view_is (record {
      leads = leads-next c.self.inside.before.program c.self.inside.before.at (state_of c.machine.result.now) (state_of c.machine-2.result.now) c.in_ok-record.record c.machine.ensures ahead.state c.in_ok-record.ensures.record;
      traced = ahead.traced;
    })
