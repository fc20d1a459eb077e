-- What every call of a host keeps, every run over it keeps.
use Rattle.std.proofs.Common.{◌≡◌, ℕ, Bool, inl, inr, refl, sym, subst}
use Rattle.mx_host.specs.HostModel.{HostModel}
use Rattle.mx_plan.specs.Plan.{Stops, end_of}
use Rattle.mx_plan.specs.Calls.{host, both, Both}
use Rattle.mx_plan.specs.Held.{Held, KeepsStreams, OnlyAdds}
use Rattle.mx_plan.proofs.HeldLaws.{held-end, held-stop, held-on}
use Rattle.mx_plan.proofs.Streams.{beside-held, streams-held}
use Rattle.mx_plan.proofs.WildLaws.{wild_held}
use Rattle.mx_alu.specs.declared.call.TrapCall.{TrapCall}
use Rattle.mx_trap.specs.FileTraps.{trap_plan, trap_answer}
use Rattle.mx_trap.specs.Moves.{Leaves}
use Rattle.mx_trap.specs.Touches.{touches}
use Rattle.mx_trap.specs.declared.answer.TrapAnswer.{TrapAnswer}
use Rattle.mx_trap.specs.declared.answer.TrapAnswer.TheVariants as trap
use Rattle.mx_core.specs.MachineSpace.{machine_contents}
use Rattle.mx_core.specs.State.{State}
use Rattle.mx_core.specs.Step.{Stepped, went, calls, stopped, step}
use Rattle.mx_run.specs.Counts.{end_host}
use Rattle.mx_run.specs.RunPlans.{RunCall, turning, looking, RunWorld, RunPlan, running, run_plan, CallLacks}
use Rattle.mx_run.specs.Runs.{FlagsOf}
use Rattle.mx_run.specs.Turns.{turn_answer, trap_turn, turn_of, turn}
use Rattle.mx_run.specs.WildRuns.{MachineKind, call_is_wild, run_by}
use Rattle.mx_run.specs.declared.end.End.{End}

-- the host after a turn
turn-host : (touching : Bool) (call : TrapCall) (t : Leaves TrapAnswer State) → (turn_answer (trap_turn touching call t)).2 ≡ t.2
turn-host touching call (trap.Value value, c, m) = refl
turn-host touching call (trap.Halt, c, m) = refl
turn-host touching call (trap.Stopped why, c, m) = refl
turn-host touching call (trap.OutOfMemory, c, m) = refl

called-host : (s : State) (m : HostModel) (call : TrapCall) → (end_of both (trap_plan call) (machine_contents s, m)).1.1 ≡ (turn_answer (turn_of s m (calls call))).2
unfolding trap_answer
called-host s m call = sym (turn-host (touches (machine_contents s).bytes call) call (trap_answer (machine_contents s) m call))

abbrev Beside : (HostModel → HostModel → Type 0) → Both State → Both State → Type 0
Beside Rel v w = Rel v.1 w.1

turned : (Rel : HostModel → HostModel → Type 0) → Held host Rel → (s : State) (m : HostModel) (x : Stepped) → Rel m (turn_answer (turn_of s m x)).2
turned Rel h s m (went t trace) = h.self m
turned Rel h s m (stopped reason) = h.self m
turned Rel h s m (calls call) = subst (Rel m) (called-host s m call) (held-end both (Beside Rel) (beside-held Rel h) (trap_plan call) (machine_contents s, m))

lacked : (Rel : HostModel → HostModel → Type 0) → Held host Rel → (w v : RunWorld) (x : Stepped) → CallLacks x w v → Rel w.1 v.1
lacked Rel h w v (went t trace) l = absurd l
lacked Rel h w v (stopped reason) l = absurd l
lacked Rel h w v (calls call) l = held-stop both (Beside Rel) (beside-held Rel h) (trap_plan call) (l.moved, v.1) (machine_contents w.0, w.1) l.stops

lies : (Rel : HostModel → HostModel → Type 0) → Held host Rel → (w v : RunWorld) (x : Stepped) → CallLacks x w v → Rel v.1 (turn_answer (turn_of w.0 w.1 x)).2
lies Rel h w v (went t trace) l = absurd l
lies Rel h w v (stopped reason) l = absurd l
lies Rel h w v (calls call) l = subst (Rel v.1) (called-host w.0 w.1 call) (held-on both (Beside Rel) (beside-held Rel h) (trap_plan call) (l.moved, v.1) (machine_contents w.0, w.1) l.stops)

pub run-held : (Rel : HostModel → HostModel → Type 0) → Held host Rel → Held running (λ (v w : RunWorld). Rel v.1 w.1)
unfolding running turn
run-held Rel h = record {
  self = λ w. h.self w.1;
  through = λ u v w a b. h.through u.1 v.1 w.1 a b;
  acting = acts;
  lacking = lacks;
  between = between;
}
  where
    acts : (o : RunCall) (w : RunWorld) → Rel w.1 (running.act o w).1.1
    acts turning w = turned Rel h w.0 w.1 (step w.0)
    acts looking w = h.self w.1

    lacks : (o : RunCall) (w v : RunWorld) → running.Lacks o w v → Rel w.1 v.1
    lacks turning w v (inl l) = rw (l.1) (h.self w.1)
    lacks turning w v (inr l) = lacked Rel h w v (step w.0) l
    lacks looking w v l = absurd l

    between : (o : RunCall) (w v : RunWorld) → running.Lacks o w v → Rel v.1 (running.act o w).1.1
    between turning w v (inl l) = rw (l.1) (turned Rel h w.0 w.1 (step w.0))
    between turning w v (inr l) = lies Rel h w v (step w.0) l
    between looking w v l = absurd l

-- ---- plans

pub streams-end : {A : Type 0} (p : RunPlan A) (w : RunWorld) → KeepsStreams w.1 (end_of running p w).1.1
streams-end p w = held-end running (λ (u v : RunWorld). KeepsStreams u.1 v.1) (run-held KeepsStreams streams-held) p w

pub streams-stop : {A : Type 0} (p : RunPlan A) (v w : RunWorld) → Stops running v p w → KeepsStreams w.1 v.1
streams-stop p v w s = held-stop running (λ (u x : RunWorld). KeepsStreams u.1 x.1) (run-held KeepsStreams streams-held) p v w s

pub output-front : {A : Type 0} (p : RunPlan A) (v w : RunWorld) → Stops running v p w → OnlyAdds v.1 (end_of running p w).1.1
output-front p v w s = (held-on running (λ (u x : RunWorld). KeepsStreams u.1 x.1) (run-held KeepsStreams streams-held) p v w s).growing

pub ruleset laws = (streams-stop, output-front)

pub turn-streams : (s : State) (m : HostModel) → KeepsStreams m (turn_answer (turn s m)).2
unfolding running
turn-streams s m = (run-held KeepsStreams streams-held).acting turning (s, m)

-- ---- runs of either machine

pub streams-left : (kind : MachineKind) (n : ℕ) (f : FlagsOf) (pass : Bool) (s : State) (m : HostModel) → KeepsStreams m (end_host (run_by kind n f pass s m))
unfolding run_by
streams-left kind n f pass s m = wild_held running (call_is_wild kind) (λ (v w : RunWorld). KeepsStreams v.1 w.1) (run-held KeepsStreams streams-held) (run_plan n f pass) (s, m)
