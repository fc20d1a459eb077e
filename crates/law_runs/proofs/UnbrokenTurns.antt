-- Turns of several processors do not lack memory by their definition.
use Rattle.std.proofs.Common.{◌≡◌, ◌≢◌, ℕ, zero, suc, ◌&&◌, not, List, Bool, true, false, cond, Option, None, Some, refl}
use Rattle.mx_host.specs.HostModel.{HostModel}
use Rattle.mx_plan.specs.Plan.{bind}
use Rattle.mx_plan.specs.Wild.{Course, ends, meets_wild}
use Rattle.mx_plan.proofs.Giving.{Gives}
use Rattle.mx_plan.proofs.WildLaws.{Answers, course_gives}
use Rattle.mx_run.specs.Turns.{went_on, halts, stops, turn_answer, turn}
use Rattle.mx_run.specs.Turns as run
use Rattle.mx_run.specs.WildRuns.{MachineKind, ends_wild}
use Rattle.mx_multi.specs.Joint.{Joint, has_halted, state_at}
use Rattle.mx_multi.specs.JointTurns.{JointWorld, joined, turn_of}
use Rattle.mx_multi.specs.MultiPlans.{MultiCall, starting, turning, looking, MultiSays, MultiPlan, multi, turn_plan, look, turn_if, step_plan, steps_plan, turns_next, turns_plan}
use Rattle.mx_multi.specs.Schedules.{next_in, next_turn, end_of_turn, end_at_last}
use Rattle.mx_multi.specs.Turns.{multi_goes, turns}
use Rattle.mx_multi.specs.declared.turn.Turn.{Turn}
use Rattle.mx_multi.specs.declared.turn.Turn.TheVariants as turned
use Rattle.mx_multi.specs.declared.end.MultiEnd.{MultiEnd}
use Rattle.mx_top.specs.Processors.{multi_outcome}
use Rattle.law_runs.specs.Unbroken.{is_outcome_told}

abbrev pub Told : Course MultiEnd JointWorld → Type 0
Told (ends end w) = (steps : ℕ) → is_outcome_told (multi_outcome steps end) ≡ true
Told (meets_wild w) = Unit {0}

-- ---- a turn

abbrev HasMemory : (o : MultiCall) → MultiSays o → Type 0
HasMemory starting r = Unit {0}
HasMemory (turning who) r = r ≢ turned.OutOfMemory
HasMemory looking r = Unit {0}

joined-told : (who : ℕ) (j : Joint) (t : run.Turn) → (joined j who (turn_answer t)).0 ≢ turned.OutOfMemory
joined-told who j (went_on s m trace) = λ e. absurd (cc)
joined-told who j (halts status s m) = λ e. absurd (cc)
joined-told who j (stops reason s m) = λ e. absurd (cc)

either-turn : (w : JointWorld) (t : Turn × JointWorld) (b : Bool) → t.0 ≢ turned.OutOfMemory → (cond b (turned.Idle, w) t).0 ≢ turned.OutOfMemory
either-turn w t true g = λ e. absurd (cc)
either-turn w t false g = g

turned-told : (who : ℕ) (w : JointWorld) → (turn_of who w).0 ≢ turned.OutOfMemory
unfolding turn_of
turned-told who w = either-turn w (joined w.0 who (turn_answer (turn (state_at w.0 who) w.1))) (has_halted w.0.halted who) (joined-told who w.0 (turn (state_at w.0 who) w.1))

calls-told : (kind : MachineKind) (o : MultiCall) (w : JointWorld) → Answers (HasMemory o) (multi_goes kind o w)
unfolding multi
calls-told kind starting w = tt
calls-told kind (turning who) w = by (not (has_halted w.0.halted who) && ends_wild kind (state_at w.0 who))
  where
    by : (b : Bool) → Answers (HasMemory (turning who)) (cond b (meets_wild w) (ends (turn_of who w).0 (turn_of who w).1))
    by true = tt
    by false = turned-told who w
calls-told kind looking w = tt

-- ---- their plan

abbrev EndTold : MultiEnd → Type 0
EndTold end = (steps : ℕ) → is_outcome_told (multi_outcome steps end) ≡ true

last-told : (next : Option (ℕ × List ℕ)) → EndTold (end_at_last next)
last-told None = λ steps. refl
last-told (Some next) = λ steps. refl

after-told : (more : List ℕ → MultiPlan MultiEnd) (who : ℕ) (rest : List ℕ) (r : Turn) → ((l : List ℕ) → Gives HasMemory EndTold (more l)) → r ≢ turned.OutOfMemory → Gives HasMemory EndTold (turns_next more (end_of_turn who rest r))
unfolding Gives
after-told more who rest turned.Went h ne = h rest
after-told more who rest (turned.Halted status) h ne = h rest
after-told more who rest turned.Idle h ne = h rest
after-told more who rest (turned.Stopped pc reason) h ne = λ steps. refl
after-told more who rest turned.OutOfMemory h ne = absurd (ne refl)

next-told : (more : List ℕ → MultiPlan MultiEnd) (next : Option (ℕ × List ℕ)) → ((l : List ℕ) → Gives HasMemory EndTold (more l)) → Gives HasMemory EndTold (bind (turns_next more) (turn_if next))
unfolding Gives bind turn_plan
next-told more None h = λ steps. refl
next-told more (Some (who, rest)) h = λ r ne. after-told more who rest r h ne

steps-told : (schedule : List ℕ) (n : ℕ) (rest : List ℕ) → Gives HasMemory EndTold (steps_plan schedule n rest)
unfolding Gives steps_plan step_plan bind look
steps-told schedule zero rest = λ halted u. last-told (next_in halted schedule)
steps-told schedule (suc n) rest = λ halted u. next-told (steps_plan schedule n) (next_turn halted schedule rest) (λ l. steps-told schedule n l)

plan-told : (schedule : List ℕ) (n : ℕ) (rest : List ℕ) → Gives HasMemory EndTold (turns_plan schedule n rest)
unfolding Gives turns_plan
plan-told schedule n rest = λ r u. steps-told schedule n rest

end-told : (c : Course MultiEnd JointWorld) → Answers EndTold c → Told c
end-told (ends end w) h = h
end-told (meets_wild w) h = tt

pub turns-told : (kind : MachineKind) (schedule : List ℕ) (n : ℕ) (rest : List ℕ) (j : Joint) (m : HostModel) → Told (turns kind schedule n rest j m)
unfolding turns
turns-told kind schedule n rest j m = end-told _ (course_gives (multi_goes kind) HasMemory EndTold (calls-told kind) (turns_plan schedule n rest) (j, m) (plan-told schedule n rest))
