-- Where no call that is made fails, turns of several processors come to the same whatever the count of calls, and whatever the
-- list of those that fail.
use Rattle.std.proofs.Common.{ℕ, ◌&&◌, not, List, Bool, true, false, cond}
use Rattle.mx_host.specs.HostModel.{HostModel}
use Rattle.mx_host.proofs.Still.{still}
use Rattle.mx_plan.specs.Wild.{Course, ends, meets_wild, course}
use Rattle.mx_plan.proofs.Spared.{Spares, uncalled, after}
use Rattle.mx_plan.proofs.WildLaws.{SparedCourse, course_spared}
use Rattle.mx_run.specs.Turns.{went_on, halts, stops, turn_answer, turn}
use Rattle.mx_run.specs.Turns as run
use Rattle.mx_run.specs.WildRuns.{MachineKind, ends_wild, host_after}
use Rattle.mx_run.proofs.SteadyRuns.{turn_still, turn-steady}
use Rattle.mx_multi.specs.Joint.{Joint, has_halted, state_at}
use Rattle.mx_multi.specs.JointTurns.{JointWorld, joined, turn_of}
use Rattle.mx_multi.specs.MultiPlans.{MultiCall, starting, turning, looking, multi, turns_plan}
use Rattle.mx_multi.specs.Turns.{multi_goes}
use Rattle.mx_multi.specs.declared.turn.Turn.{Turn}
use Rattle.mx_multi.specs.declared.turn.Turn.TheVariants.{Idle}

-- one turn
abbrev pub joint_still : Turn × JointWorld → Turn × JointWorld
joint_still t = (t.0, (t.1.0, still t.1.1))

abbrev pub SparedJoints : HostModel → Turn × JointWorld → Turn × JointWorld → Type 0
SparedJoints m t u = Spares m t.1.1 (joint_still t) u

joined-case : (j : Joint) (who : ℕ) (t : run.Turn) → SparedJoints (host_after t) (joined j who (turn_answer t)) (joined j who (turn_answer (turn_still t)))
joined-case j who (went_on s m trace) = uncalled
joined-case j who (halts status s m) = uncalled
joined-case j who (stops reason s m) = uncalled

one-turn : {m : HostModel} (b : Bool) (x y v w : Turn × JointWorld) → SparedJoints m x v → SparedJoints m y w → SparedJoints m (cond b x y) (cond b v w)
one-turn true x y v w h k = h
one-turn false x y v w h k = k

turn_of-steady : (who : ℕ) (j : Joint) (m : HostModel) → SparedJoints m (turn_of who (j, m)) (turn_of who (j, still m))
unfolding turn_of
turn_of-steady who j m =
    one-turn (has_halted j.halted who) (Idle, (j, m)) (joined j who (turn_answer (turn (state_at j who) m))) (Idle, (j, still m)) (joined j who (turn_answer (turn (state_at j who) (still m))))
    uncalled (after (λ t. joined j who (turn_answer t)) (turn-steady (state_at j who) m) (joined-case j who (turn (state_at j who) m)))

-- ---- turns by a schedule

abbrev pub still_joint : JointWorld → JointWorld
still_joint w = (w.0, still w.1)

abbrev pub joint_host : JointWorld → HostModel
joint_host w = w.1

abbrev made : Turn × JointWorld → Course Turn JointWorld
made t = ends t.0 t.1

call-steady : (kind : MachineKind) (o : MultiCall) (w : JointWorld) → SparedCourse joint_host still_joint w (multi_goes kind o w) (multi_goes kind o (still_joint w))
unfolding multi
call-steady kind starting w = uncalled
call-steady kind (turning who) w = by (not (has_halted w.0.halted who) && ends_wild kind (state_at w.0 who))
  where
    by : (b : Bool) → SparedCourse joint_host still_joint w (cond b (meets_wild w) (made (turn_of who w))) (cond b (meets_wild (still_joint w)) (made (turn_of who (still_joint w))))
    by true = uncalled
    by false = after made (turn_of-steady who w.0 w.1) uncalled
call-steady kind looking w = uncalled

pub turns-spared : (kind : MachineKind) (schedule : List ℕ) (n : ℕ) (rest : List ℕ) (w : JointWorld) →
    SparedCourse joint_host still_joint w (course (multi_goes kind) (turns_plan schedule n rest) w) (course (multi_goes kind) (turns_plan schedule n rest) (still_joint w))
turns-spared kind schedule n rest w = course_spared joint_host still_joint (multi_goes kind) (call-steady kind) (turns_plan schedule n rest) w
