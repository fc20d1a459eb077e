-- Turns by a schedule as a plan: where memory runs out, the turns that were completed stay.
use Rattle.std.specs.Prelude.{ℕ, zero, suc, ◌≡◌, false, Bool, List, Option, None, Some, Result, Ok, Err}
use Rattle.mx_plan.specs.Plan.{Plan, returns, bind, Acts}
use Rattle.mx_plan.specs.Plan as plan
use Rattle.mx_core.specs.State.{State}
use Rattle.mx_run.specs.RunPlans.{RunLacks}
use Rattle.mx_run.specs.RunPlans as run
use Rattle.mx_multi.specs.Joint.{has_halted, state_at, with_processor}
use Rattle.mx_multi.specs.JointTurns.{JointWorld, turn_of}
use Rattle.mx_multi.specs.Schedules.{next_in, next_turn, end_of_turn, end_at_last}
use Rattle.mx_multi.specs.declared.turn.Turn.{Turn}
use Rattle.mx_multi.specs.declared.end.MultiEnd.{MultiEnd}
use Rattle.mx_multi.specs.declared.end.MultiEnd.TheVariants.{AllHalted}

-- ---- the calls

-- the start by a schedule, a turn of a processor, or a look at which have halted
pub data MultiCall : Type 0 where
  starting : MultiCall
  turning : ℕ → MultiCall
  looking : MultiCall

abbrev pub MultiSays : MultiCall → Type 0
MultiSays starting = Unit {0}
MultiSays (turning who) = Turn
MultiSays looking = List Bool

abbrev pub multi_act : (o : MultiCall) → JointWorld → MultiSays o × JointWorld
multi_act starting w = (tt, w)
multi_act (turning who) w = turn_of who w
multi_act looking w = (w.0.halted, w)

-- A turn lacks memory where the step of its processor on the one memory does. That processor and the memory are then as the
-- step leaves them, and nothing else changed.
pub record TurnLacks (who : ℕ) (w v : JointWorld) : Type 0 where
  pub state : State
  pub runs : has_halted w.0.halted who ≡ false
  pub lacks : RunLacks run.turning (state_at w.0 who, w.1) (state, v.1)
  pub left : v.0 ≡ with_processor w.0 who state

-- The start may lack memory for the names of the schedule, and changes nothing. A look lacks none.
abbrev pub MultiLacks : MultiCall → JointWorld → JointWorld → Type 0
MultiLacks starting w v = v ≡ w
MultiLacks (turning who) w v = TurnLacks who w v
MultiLacks looking w v = ⊥

unfoldable pub multi : Acts MultiCall MultiSays JointWorld
multi = record { act = multi_act; Lacks = MultiLacks }

abbrev pub MultiPlan : Type 0 → Type 0
MultiPlan A = Plan MultiCall MultiSays A

unfoldable pub turn_plan : ℕ → MultiPlan Turn
turn_plan who = plan.calls (turning who) (λ answer. returns answer)

unfoldable pub look : MultiPlan (List Bool)
look = plan.calls looking (λ halted. returns halted)

-- ---- turns by a schedule

-- the next turn, and what is then left of the schedule; or the end
abbrev pub turn_if : Option (ℕ × List ℕ) → MultiPlan (Result (List ℕ) MultiEnd)
turn_if None = returns (Err AllHalted)
turn_if (Some (who, rest)) = bind (λ answer. returns (end_of_turn who rest answer)) (turn_plan who)

unfoldable pub step_plan : List ℕ → List ℕ → MultiPlan (Result (List ℕ) MultiEnd)
step_plan schedule rest = bind (λ halted. turn_if (next_turn halted schedule rest)) look

-- what follows a turn
abbrev pub turns_next : (List ℕ → MultiPlan MultiEnd) → Result (List ℕ) MultiEnd → MultiPlan MultiEnd
turns_next more (Ok rest) = more rest
turns_next more (Err end) = returns end

-- at most n steps
unfoldable pub steps_plan : List ℕ → ℕ → List ℕ → MultiPlan MultiEnd
steps_plan schedule zero rest = bind (λ halted. returns (end_at_last (next_in halted schedule))) look
steps_plan schedule (suc n) rest = bind (turns_next (steps_plan schedule n)) (step_plan schedule rest)

-- the start, and then at most n steps
unfoldable pub turns_plan : List ℕ → ℕ → List ℕ → MultiPlan MultiEnd
turns_plan schedule n rest = plan.calls starting (λ _. steps_plan schedule n rest)
