-- Several processors take turns by a schedule: what these come to, by the kind of the machines.
use Rattle.std.specs.Prelude.{ℕ, ◌&&◌, not, Bool, false, List}
use Rattle.mx_host.specs.HostModel.{HostModel}
use Rattle.mx_plan.specs.Wild.{Course, course, unless_wild}
use Rattle.mx_run.specs.WildRuns.{MachineKind, ends_wild}
use Rattle.mx_multi.specs.Joint.{Joint, has_halted, state_at}
use Rattle.mx_multi.specs.JointTurns.{JointWorld}
use Rattle.mx_multi.specs.MultiPlans.{MultiCall, starting, turning, looking, MultiSays, multi, turns_plan}
use Rattle.mx_multi.specs.declared.end.MultiEnd.{MultiEnd}

-- whether a call would be wild: the turn of a processor may be that has not halted
abbrev pub call_is_wild : MachineKind → MultiCall → JointWorld → Bool
call_is_wild kind starting w = false
call_is_wild kind (turning who) w = not (has_halted w.0.halted who) && ends_wild kind (state_at w.0 who)
call_is_wild kind looking w = false

abbrev pub multi_goes : MachineKind → (o : MultiCall) → JointWorld → Course (MultiSays o) JointWorld
multi_goes kind o w = unless_wild (call_is_wild kind) multi o w

-- At most n steps, in the order of the schedule and from what is left of it. A turn of a processor that has halted does
-- nothing and is no step. They end where each processor that the schedule names has halted, or one stops; or the list machine of
-- a processor meets a wild turn, which it does not make.
unfoldable pub turns : MachineKind → List ℕ → ℕ → List ℕ → Joint → HostModel → Course MultiEnd JointWorld
turns kind schedule n rest j m = course (multi_goes kind) (turns_plan schedule n rest) (j, m)
