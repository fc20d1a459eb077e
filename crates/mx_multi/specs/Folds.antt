-- Turns as a fold: of a list of numbers each names the processor of a turn, one after another.
use Rattle.std.specs.Prelude.{ℕ, zero, suc, ◌≡◌, ◌≤◌, ◌<◌, ◌+◌, false, true, List, [], ◌∷◌, ◌++◌}
use Rattle.mx_word.specs.Lists.{IsFront}
use Rattle.mx_plan.specs.Wild.{Course, ends, meets_wild}
use Rattle.mx_run.specs.WildRuns.{MachineKind, ends_wild}
use Rattle.mx_multi.specs.Joint.{has_halted, state_at}
use Rattle.mx_multi.specs.JointTurns.{JointWorld, turn_of}
use Rattle.mx_multi.specs.Schedules.{AllHaveHalted}
use Rattle.mx_multi.specs.declared.turn.Turn.{Turn}
use Rattle.mx_multi.specs.declared.turn.Turn.TheVariants.{Went, Halted, Idle, Stopped, OutOfMemory}
use Rattle.mx_multi.specs.declared.end.MultiEnd.{MultiEnd}
use Rattle.mx_multi.specs.declared.end.MultiEnd.TheVariants as end

-- what is left after all of them
unfoldable pub after_turns : List ℕ → JointWorld → JointWorld
after_turns [] w = w
after_turns (who ∷ turns) w = after_turns turns (turn_of who w).1

-- a turn that goes on or halts is a step; one of a processor that has halted is none, and neither is a stop
abbrev pub steps_of : Turn → ℕ
steps_of Went = 1
steps_of (Halted status) = 1
steps_of Idle = 0
steps_of (Stopped pc reason) = 0
steps_of OutOfMemory = 0

unfoldable pub steps_in : List ℕ → JointWorld → ℕ
steps_in [] w = 0
steps_in (who ∷ turns) w = steps_of (turn_of who w).0 + steps_in turns (turn_of who w).1

-- a schedule this many times over
abbrev pub repeated : List ℕ → ℕ → List ℕ
repeated schedule zero = []
repeated schedule (suc rounds) = schedule ++ repeated schedule rounds

-- ---- turns that do not end them

abbrev pub DoesNotEnd : Turn → Type 0
DoesNotEnd Went = Unit {0}
DoesNotEnd (Halted status) = Unit {0}
DoesNotEnd Idle = Unit {0}
DoesNotEnd (Stopped pc reason) = ⊥
DoesNotEnd OutOfMemory = ⊥

-- a turn that is made while not all have halted that the schedule names, that does not end them, and that is not wild
pub record IsUnstopped (kind : MachineKind) (schedule : List ℕ) (who : ℕ) (w : JointWorld) : Type 0 where
  pub due : ¬ AllHaveHalted w.0.halted schedule
  pub going : DoesNotEnd (turn_of who w).0
  pub tame : has_halted w.0.halted who ≡ false → ends_wild kind (state_at w.0 who) ≡ false

unfoldable pub AreUnstopped : MachineKind → List ℕ → List ℕ → JointWorld → Type 0
AreUnstopped kind schedule [] w = Unit {0}
AreUnstopped kind schedule (who ∷ turns) w = IsUnstopped kind schedule who w × AreUnstopped kind schedule turns (turn_of who w).1

-- ---- their end

-- after these turns a step is left, and the next number of the schedule is this one, whose processor has not halted
pub record IsNext (n steps who : ℕ) (next : List ℕ) (w : JointWorld) : Type 0 where
  pub left : steps < n
  pub named : next ≡ who ∷ []
  pub runs : has_halted w.0.halted who ≡ false

-- How they end after turns that do not end them, of which this many are steps: all steps are made, and one that the schedule
-- names has not halted; all that it names have halted; the next turn stops; or it is wild, and is not made.
abbrev pub EndsSo : MachineKind → List ℕ → ℕ → ℕ → List ℕ → JointWorld → Course MultiEnd JointWorld → Type 0
EndsSo kind schedule n steps next w (ends end.Spent v) = (v ≡ w) × (steps ≡ n) × ¬ AllHaveHalted w.0.halted schedule
EndsSo kind schedule n steps next w (ends end.AllHalted v) = (v ≡ w) × AllHaveHalted w.0.halted schedule
EndsSo kind schedule n steps next w (ends (end.Stopped who pc reason) v) =
    IsNext n steps who next w × ((Stopped pc reason, v) ≡ turn_of who w) × (ends_wild kind (state_at w.0 who) ≡ false)
EndsSo kind schedule n steps next w (ends end.OutOfMemory v) =
    (who : ℕ) × (IsNext n steps who next w × ((OutOfMemory, v) ≡ turn_of who w) × (ends_wild kind (state_at w.0 who) ≡ false))
EndsSo kind schedule n steps next w (meets_wild v) = (who : ℕ) × (IsNext n steps who next w × (ends_wild kind (state_at w.0 who) ≡ true) × (v ≡ w))

-- Turns from a world to an end. Those that do not end them, and then the one that does, if one does, are a front of this and then of
-- the schedule that is repeated; at most n are steps.
pub record FoldsFrom (kind : MachineKind) (rest schedule : List ℕ) (n : ℕ) (old : JointWorld) (end : Course MultiEnd JointWorld) : Type 0 where
  pub turns : List ℕ
  pub next : List ℕ
  pub rounds : ℕ
  pub front : IsFront (turns ++ next) (rest ++ repeated schedule rounds)
  pub few : steps_in turns old ≤ n
  pub unstopped : AreUnstopped kind schedule turns old
  pub ends : EndsSo kind schedule n (steps_in turns old) next (after_turns turns old) end
