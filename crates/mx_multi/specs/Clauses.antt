-- The words of clauses over several processors and a host. `old` and `new` are what the host told before and after, `before`
-- and `after` the processors.
use Rattle.std.specs.Prelude.{ℕ, zero, suc, ◌≡◌, ◌≢◌, ◌↔◌, ◌≤◌, ◌+◌, ◌%◌, ◌^◌, IsTrue, Bool, true, false, List, length, Option}
use Rattle.mx_word.specs.Lists.{IsFront}
use Rattle.mx_host.specs.HostModel.{HostModel, tells, contents}
use Rattle.mx_host.specs.Keeping.{Keeps}
use Rattle.mx_plan.specs.Clauses.{CarriesOut}
use Rattle.mx_plan.specs.Wild.{Course, ends, meets_wild, ComesBoth, IsRestBoth}
use Rattle.mx_core.specs.State.{State}
use Rattle.mx_run.specs.Clauses.{CarriesOutOnMachine}
use Rattle.mx_run.specs.RunPlans as run
use Rattle.mx_run.specs.Runs.{IsLater}
use Rattle.mx_run.specs.WildRuns.{HasWindow, list_machine, window_machine}
use Rattle.mx_run.specs.declared.turn_answer.TurnAnswer.{TurnAnswer}
use Rattle.mx_run.specs.declared.turn_answer.TurnAnswer.TheVariants as answer
use Rattle.mx_multi.specs.Joint.{Joint, NoneTouched, as_list_joint, has_halted, processor}
use Rattle.mx_multi.specs.JointTurns.{JointWorld, MakesOne, halted_by, told_at, turn_of, is_wild_turn}
use Rattle.mx_multi.specs.MultiPlans.{MultiPlan, multi, turn_plan, turns_plan}
use Rattle.mx_multi.specs.Schedules.{AllHaveHalted}
use Rattle.mx_multi.specs.Turns.{multi_goes, turns}
use Rattle.mx_multi.specs.declared.turn.Turn.{Turn}
use Rattle.mx_multi.specs.declared.turn.Turn.TheVariants as turned
use Rattle.mx_multi.specs.declared.end.MultiEnd.{MultiEnd}
use Rattle.mx_multi.specs.declared.end.MultiEnd.TheVariants as end

-- a call carries out a plan over processors and a host
abbrev pub CarriesOutOnProcessors : {A : Type 0} → Option HostModel → Option HostModel → Joint → Joint → A → A → MultiPlan A → Type 0
CarriesOutOnProcessors old new before after none result plan =
    CarriesOut multi old (before, contents old) (after, contents new) none result plan

-- the turn of one machine on all of its memory, told without a trace: what the answer of its step tells, which is carried out
pub record MakesTurn (old new : Option HostModel) (before after : State) (result : Turn) : Type 0 where
  pub step : TurnAnswer
  pub told : result ≡ told_at before.pc step
  pub carried : CarriesOutOnMachine old new before after answer.OutOfMemory step run.turn_plan

-- what holds of such a turn over every host: it is made where the host tells its contents, from a state over a window; it is one
-- step at most, and the host keeps what it keeps at every call
pub record TurnsAloneBetween (old new : Option HostModel) (earlier later : ℕ) (before after : State) (result : Turn) : Type 0 where
  pub told : MakesTurn old new before after result
  pub over : HasWindow before
  pub bound : IsLater 1 before after
  pub keeps : Keeps old new earlier later

-- the same of a host: `told` is what it tells, `faults` its count of faults
abbrev pub TurnsAlone : {H : Type 0} → (H → Option HostModel) → (H → ℕ) → H → H → State → State → Turn → Type 0
TurnsAlone told faults old new before after result =
    TurnsAloneBetween (told old) (told new) (faults old) (faults new) before after result

-- BESIDE LIST MACHINES

-- one turn beside that of list machines on one memory: where it is wild, what was on standard output still is; else it
-- answers and leaves the same, and nothing touched
abbrev pub TurnGoesAsLists : Bool → ℕ → Joint → HostModel → Turn → Joint → HostModel → Type 0
TurnGoesAsLists true who j m result after n = IsFront m.output n.output
TurnGoesAsLists false who j m result after n =
    ((result, (as_list_joint after, n)) ≡ turn_of who (j, m)) × NoneTouched after.processors

-- over a host that tells its contents, from processors where nothing was touched
abbrev pub TurnsAsLists : Option HostModel → Option HostModel → Joint → Joint → ℕ → Turn → Type 0
TurnsAsLists old new before after who result =
    IsTrue (tells old) → result ≢ turned.OutOfMemory → NoneTouched before.processors →
    TurnGoesAsLists (is_wild_turn who (as_list_joint before)) who (as_list_joint before) (contents old) result after (contents new)

-- turns by a schedule beside those of list machines on one memory: they end as those, with the lists that the register stacks
-- then represent and nothing touched; or, where those meet a wild turn, they begin by writing what those had written
abbrev pub GoAsLists : Course MultiEnd JointWorld → MultiEnd → Joint → HostModel → Type 0
GoAsLists (ends end w) result after n = (end ≡ result) × (as_list_joint after ≡ w.0) × (n ≡ w.1) × NoneTouched after.processors
GoAsLists (meets_wild w) result after n = IsFront w.1.output n.output

abbrev pub EndAsLists : Option HostModel → Option HostModel → Joint → Joint → MultiEnd → (Joint → HostModel → Course MultiEnd JointWorld) → Type 0
EndAsLists old new before after result f =
    IsTrue (tells old) → result ≢ end.OutOfMemory → NoneTouched before.processors →
    GoAsLists (f (as_list_joint before) (contents old)) result after (contents new)

-- over a host that tells its contents, the answer, the processors and the contents are those of the turns f, unless there was
-- no memory
abbrev pub EndAs : Option HostModel → Option HostModel → Joint → Joint → MultiEnd → (Joint → HostModel → Course MultiEnd JointWorld) → Type 0
EndAs old new before after result f =
    IsTrue (tells old) → result ≢ end.OutOfMemory → ends result (after, contents new) ≡ f before (contents old)

-- over a host that tells its contents, a turn answers and leaves what it should, unless there was no memory
abbrev pub TurnsTo : Option HostModel → Option HostModel → Joint → Joint → ℕ → Turn → Type 0
TurnsTo old new before after who result =
    IsTrue (tells old) → result ≢ turned.OutOfMemory → (result, (after, contents new)) ≡ turn_of who (before, contents old)

-- what holds of the turn of a processor over every host: its plan is carried out, so it answers and leaves what it should, beside
-- list machines too; it is idle exactly where the processor had halted, and a Halt alone marks it; it is one step at most; and
-- the host keeps what it keeps at every call
pub record TakesTurnBetween (old new : Option HostModel) (earlier later : ℕ) (before after : Joint) (who : ℕ) (result : Turn) : Type 0 where
  pub plan : CarriesOutOnProcessors old new before after turned.OutOfMemory result (turn_plan who)
  pub told : TurnsTo old new before after who result
  pub listed : TurnsAsLists old new before after who result
  pub idle : (result ≡ turned.Idle) ↔ IsTrue (has_halted before.halted who)
  pub marked : after.halted ≡ halted_by before.halted who result
  pub bound : MakesOne who before after
  pub keeps : Keeps old new earlier later

abbrev pub TakesTurn : {H : Type 0} → (H → Option HostModel) → (H → ℕ) → H → H → Joint → Joint → ℕ → Turn → Type 0
TakesTurn told faults old new before after who result =
    TakesTurnBetween (told old) (told new) (faults old) (faults new) before after who result

-- COUNTS

-- the sum of what a function gives below a number
abbrev pub sum_below : ℕ → (ℕ → ℕ) → ℕ
sum_below zero f = 0
sum_below (suc n) f = sum_below n f + f n

-- whatever the host tells: there are as many processors, and their counts of steps, which are modulo 2^64, are up to n more in
-- all
pub record MakesAtMost (n : ℕ) (old new : Joint) : Type 0 where
  pub same : length new.processors ≡ length old.processors
  pub made : ℕ → ℕ
  pub few : sum_below (length old.processors) made ≤ n
  pub counted : (who : ℕ) → (processor new who).steps % 2 ^ 64 ≡ ((processor old who).steps + made who) % 2 ^ 64

-- TURNS BY A SCHEDULE

-- What holds of turns by a schedule over every host, at most n steps of them: their plan is carried out, so they end and leave what
-- they should, beside list machines too; they end so that all have halted exactly where each that the schedule names then has; at most
-- n steps are made; and the host keeps what it keeps at every call.
pub record TakesTurnsBetween (schedule : List ℕ) (n : ℕ) (old new : Option HostModel) (earlier later : ℕ) (before after : Joint) (result : MultiEnd) : Type 0 where
  pub plan : CarriesOutOnProcessors old new before after end.OutOfMemory result (turns_plan schedule n schedule)
  pub told : EndAs old new before after result (λ j m. turns window_machine schedule n schedule j m)
  pub listed : EndAsLists old new before after result (λ j m. turns list_machine schedule n schedule j m)
  pub halted : (result ≡ end.AllHalted) ↔ AllHaveHalted after.halted schedule
  pub bound : MakesAtMost n before after
  pub keeps : Keeps old new earlier later

abbrev pub TakesTurns : {H : Type 0} → List ℕ → ℕ → (H → Option HostModel) → (H → ℕ) → H → H → Joint → Joint → MultiEnd → Type 0
TakesTurns schedule n told faults old new before after result =
    TakesTurnsBetween schedule n (told old) (told new) (faults old) (faults new) before after result

-- BOTH MACHINES

-- the world of list machines; where both go alike; and where something wild was passed: standard output still begins with what was
-- written then
abbrev pub as_list_joints : JointWorld → JointWorld
as_list_joints w = (as_list_joint w.0, w.1)

abbrev pub AreUntouched : JointWorld → Type 0
AreUntouched w = NoneTouched w.0.processors

abbrev pub WriteOn : JointWorld → JointWorld → Type 0
WriteOn v w = IsFront v.1.output w.1.output

-- what comes of a plan over both, and what is left of it
abbrev pub TurnsBoth : {A : Type 0} → JointWorld → JointWorld → A → A → MultiPlan A → Type 0
TurnsBoth old new none result plan = ComesBoth multi (multi_goes list_machine) as_list_joints AreUntouched WriteOn old new none result plan

abbrev pub RestsBoth : {A : Type 0} → MultiPlan A → JointWorld → MultiPlan A → JointWorld → Type 0
RestsBoth rest now whole start = IsRestBoth multi (multi_goes list_machine) as_list_joints AreUntouched WriteOn rest now whole start
