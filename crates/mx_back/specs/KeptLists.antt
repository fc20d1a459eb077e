-- The states that a run keeps, beside the list machine.
use Rattle.std.specs.Prelude.{ℕ, ◌≡◌, ◌≢◌, IsTrue, false, List, map, Option}
use Rattle.std.specs.List.{AllByRecursion}
use Rattle.mx_host.specs.HostModel.{HostModel, tells, contents}
use Rattle.mx_plan.specs.Wild.{Course, ends, meets_wild}
use Rattle.mx_core.specs.Bounds.{as_list_state}
use Rattle.mx_core.specs.State.{State}
use Rattle.mx_core.specs.Undoing.{StateWas}
use Rattle.mx_run.specs.AccompaniedRuns.{list_run}
use Rattle.mx_run.specs.RunPlans.{RunWorld}
use Rattle.mx_run.specs.declared.end.End.{End}
use Rattle.mx_run.specs.declared.end.End.TheVariants as end
use Rattle.mx_back.specs.History.{states_kept, states_before}
use Rattle.mx_back.specs.KeptRuns.{turns_of}

-- states with the lists that their register stacks represent
abbrev pub as_lists : List State → List State
as_lists states = map as_list_state states

-- nothing was touched in any of them
abbrev pub IsUntouched : State → Type 0
IsUntouched s = s.touched ≡ false

abbrev pub AreUntouched : List State → Type 0
AreUntouched = AllByRecursion IsUntouched

-- the states that the list machine keeps after earlier ones in at most n steps from the list that a state represents
abbrev pub list_kept : Option HostModel → State → ℕ → List State → List State
list_kept old before n earlier = states_kept (turns_of n (as_list_state before) (contents old)) (as_lists earlier)

-- states beside those that the list machine keeps, where its run ends and so meets nothing wild: they represent these, and
-- nothing was touched
abbrev pub AreBeside : Course End RunWorld → List State → List State → Type 0
AreBeside (ends end w) states kept = (as_lists states ≡ kept) × AreUntouched states
AreBeside (meets_wild w) states kept = Unit {0}

-- over a host that tells its contents, unless there was no memory, and where nothing was touched in the state before and in the
-- earlier ones, the states that the notes represent are beside those that the list machine keeps
abbrev pub KeepsAsList : Option HostModel → State → State → ℕ → End → List StateWas → List StateWas → Type 0
KeepsAsList old before after n result earlier later =
    IsTrue (tells old) → result ≢ end.OutOfMemory → before.touched ≡ false → AreUntouched (states_before earlier before) →
    AreBeside (list_run old before n) (states_before later after) (list_kept old before n (states_before earlier before))
