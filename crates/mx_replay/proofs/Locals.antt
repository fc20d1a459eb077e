-- The local registers, one after another, and those of a step of a run.
use Rattle.std.proofs.Common.{◌≡◌, ◌<◌, ℕ, List, length, Ok, sym, subst, ◌∙◌, ap}
use Rattle.std.specs.Prelude.{slice_index}
use Rattle.mx_word.specs.Results.{map_ok}
use Rattle.mx_core.specs.Kept.{state_of}
use Rattle.mx_core.specs.State.{State}
use Rattle.mx_ring.specs.Stack.{local_count, register}
use Rattle.mx_run.specs.Runs.{Ended}
use Rattle.mx_replay.specs.Frames.{AreLocals, AreLocalsAt}
use Rattle.mx_replay.specs.Programs.{step_of}
use Rattle.mx_stops.specs.Places.{value_at}
use Rattle.mx_replay.specs.Visits.{IsStart, IsStep, came_to}
use Rattle.mx_stops.specs.declared.places.Place.{Place}
use Rattle.mx_replay.specs.declared.program.Program.{Program}
use Rattle.mx_replay.specs.declared.visit.Visit.{Visit}

pub all-told : (s : State) (octas : List ℕ) (n : ℕ) → n ≡ local_count s.stack → length octas ≡ n → ((i : ℕ) → i < length octas → slice_index octas i ≡ register s.stack i) → AreLocals s octas
all-told s octas n e l h = record { count = l ∙ e; each = h }

pub ruleset locals = (all-told)

pub step-locals : (p : Program) (v : Visit) (k : ℕ) (octas : List ℕ) → IsStep p v → step_of p v.at ≡ step_of p k → AreLocals (state_of v.machine) octas → AreLocalsAt p k octas
step-locals p v k octas step same told s h =
    let shown : map_ok (λ (e : Ended). e.state) (step_of p k) ≡ Ok (state_of v.machine) = ap (map_ok (λ (e : Ended). e.state)) (sym same ∙ step.shown) in
    let is : state_of v.machine ≡ s = cc in
    subst (λ t. AreLocals t octas) is told

-- the value at a place at the start
pub start-value : (p : Program) (place : Place) (v : Visit) (x : ℕ) → IsStart p v → x ≡ value_at place (state_of v.machine) → map_ok (λ (e : Ended). value_at place e.state) (step_of p 0) ≡ Ok x
start-value p place v x s e =
    let shown : step_of p 0 ≡ Ok (came_to v) = subst (λ k. step_of p k ≡ Ok (came_to v)) s.first s.step.shown in
    ap (map_ok (λ (e : Ended). value_at place e.state)) shown ∙ ap Ok (sym e)

pub ruleset showing = (step-locals, start-value)
