-- What a run keeps, on worked rows.
use Rattle.std.proofs.Common.{◌≡◌, [], ◌∷◌, refl}
use Rattle.mx_core.specs.State.{State}
use Rattle.mx_back.specs.History.{stepped, trapped, ended, states_kept, Backed, none, more}

-- two steps, and a stop after them: both states, the newest first
steps : (s t u : State) → states_kept ((stepped, s) ∷ (stepped, t) ∷ (ended, u) ∷ []) [] ≡ t ∷ s ∷ []
unfolding states_kept
steps s t u = refl

-- a file trap that completed, a step, and a stop: the state before the step alone
trap : (s t u : State) → states_kept ((trapped, s) ∷ (stepped, t) ∷ (ended, u) ∷ []) [] ≡ t ∷ []
unfolding states_kept
trap s t u = refl

-- a step, and a file trap that halted: nothing
halt : (s t : State) → states_kept ((stepped, s) ∷ (trapped, t) ∷ []) [] ≡ []
unfolding states_kept
halt s t = refl

-- two calls of `back`, where three states were kept
calls : (s t u v : State) → Backed (s ∷ t ∷ u ∷ []) v 2 (u ∷ []) t
calls s t u v = more (more none)
