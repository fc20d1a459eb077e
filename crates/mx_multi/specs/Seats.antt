-- Processors of which one has the one memory with it, as they are while they take turns.
use Rattle.std.specs.Prelude.{ℕ, Bool, List, get_or, map, slice_set}
use Rattle.mx_core.specs.Bare.{shared_of, with_shared}
use Rattle.mx_core.specs.Kept.{Kept, state_of}
use Rattle.mx_core.specs.State.{State}
use Rattle.mx_multi.specs.Joint.{AllAlone, Joint, alone, no_processor}

-- the machines, of each whether it has halted, and the number of the one that has the memory
pub record Seated : Type 0 where
  pub machines : List Kept
  pub halted : List Bool
  pub at : ℕ

-- states of which the one at a place has the memory, as processors on that memory
abbrev pub seated_by : List State → List Bool → ℕ → Joint
seated_by ss halted at = record {
  processors = slice_set ss at (alone (get_or ss at no_processor));
  halted = halted;
  memory = shared_of (get_or ss at no_processor);
}

abbrev pub seated : Seated → Joint
seated p = seated_by (map state_of p.machines) p.halted p.at

-- no other has memory of its own
abbrev pub IsSeated : List State → ℕ → Type 0
IsSeated ss at = AllAlone (slice_set ss at (alone (get_or ss at no_processor)))

-- states after those at two places have exchanged their memory
abbrev pub exchanged : List State → ℕ → ℕ → List State
exchanged ss i k =
    slice_set (slice_set ss i (with_shared (shared_of (get_or ss k no_processor)) (get_or ss i no_processor))) k
    (with_shared (shared_of (get_or ss i no_processor)) (get_or ss k no_processor))
