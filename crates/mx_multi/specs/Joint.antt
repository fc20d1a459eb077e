-- Several processors on one memory.
use Rattle.std.specs.Prelude.{ℕ, Bool, true, false, List, [], ◌∷◌, get_or, length, slice_set, map, replicate, ◌≡◌}
use Rattle.std.specs.List.{range_with_len}
use Rattle.mx_mem.specs.Memory.{Stored}
use Rattle.mx_mmo.specs.Image.{Image}
use Rattle.mx_ring.specs.RegisterList.{list_at_start}
use Rattle.mx_ring.specs.Stack.{Stack, listed}
use Rattle.mx_core.specs.Bare.{Shared, nothing_shared, shared_in, shared_of, with_shared, bare}
use Rattle.mx_core.specs.Bounds.{as_list_state}
use Rattle.mx_core.specs.Kept.{Kept, state_of}
use Rattle.mx_core.specs.State.{State}
use Rattle.mx_start.specs.Images.{globals_of, shared_at_start}

-- the states of the processors, which have no memory of their own; of each whether it has halted; and the one memory
pub record Joint : Type 0 where
  pub processors : List State
  pub halted : List Bool
  pub memory : Shared

-- a state by itself
abbrev pub alone : State → State
alone s = with_shared nothing_shared s

-- the one where a number names no processor
unfoldable pub no_processor : State
no_processor = bare 255 [] 0 0 (listed list_at_start)

abbrev pub processor : Joint → ℕ → State
processor j who = get_or j.processors who no_processor

-- a processor on the one memory, as it makes its turns
abbrev pub state_at : Joint → ℕ → State
state_at j who = with_shared j.memory (processor j who)

-- whether a processor has halted; a number that names none makes no turns either
abbrev pub has_halted : List Bool → ℕ → Bool
has_halted halted who = get_or halted who true

-- a processor after a turn, and the one memory as it left it
abbrev pub with_processor : Joint → ℕ → State → Joint
with_processor j who s = record j { processors = slice_set j.processors who (alone s); memory = shared_of s }

-- THE START

-- this many processors start on the memory of an image: each has their number in $0 and its own in $1
abbrev pub started : Image → ℕ → Stack → Joint
started image count stack = record {
  processors = map (λ who. bare image.g (globals_of image) count who stack) (range_with_len 0 count);
  halted = replicate count false;
  memory = shared_at_start image;
}

-- AS THEY ARE KEPT

-- the machines, of each whether it has halted, and the one memory
pub record Processors : Type 0 where
  pub machines : List Kept
  pub halted : List Bool
  pub memory : Stored

abbrev pub joint_by : List Kept → List Bool → Stored → Joint
joint_by machines halted memory = record { processors = map state_of machines; halted = halted; memory = shared_in memory }

abbrev pub joint_of : Processors → Joint
joint_of p = joint_by p.machines p.halted p.memory

abbrev pub processor_count : Processors → ℕ
processor_count p = length p.machines

-- no processor has memory of its own
abbrev pub AllAlone : List State → Type 0
AllAlone [] = Unit {0}
AllAlone (s ∷ ss) = (shared_of s ≡ nothing_shared) × AllAlone ss

-- LISTS

-- each processor over the list that its register stack represents
abbrev pub as_list_joint : Joint → Joint
as_list_joint j = record j { processors = map as_list_state j.processors }

-- no processor's register stack was looked at
abbrev pub NoneTouched : List State → Type 0
NoneTouched [] = Unit {0}
NoneTouched (s ∷ ss) = (s.touched ≡ false) × NoneTouched ss
