-- The allocated global registers, as the list of the values of $G to $254 (MMIXware, MMIXAL, GREG and base addresses;
-- TAOCP 1, Fascicle 1, section 1.3.2').
use Rattle.std.specs.Prelude.{◌≡◌, ◌≢◌, ◌<◌, ◌≤◌, ℕ, ◌+◌, ◌-◌, ◌%◌, ◌^◌, ◌==◌, nat_lt, nat_le, if◌then◌else◌, List, [], ◌∷◌, length, position, slice_index, slice_set, Option, None, Some, option_map}
use Rattle.mx_word.specs.Words.{difference}
use Rattle.mx_names.specs.declared.gregs.Base.{Base}

-- G: the lowest allocated register, or 255
abbrev pub lowest_of : List ℕ → ℕ
lowest_of gregs = 255 - length gregs

-- A GREG may give its value to the register: it is allocated, or the next one downwards, and it is one of $32 to $254.
pub record IsAllocable (gregs : List ℕ) (reg : ℕ) : Type 0 where
  pub next : lowest_of gregs ≤ reg + 1
  pub least : 32 ≤ reg
  pub global : reg < 255

-- the value of an allocated register
abbrev pub greg_value : List ℕ → ℕ → ℕ
greg_value gregs reg = slice_index gregs (reg - lowest_of gregs)

-- the registers with this value in one of them, or in the next one downwards
abbrev pub with_greg : List ℕ → ℕ → ℕ → List ℕ
with_greg gregs reg value = if nat_lt reg (lowest_of gregs) then value ∷ gregs else slice_set gregs (reg - lowest_of gregs) value

-- the register that has a value already
abbrev pub register_of_value : List ℕ → ℕ → Option ℕ
register_of_value gregs value = option_map (λ place. lowest_of gregs + place) (position (λ v. v == value) gregs)

-- the next register downwards from $254, to $32 at the lowest; there is none after $32
abbrev pub next_register : List ℕ → Option ℕ
next_register gregs = if nat_le (lowest_of gregs) 32 then None else Some (lowest_of gregs - 1)

abbrev pub register_or_next : List ℕ → Option ℕ → Option ℕ
register_or_next gregs None = next_register gregs
register_or_next gregs (Some reg) = Some reg

-- The register of a GREG: the one that an earlier GREG has given this value, if that is not 0; else the next one.
abbrev pub register_for : List ℕ → ℕ → Option ℕ
register_for gregs value = if value == 0 then next_register gregs else register_or_next gregs (register_of_value gregs value)

-- A base is a register for an address, and how far the address lies above its value, modulo 2^64.
-- the nearer of a base and perhaps another one
abbrev pub nearer_base : Base → Option Base → Base
nearer_base base None = base
nearer_base base (Some other) = if nat_le base.above other.above then base else other

-- The nearest base for an address among the registers from one with this number on; a register with the value 0 is none.
abbrev pub with_register : ℕ → ℕ → ℕ → Option Base → Option Base
with_register address reg value others =
    if value == 0 then others else Some (nearer_base (record { reg = reg; above = difference address value }) others)

unfoldable pub nearest_from : ℕ → ℕ → List ℕ → Option Base
nearest_from address reg [] = None
nearest_from address reg (value ∷ values) = with_register address reg value (nearest_from address (reg + 1) values)

-- The nearest base for an address: the allocated register with the least address - value modulo 2^64.
abbrev pub nearest_base : List ℕ → ℕ → Option Base
nearest_base gregs address = nearest_from address (lowest_of gregs) gregs

-- what the nearest base is: an allocated register with a value that is not 0, such that no other one is nearer
pub record IsNearest (gregs : List ℕ) (address : ℕ) (base : Base) : Type 0 where
  pub allocated : lowest_of gregs ≤ base.reg
  pub global : base.reg < 255
  pub nonzero : greg_value gregs base.reg ≢ 0
  pub above : base.above ≡ difference address (greg_value gregs base.reg)
  pub least : (other : ℕ) → lowest_of gregs ≤ other → other < 255 → greg_value gregs other ≢ 0 → base.above ≤ difference address (greg_value gregs other)

-- A base lies within 255 below the address.
abbrev pub near_base : Option Base → Option Base
near_base None = None
near_base (Some base) = if nat_lt base.above 256 then Some base else None

abbrev pub base_for : List ℕ → ℕ → Option Base
base_for gregs address = near_base (nearest_base gregs address)
