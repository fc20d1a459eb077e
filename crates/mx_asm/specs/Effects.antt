-- What always holds of a statement that is placed: its effect can be had, and its bytes lie low.
use Rattle.std.specs.Prelude.{ℕ, ◌+◌, ◌^◌, ◌<◌, ◌≤◌, List, length, Ok, Err}
use Rattle.mx_names.specs.Names.{IsFullName}
use Rattle.mx_names.specs.Gregs.{lowest_of}
use Rattle.mx_stmt.specs.declared.placed.Effect.{Effect}
use Rattle.mx_stmt.specs.declared.placed.Effect.TheVariants as effect
use Rattle.mx_stmt.specs.declared.placed.Placed.{Placed}
use Rattle.mx_stmt.specs.Steps.{Answer}

-- the register of GREG is allocated, or the next one downwards, and at least $32
pub record IsGreg (gregs : List ℕ) (reg : ℕ) : Type 0 where
  pub next : lowest_of gregs ≤ reg + 1
  pub least : 32 ≤ reg
  pub global : reg < 255

-- a prefix is a complete name, and a register of LOCAL is a register
abbrev pub IsEffect : List ℕ → Effect → Type 0
IsEffect gregs effect.Plain = Unit {0}
IsEffect gregs (effect.Prefix full) = IsFullName full
IsEffect gregs (effect.Greg reg value) = IsGreg gregs reg
IsEffect gregs (effect.Local reg) = Unit {0}

pub record IsPlaced (gregs : List ℕ) (p : Placed) : Type 0 where
  pub effect : IsEffect gregs p.effect
  pub low : 0 < length p.bytes → p.start + length p.bytes ≤ 2 ^ 63

abbrev pub IfPlaced : (Placed → Type 0) → Answer Placed → Type 0
IfPlaced P (Err fault) = Unit {0}
IfPlaced P (Ok p) = P p
