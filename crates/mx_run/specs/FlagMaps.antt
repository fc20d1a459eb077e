-- The flags of tetras as one map.
use Rattle.std.specs.Prelude.{ℕ, ◌≡◌, ◌≤◌, ◌<◌, ◌*◌, ◌/◌, ◌%◌, ◌^◌, ◌==◌, ◌||◌, Bool, true, false, if◌then◌else◌, List, Option, None, Some}
use Rattle.std.specs.Map.{lookup}
use Rattle.std.specs.Ordering.{nat_cmp}
use Rattle.std.specs.BTreeMap as tree
use Rattle.std.specs.BTreeMap.{BTreeMap}
use Rattle.mx_run.specs.Ends.{FlagsOf}
use Rattle.mx_run.specs.declared.end.BreakKind.{BreakKind}
use Rattle.mx_run.specs.declared.end.BreakKind.TheVariants.{Read, Write, Execute}
use Rattle.mx_run.specs.declared.flags.Flags.{Flags}

-- whether there is one
abbrev pub has_flag : Flags → Bool
has_flag f = f.r || f.w || f.x || f.t

-- the flag of a tetra that a break of a kind means
abbrev pub break_flag : BreakKind → Flags → Bool
break_flag Read f = f.r
break_flag Write f = f.w
break_flag Execute f = f.x

-- the flags by the entries of a map, which has a tetra's number and its flags; a tetra without a flag has no entry
abbrev pub flags_or_none : Option Flags → Flags
flags_or_none None = record { r = false; w = false; x = false; t = false }
flags_or_none (Some f) = f

abbrev pub flags_at : List (ℕ × Flags) → FlagsOf
flags_at entries n = flags_or_none (lookup (tree.is_at (nat_cmp n)) entries)

-- what is held has a flag, and the number of its tetra is below 2^62
pub record HoldsFlags (m : BTreeMap ℕ Flags) : Type 0 where
  pub flagged : (n : ℕ) (f : Flags) → tree.get nat_cmp m n ≡ Some f → has_flag f ≡ true
  pub below : (n : ℕ) (f : Flags) → tree.get nat_cmp m n ≡ Some f → n < 2 ^ 62

-- the flags, with others at a tetra
abbrev pub with_flags : FlagsOf → ℕ → Flags → FlagsOf
with_flags flags n f q = if q == n then f else flags q

-- the least tetra from a number on that is held
abbrev pub IsNextHeld : BTreeMap ℕ Flags → ℕ → Option (ℕ × Flags) → Type 0
IsNextHeld m from None = (n : ℕ) → from ≤ n → tree.get nat_cmp m n ≡ None
IsNextHeld m from (Some (n, f)) = (from ≤ n) × (tree.get nat_cmp m n ≡ Some f)
    × ((q : ℕ) → from ≤ q → q < n → tree.get nat_cmp m q ≡ None)

-- the least tetra whose own address is at or above `from` and that has a flag: its address and its flags
abbrev pub IsNextFlagged : FlagsOf → ℕ → Option (ℕ × Flags) → Type 0
IsNextFlagged flags from None = (n : ℕ) → from ≤ 4 * n → has_flag (flags n) ≡ false
IsNextFlagged flags from (Some (a, f)) = (from ≤ a) × (a % 4 ≡ 0) × (flags (a / 4) ≡ f) × (has_flag f ≡ true)
    × ((n : ℕ) → from ≤ 4 * n → 4 * n < a → has_flag (flags n) ≡ false)
