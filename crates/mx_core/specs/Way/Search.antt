-- The next octa other than 0, within bounds.
use Rattle.std.specs.Prelude.{ℕ, ◌≡◌, ◌≢◌, ◌≤◌, ◌<◌, ◌+◌, ◌-◌, ◌/◌, ◌%◌, ◌^◌, max, Option, None, Some}
use Rattle.mx_ring.specs.Stack.{stack_address}

-- all octas at addresses from one up to another are 0
abbrev pub AreZero : (ℕ → ℕ) → ℕ → ℕ → Type 0
AreZero octas from to = (q : ℕ) → from ≤ q → q % 8 ≡ 0 → q < to → octas q ≡ 0

-- the least octa other than 0 whose own address is at or above one address, and below another
abbrev pub IsNextBetween : (ℕ → ℕ) → ℕ → ℕ → Option (ℕ × ℕ) → Type 0
IsNextBetween octas from to None = AreZero octas from to
IsNextBetween octas from to (Some (a, x)) = (from ≤ a) × (a < to) × (a % 8 ≡ 0) × (octas a ≡ x) × (x ≢ 0) × AreZero octas from a

-- the first octa of the stack area other than 0 from an index on
abbrev pub IsNextIndex : (ℕ → ℕ) → ℕ → Option (ℕ × ℕ) → Type 0
IsNextIndex octas from None = (k : ℕ) → from ≤ k → k < 2 ^ 20 → octas k ≡ 0
IsNextIndex octas from (Some (i, x)) = (from ≤ i) × (i < 2 ^ 20) × (octas i ≡ x) × (x ≢ 0) × ((k : ℕ) → from ≤ k → k < i → octas k ≡ 0)

-- the index of the first octa of the stack area at or above an address
abbrev pub first_index : ℕ → ℕ
first_index from = (max from (stack_address 0) - stack_address 0 + 7) / 8
