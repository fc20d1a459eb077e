-- How great the octas of a page are, and which of them are not 0.
use Rattle.std.specs.Prelude.{ℕ, ◌≡◌, ◌≢◌, ◌≤◌, ◌<◌, List, Option, None, Some, slice_index_or}

-- no octa is above this one
abbrev pub AreAtMost : ℕ → List ℕ → Type 0
AreAtMost most octas = (k : ℕ) → slice_index_or octas k 0 ≤ most

-- the first octa other than 0 from a place on, with its place
abbrev pub IsNextIn : List ℕ → ℕ → Option (ℕ × ℕ) → Type 0
IsNextIn octas from None = (k : ℕ) → from ≤ k → k < 512 → slice_index_or octas k 0 ≡ 0
IsNextIn octas from (Some (at, x)) = (from ≤ at) × (at < 512) × (slice_index_or octas at 0 ≡ x) × (x ≢ 0)
    × ((k : ℕ) → from ≤ k → k < at → slice_index_or octas k 0 ≡ 0)
