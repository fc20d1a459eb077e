-- Turns of a loop.
use Rattle.std.proofs.Common.{◌≡◌, ℕ, suc, ◌+◌, ◌-◌, ◌<◌, arith}

-- the turns that are left at one of them are that one and those left after it
pub left-after : (k i : ℕ) → i < k → k - i ≡ suc (k - (i + 1))
left-after k i h = omega arith
