-- The shown target of a relative address gives its field again.
use Rattle.std.proofs.Common.{◌≡◌, ℕ, ◌+◌, ◌-◌, ◌*◌, ◌%◌, ◌^◌, ◌<◌, ◌≤◌, true, false, Ok, arith, nat_le, rules}
use Rattle.mx_gen.proofs.ShownWords.{nat_tests, relative_word}

-- no address of a placed tetra is higher
abbrev pub highest : ℕ
highest = 0x6000_0000_0000_0000

not-at-most : (a b : ℕ) → b < a → nat_le a b ≡ false
not-at-most a b lt = grind (arith, nat_tests)

-- a target ahead
ahead : (head values pc n : ℕ) → n < values → values ≤ 2 ^ 24 → pc ≤ highest → relative_word head values pc ((pc + 4 * n) % 2 ^ 64) ≡ Ok (head + n)
ahead head values pc n lt le low = search rules

-- a target before the place, and one that has wrapped round 2^64
before : (head values pc n : ℕ) → n < values → values ≤ 2 ^ 24 → pc ≤ highest → 4 * values ≤ pc + 4 * n →
    relative_word head values pc ((2 ^ 64 + pc + 4 * n - 4 * values) % 2 ^ 64) ≡ Ok (head + 2 ^ 24 + n)
before head values pc n lt le low above = search rules

wrapped : (head values pc n word : ℕ) → n < values → values ≤ 2 ^ 24 → pc ≤ highest → pc + 4 * n < 4 * values →
    relative_word head values pc ((2 ^ 64 + pc + 4 * n - 4 * values) % 2 ^ 64) ≡ Ok word → true ≡ false
wrapped head values pc n word lt le low below ok = search rules
