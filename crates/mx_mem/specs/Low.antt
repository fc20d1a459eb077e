-- Low pages: those that are below Stack_Segment, which begins at 6 times 2^60.
use Rattle.std.specs.Prelude.{ℕ, ◌-◌, ◌^◌, ◌≡◌, nat_lt, if◌then◌else◌}

abbrev pub low_pages : ℕ
low_pages = 0x6_0000_0000_0000

-- the number of a page, or 2^64 - 1, which is that of no page, where the page is not low
abbrev pub IsLowNumber : ℕ → ℕ → Type 0
IsLowNumber low number = low ≡ (if nat_lt number low_pages then number else 2 ^ 64 - 1)
