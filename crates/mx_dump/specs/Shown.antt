-- The next octa that a dump shows.
use Rattle.std.specs.Prelude.{ℕ, ◌≡◌, ◌≤◌, ◌<◌, ◌%◌, ◌^◌, List, [], ◌∷◌, ◌++◌, codes, Option, None, Some}
use Rattle.mx_core.specs.State.{State}
use Rattle.mx_text.specs.Numbers.{hex_text}
use Rattle.mx_dump.specs.Dump.{named_octa, octa_line}

-- the octas at addresses from one up to another have no line
abbrev pub AreHidden : State → ℕ → ℕ → Type 0
AreHidden s from to = (q : ℕ) → from ≤ q → q % 8 ≡ 0 → q < to → octa_line s q ≡ []

-- the line of the octa at an address
abbrev pub shown_octa : ℕ → ℕ → List ℕ
shown_octa a x = named_octa (codes "M" ++ hex_text a) x

-- the first octa below 2^63 that has a line, from an address on
abbrev pub IsNextShown : State → ℕ → Option (ℕ × ℕ) → Type 0
IsNextShown s from None = AreHidden s from (2 ^ 63)
IsNextShown s from (Some (a, x)) = (from ≤ a) × (a < 2 ^ 63) × (a % 8 ≡ 0) × (octa_line s a ≡ shown_octa a x ∷ []) × AreHidden s from a
