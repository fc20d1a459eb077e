-- Columns on the wire: they count units of UTF-16, of which a character of four bytes has two and each other character one. (Language
-- Server Protocol, "Position".)
use Rattle.std.specs.Prelude.{ℕ, zero, suc, ◌+◌, ◌-◌, ◌==◌, ◌&&◌, nat_le, nat_lt, Bool, not, List, [], ◌∷◌, take, if◌then◌else◌}

-- how many units of UTF-16 a byte of UTF-8 begins
abbrev pub units : ℕ → ℕ
units b = if nat_le 128 b && nat_lt b 192 then 0 else if nat_lt b 240 then 1 else 2

unfoldable pub total : List ℕ → ℕ
total [] = 0
total (b ∷ bs) = units b + total bs

-- the units in front of a place
abbrev pub column_of : List ℕ → ℕ → ℕ
column_of line place = total (take place line)

-- the place after so many units, in front of a character; the end of a line that has fewer
unfoldable pub place_of : List ℕ → ℕ → ℕ
place_of [] column = 0
place_of (b ∷ bs) column = if column == 0 && not (units b == 0) then 0 else place_of bs (column - units b) + 1

-- whether a place is in front of a character, or at the end
unfoldable pub is_boundary : List ℕ → ℕ → Bool
is_boundary [] place = place == 0
is_boundary (b ∷ bs) zero = not (units b == 0)
is_boundary (b ∷ bs) (suc place) = is_boundary bs place
