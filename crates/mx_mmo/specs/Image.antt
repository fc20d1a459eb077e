-- What an object sets up before a program runs.
-- (MMIXware, the part on MMIXAL, "Binary MMO output".)
use Rattle.std.specs.Prelude.{ℕ, Bool}

-- memory gives at each address the octa that holds it, `pages` tells the pages of 4,096 bytes by
-- their number, and `line_of` the line of the source that the tetra at an address came from, 0
-- where none is known; $g to $255 have the values of `global`
pub record Image : Type 0 where
  pub memory : ℕ → ℕ
  pub pages : ℕ → Bool
  pub page_count : ℕ
  pub line_of : ℕ → ℕ
  pub g : ℕ
  pub global : ℕ → ℕ
