-- What an image gives a machine at its start.
use Rattle.std.specs.Prelude.{ℕ, ◌-◌, ◌<◌, ◌≤◌, ◌^◌, List, map}
use Rattle.std.specs.List.{range_with_len}
use Rattle.mx_mmo.specs.Image.{Image}
use Rattle.mx_core.specs.Bare.{Shared}

-- an image that an object can set up: octas, a G from 32 to 255, and no page too many
pub record IsImage (image : Image) : Type 0 where
  pub least_global : 32 ≤ image.g
  pub one_is_global : image.g ≤ 255
  pub globals : (k : ℕ) → image.global k < 2 ^ 64
  pub memory : (a : ℕ) → image.memory a < 2 ^ 64
  pub pages : image.page_count ≤ 65536

-- the memory that an image has
abbrev pub shared_at_start : Image → Shared
shared_at_start image = record { octas = image.memory; pages = image.pages; page_count = image.page_count }

-- the values of $g to $255 in an image
abbrev pub globals_of : Image → List ℕ
globals_of image = map image.global (range_with_len image.g (256 - image.g))
