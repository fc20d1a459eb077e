-- The machine with an image, before its arguments are in the pool.
use Rattle.std.proofs.Common.{◌≡◌, ◌≤◌, ℕ, ◌+◌, ◌-◌, ◌*◌, ◌/◌, get_or, arith, sym, ap}
use Rattle.std.proofs.lemmas.List.FromFn.{get_or-map-range_with_len}
use Rattle.mx_mmo.specs.Image.{Image}
use Rattle.mx_ring.specs.Stack.{Stack}
use Rattle.mx_core.specs.Bare.{bare, with_shared}
use Rattle.mx_start.specs.Images.{globals_of, shared_at_start}
use Rattle.mx_start.specs.Start.{loaded, pool}

module _ (image : Image) (count : ℕ) (stack : Stack) (low : image.g ≤ 255) where
  main-is : get_or (globals_of image) (255 - image.g) 0 ≡ image.global 255
  main-is =
      let last : image.g + (255 - image.g) ≡ 255 = omega (arith, low) in
      get_or-map-range_with_len image.global image.g (256 - image.g) (255 - image.g) 255 0 (omega (arith, low)) last

  pub loaded-is-bare : loaded image count stack ≡ with_shared (shared_at_start image) (bare image.g (globals_of image) count (pool + 8) stack)
  loaded-is-bare = ap (λ a. record (loaded image count stack) { pc = a / 4 * 4 }) (sym main-is)

pub ruleset starting = (loaded-is-bare)
