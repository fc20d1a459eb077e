-- The start over lists.
use Rattle.std.proofs.Common.{◌≡◌, ℕ, zero, suc, ◌+◌, List, ◌∷◌, map, replicate, false, refl, ap, ◌∙◌}
use Rattle.std.specs.List.{range_with_len}
use Rattle.mx_mmo.specs.Image.{Image}
use Rattle.mx_ring.specs.RegisterList.{list_at_start}
use Rattle.mx_ring.specs.Stack.{Stack, listed, windowed}
use Rattle.mx_ring.specs.Window.{window_at_start}
use Rattle.mx_core.specs.Bare.{bare}
use Rattle.mx_start.specs.Images.{globals_of, shared_at_start}
use Rattle.mx_core.specs.Bounds.{as_list_state}
use Rattle.mx_core.proofs.BareStarts.{bare-listed}
use Rattle.mx_multi.specs.Joint.{NoneTouched, as_list_joint, started}
use Rattle.mx_multi.proofs.TurnComes.{joint}

lists-from : (g count size a n : ℕ) (globals : List ℕ) →
    map (λ who. bare g globals count who (listed list_at_start)) (range_with_len a n) ≡ map as_list_state (map (λ who. bare g globals count who (windowed (window_at_start size))) (range_with_len a n))
lists-from g count size a zero globals = refl
lists-from g count size a (suc n) globals =
    ap (λ s. s ∷ map (λ who. bare g globals count who (listed list_at_start)) (range_with_len (a + 1) n)) (bare-listed g count a size globals)
    ∙ ap (λ ss. as_list_state (bare g globals count a (windowed (window_at_start size))) ∷ ss) (lists-from g count size (a + 1) n globals)

pub start-listed : (image : Image) (count size : ℕ) → started image count (listed list_at_start) ≡ as_list_joint (started image count (windowed (window_at_start size)))
start-listed image count size = ap (λ ss. joint ss (replicate count false) (shared_at_start image)) (lists-from image.g count size 0 count (globals_of image))

untouched-from : (g count a n : ℕ) (globals : List ℕ) (stack : Stack) → NoneTouched (map (λ who. bare g globals count who stack) (range_with_len a n))
untouched-from g count a zero globals stack = tt
untouched-from g count a (suc n) globals stack = (refl, untouched-from g count (a + 1) n globals stack)

pub start-untouched : (image : Image) (count : ℕ) (stack : Stack) → NoneTouched (started image count stack).processors
start-untouched image count stack = untouched-from image.g count 0 count (globals_of image) stack

pub ruleset starting = (start-listed, start-untouched)
