use Rattle.std.proofs.Common.{◌≡◌, take}
use Rattle.mx_load.specs.Kept.{image_of}
use Rattle.mx_object.specs.Listing.{tetras_at}
use Rattle.mx_object.proofs.tetras.tetras_at.Given as goal

abbrev pub invariant-loop-address : goal.invariant-loop-address
invariant-loop-address l = l.tetras ≡ tetras_at (image_of l.image) l.image.symbols (take l.address-index l.addresses)
