-- Items that are loaded one after another.
use Rattle.std.proofs.Common.{◌≡◌, List, [], ◌∷◌, ◌++◌, refl, ap, Ok, Err, Result}
use Rattle.mx_load.proofs.Words.{Loading, Meaningless, nothing, take_item, take_items, image_in, meaning, Item, told, after}
use Rattle.mx_load.specs.Status.{image_in as image_in_status}

none-more : (r : Result Loading Meaningless) → take_items [] r ≡ r
none-more (Ok s) = refl
none-more (Err e) = refl

next-from : (front : List Item) (item : Item) (r : Result Loading Meaningless) → told (take_items (front ++ item ∷ []) r) ≡ after (told (take_items front r)) item
next-from [] item (Ok s) = ap told (none-more (take_item s item))
next-from (x ∷ front) item (Ok s) = next-from front item (take_item s x)
next-from front item (Err e) = refl

pub next-item : (front : List Item) (item : Item) → told (take_items (front ++ item ∷ []) (Ok nothing)) ≡ after (told (take_items front (Ok nothing))) item
next-item front item = next-from front item (Ok nothing)

pub whole-image : (items : List Item) → image_in_status (told (take_items items (Ok nothing))) ≡ told (meaning items)
whole-image items = by (take_items items (Ok nothing))
  where
    by : (r : Result Loading Meaningless) → image_in_status (told r) ≡ told (image_in r)
    by (Ok s) = refl
    by (Err e) = refl
