-- Items are taken one by one.
use Rattle.std.proofs.Common.{◌≡◌, refl, sym, ◌∙◌, ap, ℕ, ◌+◌, ◌<◌, ◌≤◌, length, List, [], ◌∷◌, get_or, drop, Ok, Err, Result}
use Rattle.mx_load.proofs.Words.{AllByRecursion, Loading, Meaningless, nothing, take_item, take_items, Fits, Item, told, after, answer, LoadFault}
use Rattle.std.proofs.Math.ListN.{drop_of_length-le}
use Rattle.std.proofs.lemmas.List.{drop_more}
use Rattle.mx_mmo.specs.Meaning as spec
use Rattle.mx_load.specs.Status.{image_in}

-- what there is after items more
abbrev pub after_all : Result Loading LoadFault → List Item → Result Loading LoadFault
after_all r [] = r
after_all r (item ∷ items) = after_all (after r item) items

stays : (fault : LoadFault) (items : List Item) → after_all (Err fault) items ≡ Err fault
stays fault [] = refl
stays fault (item ∷ items) = stays fault items

step : (items : List Item) (r : Result Loading Meaningless) → told (take_items items r) ≡ after_all (told r) items
step [] (Ok s) = refl
step [] (Err e) = refl
step (item ∷ items) (Ok s) = step items (take_item s item)
step (item ∷ items) (Err e) = sym (stays _ items)

pub begins : (items : List Item) → told (take_items items (Ok nothing)) ≡ after_all (Ok nothing) items
begins items = step items (Ok nothing)

pub fits-more : (items : List Item) (i : ℕ) (d : Item) → i < length items → AllByRecursion Fits (drop i items) → AllByRecursion Fits (drop (i + 1) items)
fits-more items i d l h = (rw (drop_more items i d l) at h).1

-- the item at a place is in front of those after it
pub goes-on : (items : List Item) (i : ℕ) (item d : Item) (whole old new : Result Loading LoadFault) → i < length items → item ≡ get_or items i d →
    whole ≡ after_all old (drop i items) → new ≡ after old item → whole ≡ after_all new (drop (i + 1) items)
goes-on items i item d whole old new l e same h =
    same ∙ ap (after_all old) (drop_more items i d l ∙ ap (λ x. x ∷ drop (i + 1) items) (sym e)) ∙ ap (λ r. after_all r (drop (i + 1) items)) (sym h)

failed : (r : Result Loading LoadFault) (fault : LoadFault) → Err fault ≡ answer r → r ≡ Err fault
failed (Ok s) fault h = absurd (cc)
failed (Err other) fault h = cc

pub ends-failed : (items : List Item) (whole new : Result Loading LoadFault) (fault : LoadFault) → whole ≡ after_all new items → Err fault ≡ answer new → whole ≡ Err fault
ends-failed items whole new fault same h = same ∙ ap (λ r. after_all r items) (failed new fault h) ∙ stays fault items

pub image-told : (r : Result Loading Meaningless) → image_in (told r) ≡ told (spec.image_in r)
image-told (Ok s) = refl
image-told (Err e) = refl

pub ends-well : (items : List Item) (i : ℕ) (whole r : Result Loading LoadFault) → length items ≤ i → whole ≡ after_all r (drop i items) → whole ≡ r
ends-well items i whole r l same = same ∙ ap (after_all r) (drop_of_length-le items l)
