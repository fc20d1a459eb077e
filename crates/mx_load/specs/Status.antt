-- What there is after the items that a loader took.
use Rattle.std.specs.Prelude.{◌≡◌, ◌≢◌, List, Option, Some, None, Result, Ok, Err}
use Rattle.std.specs.Ordering.{nat_cmp}
use Rattle.std.specs.BTreeSet.{contains}
use Rattle.mx_mmo.specs.Image.{Image}
use Rattle.mx_mmo.specs.Meaning.{Loading, Meaningless, nothing, take_item, take_items}
use Rattle.mx_mmo.specs.declared.items.Item.{Item}
use Rattle.mx_load.specs.Faults.{given, told}
use Rattle.mx_load.specs.Kept.{image_of}
use Rattle.mx_load.specs.declared.fault.LoadFault.{LoadFault}
use Rattle.mx_load.specs.declared.fault.LoadFault.TheVariants.{OutOfMemory}
use Rattle.mx_load.specs.declared.progress.Progress.{Progress}

-- what the parts of a loader mean
abbrev pub loading_of : Progress → Loading
loading_of p = record {
  image = image_of p.image;
  lambda = p.lambda;
  line = p.line;
  selected = p.selected;
  named = contains nat_cmp p.named;
}

-- Unless there was no memory, what there is now, or the fault, is what `next` gives for what there was before.
abbrev pub GoesOn : Result (Unit {0}) LoadFault → Progress → Progress → (Loading → Result Loading Meaningless) → Type 0
GoesOn result old new next = result ≢ Err OutOfMemory → given result (loading_of new) ≡ told (next (loading_of old))

-- a loader: how far it has come, and the fault that it answered; contracts speak of it through `status` alone
pub record Held : Type 0 where
  pub progress : Progress
  pub fault : Option LoadFault

-- a value, unless there was a fault
abbrev pub unless : {A : Type 0} → Option LoadFault → A → Result A LoadFault
unless None x = Ok x
unless (Some fault) x = Err fault

-- what there is after the items that were taken, or the fault that was answered
unfoldable pub status : Held → Result Loading LoadFault
status h = unless h.fault (loading_of h.progress)

-- the status after one item more; a fault stays
abbrev pub after : Result Loading LoadFault → Item → Result Loading LoadFault
after (Ok s) item = told (take_item s item)
after (Err fault) item = Err fault

-- whether it goes on
abbrev pub answer : Result Loading LoadFault → Result (Unit {0}) LoadFault
answer (Ok s) = Ok tt
answer (Err fault) = Err fault

-- the image in a status
abbrev pub image_in : Result Loading LoadFault → Result Image LoadFault
image_in (Ok s) = Ok s.image
image_in (Err fault) = Err fault

-- what items are loaded as
abbrev pub items_loaded : List Item → Result Loading LoadFault
items_loaded items = told (take_items items (Ok nothing))
