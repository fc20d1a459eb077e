-- What the answers of the calls on objects mean.
use Rattle.std.specs.Prelude.{◌≡◌, ◌≢◌, ℕ, suc, ◌+◌, Bool, List, length, Option, Some, None, Result, Ok, Err}
use Rattle.mx_word.specs.declared.symbols.Symbol.{Symbol}
use Rattle.mx_mmo.specs.Faults as objects
use Rattle.mx_mmo.specs.Image.{Image}
use Rattle.mx_mmo.specs.Meaning.{Loading, take_item}
use Rattle.mx_mmo.specs.Replies.{ReaderModel}
use Rattle.mx_mmo.specs.declared.faults.MmoFault.{MmoFault}
use Rattle.mx_mmo.specs.declared.items.Item.{Item}
use Rattle.mx_stab.specs.Faults as tries
use Rattle.mx_stab.specs.declared.faults.StabFault.{StabFault}
use Rattle.mx_load.specs.Kept.{Kept, image_of}
use Rattle.mx_load.specs.Faults as loads
use Rattle.mx_load.specs.Status.{loading_of}
use Rattle.mx_load.specs.Objects.{Loaded, items_loaded, taken}
use Rattle.mx_load.specs.declared.progress.Progress.{Progress}
use Rattle.mx_load.specs.declared.fault.LoadFault.{LoadFault}
use Rattle.mx_load.specs.declared.fault.LoadFault.TheVariants.{PagesFull, BadPlace, NoFile, OutOfMemory as NoRoom}
use Rattle.mx_load.specs.declared.objects.ObjectFault.{ObjectFault}
use Rattle.mx_load.specs.declared.objects.ObjectFault.TheVariants.{Bad, OutOfMemory}

-- the byte place and the number of a fault
abbrev pub place_and_number : ObjectFault → ℕ × ℕ
place_and_number (Bad place fault) = (place, fault)
place_and_number OutOfMemory = (0, 0)

-- the image and the symbols of an object, or its fault
abbrev pub loaded_in : Result Kept ObjectFault → Result (Image × List Symbol) (ℕ × ℕ)
loaded_in (Ok image) = Ok (image_of image, image.symbols)
loaded_in (Err fault) = Err (place_and_number fault)

-- the symbols of a trie, or its fault
abbrev pub symbols_in : Result (List Symbol) ObjectFault → Result (List Symbol) (ℕ × ℕ)
symbols_in (Ok symbols) = Ok symbols
symbols_in (Err fault) = Err (place_and_number fault)

-- the fault of bytes that cannot be read; out of memory has no place
abbrev pub bad_at : Option ℕ → ℕ → ObjectFault
bad_at None number = OutOfMemory
bad_at (Some place) number = Bad place number

abbrev pub unread : MmoFault → ObjectFault
unread fault = bad_at (objects.place_of fault) (objects.number_of fault)

-- the fault of a trie that is at a place
abbrev pub bad_after : ℕ → Option ℕ → ℕ → ObjectFault
bad_after place None number = OutOfMemory
bad_after place (Some at) number = Bad (place + at) number

abbrev pub unread_trie : ℕ → StabFault → ObjectFault
unread_trie place fault = bad_after place (tries.place_of fault) (tries.number_of fault)

-- the fault of an item that cannot be loaded
abbrev pub unloaded : ℕ → LoadFault → ObjectFault
unloaded place PagesFull = Bad place (loads.number_of PagesFull)
unloaded place BadPlace = Bad place (loads.number_of BadPlace)
unloaded place NoFile = Bad place (loads.number_of NoFile)
unloaded place NoRoom = OutOfMemory

-- what loading comes to with fewer than this many of the items that a reader still gives
abbrev pub loaded_from : ℕ → Progress → ReaderModel → Loaded
loaded_from n progress reader = items_loaded n (loading_of progress) reader.phase reader.at reader.rest

-- loading comes to this, whatever number of items is left to it
abbrev pub LoadsTo : Progress → ReaderModel → Loaded → Type 0
LoadsTo progress reader whole = (n : ℕ) → loaded_from (suc n) progress reader ≡ whole

-- loading comes to what it comes to from there with one item less
abbrev pub LoadsOn : Progress → Progress → ReaderModel → ReaderModel → Type 0
LoadsOn old new before after = (n : ℕ) → loaded_from (suc n) old before ≡ loaded_from n new after

-- what all items come to that a reader still gives
abbrev pub all_loaded : Progress → ReaderModel → Loaded
all_loaded progress reader = loaded_from (length reader.rest + 1) progress reader

-- the status after an item that was taken, or the fault that was answered
abbrev pub item_answer : Result Bool ObjectFault → Loading → Result Loading (ℕ × ℕ)
item_answer (Ok more) s = Ok s
item_answer (Err fault) s = Err (place_and_number fault)

-- unless there was no memory, the item at this place was loaded, or its fault is told
abbrev pub LoadsItem : Result Bool ObjectFault → Progress → Progress → ℕ → Item → Type 0
LoadsItem result old new place item =
    result ≢ Err OutOfMemory → item_answer result (loading_of new) ≡ taken place (take_item (loading_of old) item)

-- what follows an item, of a reader after it
abbrev pub loaded_after : ℕ → ReaderModel → Result Loading (ℕ × ℕ) → Loaded
loaded_after n reader (Ok s) = items_loaded n s reader.phase reader.at reader.rest
loaded_after n reader (Err fault) = Err fault
