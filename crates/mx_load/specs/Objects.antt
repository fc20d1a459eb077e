-- What is loaded of the object that bytes are, or its first fault.
-- (What objects mean: MMIXware, the part on MMIX-SIM, "Loading an object file". Which fault is the first: a rule of
-- this program.)
use Rattle.std.specs.Prelude.{◌≡◌, ℕ, zero, suc, ◌+◌, List, length, drop, Some, None, Result, Ok, Err, nat_lt, unwrap_or, if◌then◌else◌}
use Rattle.mx_mmo.specs.Image.{Image}
use Rattle.mx_mmo.specs.Meaning.{Loading, Meaningless, nothing, take_item, take_items}
use Rattle.mx_mmo.specs.Reading.{Due, first_item}
use Rattle.mx_mmo.specs.Replies.{limit, phase_after, tail_of}
use Rattle.mx_mmo.specs.Whole.{Left, walk}
use Rattle.mx_mmo.specs.Faults as objects
use Rattle.mx_mmo.specs.declared.items.Item.{Item}
use Rattle.mx_mmo.specs.declared.items.Tail.{Tail}
use Rattle.mx_mmo.specs.declared.faults.MmoFault.{MmoFault}
use Rattle.mx_mmo.specs.declared.faults.MmoFault.TheVariants.{TooLong}
use Rattle.mx_mmo.specs.declared.due.Phase.{Phase}
use Rattle.mx_mmo.specs.declared.due.Phase.TheVariants.{Start}
use Rattle.mx_stab.specs.Reading.{trie_answer}
use Rattle.mx_stab.specs.Faults as tries
use Rattle.mx_stab.specs.declared.faults.StabFault.{StabFault}
use Rattle.mx_word.specs.declared.symbols.Symbol.{Symbol}
use Rattle.mx_load.specs.Faults.{fault_of, number_of}

-- the byte place and the number of a fault of the format
abbrev pub fault_at : MmoFault → ℕ × ℕ
fault_at fault = (unwrap_or (objects.place_of fault) 0, objects.number_of fault)

-- what there is after an item that begins at a place, or the fault there
abbrev pub taken : ℕ → Result Loading Meaningless → Result Loading (ℕ × ℕ)
taken place (Ok s) = Ok s
taken place (Err e) = Err (place, number_of (fault_of e))

-- what there is once items were loaded, with what is left after them; or the place and the number of the first fault
abbrev pub Loaded : Type 0
Loaded = Result (Loading × Left) (ℕ × ℕ)

-- what follows an item of this many bytes
abbrev pub item_loaded : (Loading → Phase → ℕ → List ℕ → Loaded) → Phase → ℕ → List ℕ → Item → ℕ → Result Loading (ℕ × ℕ) → Loaded
item_loaded others phase at bytes item size (Err fault) = Err fault
item_loaded others phase at bytes item size (Ok s) = others s (phase_after item phase) (at + size) (drop size bytes)

-- the item that is first: its own fault, then that of its meaning, and then the items that follow, by `others`
abbrev pub first_loaded : (Loading → Phase → ℕ → List ℕ → Loaded) → Loading → Phase → ℕ → List ℕ → Due → Loaded
first_loaded others s phase at bytes (Ok None) = Ok (s, record { phase = phase; at = at; rest = bytes })
first_loaded others s phase at bytes (Ok (Some (item, size))) = item_loaded others phase at bytes item size (taken at (take_item s item))
first_loaded others s phase at bytes (Err fault) = Err (fault_at fault)

-- items of bytes from the left, fewer than this many; each takes a byte
unfoldable pub items_loaded : ℕ → Loading → Phase → ℕ → List ℕ → Loaded
items_loaded zero s phase at bytes = Ok (s, record { phase = phase; at = at; rest = bytes })
items_loaded (suc n) s phase at bytes = first_loaded (items_loaded n) s phase at bytes (first_item phase at bytes)

-- the symbols of a trie, or the place and the number of its fault; the bytes of the trie are counted from where it is in
-- the object
abbrev pub trie_read : ℕ → Result (List Symbol) StabFault → Result (List Symbol) (ℕ × ℕ)
trie_read place (Ok symbols) = Ok symbols
trie_read place (Err fault) = Err (place + unwrap_or (tries.place_of fault) 0, tries.number_of fault)

abbrev pub tail_read : Result Tail MmoFault → Result (List Symbol) (ℕ × ℕ)
tail_read (Ok tail) = trie_read tail.place (trie_answer tail.trie)
tail_read (Err fault) = Err (fault_at fault)

-- the image that items set up, with the symbols of the trie after them
abbrev pub with_symbols : Image → Result (List Symbol) (ℕ × ℕ) → Result (Image × List Symbol) (ℕ × ℕ)
with_symbols image (Ok symbols) = Ok (image, symbols)
with_symbols image (Err fault) = Err fault

-- what follows the items: what is wrong at the end, and then what is wrong in the trie
abbrev pub whole_loaded : Loaded → Result (Image × List Symbol) (ℕ × ℕ)
whole_loaded (Err fault) = Err fault
whole_loaded (Ok (s, left)) = with_symbols s.image (tail_read (tail_of left.phase left.at left.rest))

-- the image and the symbols of the object that bytes are, or the place and the number of their first fault: too many bytes;
-- then the items from the left, each with its own fault and then that of its meaning; then what is wrong at the end; then
-- the fault of the trie
abbrev pub object_loaded : List ℕ → Result (Image × List Symbol) (ℕ × ℕ)
object_loaded bytes =
    if nat_lt limit (length bytes) then Err (fault_at (TooLong limit))
    else whole_loaded (items_loaded (length bytes + 1) nothing Start 0 bytes)

-- the first item of bytes that means nothing, and why: this many items mean something, and one more does not, which begins
-- at the place where those end
pub record MeansNothing (bytes : List ℕ) (place : ℕ) (e : Meaningless) : Type 0 where
  pub count : ℕ
  pub before : Loading
  pub left : Left
  pub walked : (walk count Start 0 bytes).1 ≡ Ok left
  pub meant : take_items (walk count Start 0 bytes).0 (Ok nothing) ≡ Ok before
  pub next : take_items (walk (suc count) Start 0 bytes).0 (Ok nothing) ≡ Err e
  pub begins : place ≡ left.at
