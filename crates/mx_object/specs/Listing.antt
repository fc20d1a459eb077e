-- What is listed of an object: the tetras that it loads, in the order of their addresses, and its symbols. A tetra is that of the
-- image once all items were taken, so what was loaded, joined with all fixes.
use Rattle.std.specs.Prelude.{ℕ, ◌^◌, ◌==◌, ◌&&◌, Bool, false, nat_lt, List, [], ◌∷◌, map, Option, None, Some, Result, Ok, Err, if◌then◌else◌}
use Rattle.mx_word.specs.declared.symbols.Symbol.{Symbol}
use Rattle.mx_mem.specs.Memory.{tetra_of}
use Rattle.mx_mmo.specs.Image.{Image}
use Rattle.mx_load.specs.Answers.{place_and_number}
use Rattle.mx_load.specs.Objects.{object_loaded}
use Rattle.mx_load.specs.declared.objects.ObjectFault.{ObjectFault}
use Rattle.mx_load.specs.declared.objects.ObjectFault.TheVariants.{OutOfMemory}
use Rattle.mx_text.specs.Instructions.{instruction_text}
use Rattle.mx_type.specs.Lines.{tetra_address}
use Rattle.mx_object.specs.Addresses.{addresses_of, has, items_in}
use Rattle.mx_object.specs.Labels.{labels_at, nearest}
use Rattle.mx_object.specs.declared.tetras.FoundTetra.{FoundTetra}
use Rattle.mx_object.specs.declared.tetras.ListedTetra.{ListedTetra}
use Rattle.mx_object.specs.declared.view.ListedObject.{ListedObject}

-- ---- a tetra

-- the tetra that an image has at an address; it has none at 2^63 or above, where no object loads anything
abbrev pub tetra_in : Image → ℕ → ℕ
tetra_in m a = if nat_lt a (2 ^ 63) then tetra_of (m.memory a) a else 0

-- a line of a source, if it is known
abbrev pub known_line : ℕ → Option ℕ
known_line line = if line == 0 then None else Some line

-- the tetra at an address, with its instruction, its labels and its line
abbrev pub listed_at : Image → List Symbol → ℕ → ListedTetra
listed_at m symbols a = record {
  address = a;
  tetra = tetra_in m a;
  text = instruction_text (tetra_in m a) a;
  line = known_line (m.line_of a);
  labels = labels_at a symbols;
}

abbrev pub tetras_at : Image → List Symbol → List ℕ → List ListedTetra
tetras_at m symbols addresses = map (listed_at m symbols) addresses

-- ---- an object

abbrev pub listed_of : Image → List Symbol → List ℕ → ListedObject
listed_of m symbols bytes = record { tetras = tetras_at m symbols (addresses_of (items_in bytes)); symbols = symbols }

-- what is listed of the object that bytes are, unless it is refused
abbrev pub listed_if : List ℕ → Result (Image × List Symbol) (ℕ × ℕ) → Result ListedObject (ℕ × ℕ)
listed_if bytes (Ok (m, symbols)) = Ok (listed_of m symbols bytes)
listed_if bytes (Err fault) = Err fault

abbrev pub object_listed : List ℕ → Result ListedObject (ℕ × ℕ)
object_listed bytes = listed_if bytes (object_loaded bytes)

-- ---- the tetra that holds an address

abbrev pub found_in : Image → List Symbol → ℕ → FoundTetra
found_in m symbols a = record { tetra = listed_at m symbols (tetra_address a); place = nearest a symbols }

abbrev pub found_of : Image → List Symbol → List ℕ → ℕ → Option FoundTetra
found_of m symbols bytes a =
    if has (addresses_of (items_in bytes)) (tetra_address a) then Some (found_in m symbols a) else None

abbrev pub found_if : List ℕ → ℕ → Result (Image × List Symbol) (ℕ × ℕ) → Result (Option FoundTetra) (ℕ × ℕ)
found_if bytes a (Ok (m, symbols)) = Ok (found_of m symbols bytes a)
found_if bytes a (Err fault) = Err fault

abbrev pub object_found : List ℕ → ℕ → Result (Option FoundTetra) (ℕ × ℕ)
object_found bytes a = found_if bytes a (object_loaded bytes)

-- ---- answers

-- an answer on an object, or the byte place and the number of its fault
abbrev pub answer_in : {A : Type 0} → Result A ObjectFault → Result A (ℕ × ℕ)
answer_in (Ok x) = Ok x
answer_in (Err fault) = Err (place_and_number fault)

-- ---- objects and sources

-- whether bytes begin with the lopcode `lop_pre` of version 1, as each object does; a source is a text, which does not
abbrev pub begins_as_object : List ℕ → Bool
begins_as_object (a ∷ b ∷ c ∷ more) = a == 0x98 && b == 9 && c == 1
begins_as_object bytes = false
