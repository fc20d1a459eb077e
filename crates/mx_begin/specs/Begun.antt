-- Of what a machine begins: the image of a source or of an object, and the machine that starts with it and the arguments.
use Rattle.std.specs.Prelude.{◌≡◌, ◌≢◌, ℕ, ◌*◌, ◌/◌, List, Option, None, Some, Result, Ok, Err}
use Rattle.mx_mmo.specs.Image.{Image}
use Rattle.mx_load.specs.Objects.{object_loaded}
use Rattle.mx_core.specs.Bounds.{as_list_state}
use Rattle.mx_core.specs.Kept.{Kept, state_of}
use Rattle.mx_core.specs.State.{State}
use Rattle.mx_word.specs.Results.{map_ok}
use Rattle.mx_ring.specs.RegisterList.{list_at_start}
use Rattle.mx_ring.specs.Stack.{Stack, listed, windowed}
use Rattle.mx_ring.specs.Window.{window_at_start}
use Rattle.mx_run.specs.WildRuns.{MachineKind, window_machine, list_machine}
use Rattle.mx_start.specs.Start.{start}
use Rattle.mx_word.specs.declared.symbols.Symbol.{Symbol}
use Rattle.mx_files.specs.Assembling.{refused_with}
use Rattle.mx_files.specs.Source.{source_pieces, object_pieces}
use Rattle.mx_files.specs.Sources.{source_meaning}
use Rattle.mx_files.specs.declared.refusal.Refusal.{Refusal}
use Rattle.mx_outcome.specs.declared.outcome.Outcome.{Outcome}
use Rattle.mx_outcome.specs.declared.outcome.Outcome.TheVariants.{BadObject, OutOfMemory, Stopped}
use Rattle.mx_begin.specs.declared.images.Form.{Form}
use Rattle.mx_begin.specs.declared.images.Form.TheVariants.{Source, Object}

-- ---- an image

-- a source is refused, or means an image
abbrev pub assembled : Result Image Refusal → Result Image Outcome
assembled (Err refusal) = Err (refused_with refusal)
assembled (Ok image) = Ok image

-- an object is refused, or sets up an image
abbrev pub loaded : Result (Image × List Symbol) (ℕ × ℕ) → Result Image Outcome
loaded (Err (place, fault)) = Err (BadObject place fault)
loaded (Ok (image, symbols)) = Ok image

abbrev pub image_in : Form → List ℕ → Result Image Outcome
image_in Source bytes = assembled (source_meaning bytes)
image_in Object bytes = loaded (object_loaded bytes)

-- a file is read in at most this many pieces
abbrev pub most_pieces : Form → ℕ
most_pieces Source = source_pieces
most_pieces Object = object_pieces

-- ---- a machine at its start

-- the register stack at the start: a ring of this many registers, or a list
abbrev pub stack_at_start : MachineKind → ℕ → Stack
stack_at_start window_machine ring = windowed (window_at_start ring)
stack_at_start list_machine ring = listed list_at_start

-- a machine over the list
abbrev pub list_state_of : Kept → State
list_state_of machine = as_list_state (state_of machine)

-- unless there was no memory, the machine that starts, seen so, or the outcome, is this
abbrev pub StartsAs : Result Kept Outcome → (Kept → State) → Result State Outcome → Type 0
StartsAs result seen answer = result ≢ Err OutOfMemory → map_ok seen result ≡ answer

-- where a program begins
abbrev pub main_address : Image → ℕ
main_address image = image.global 255 / 4 * 4

-- a machine that starts with its program at this address, or the stop of one whose pages are full
abbrev pub pages_full : ℕ
pages_full = 118

abbrev pub begun_at : ℕ → Option State → Result State Outcome
begun_at pc None = Err (Stopped pc pages_full)
begun_at pc (Some s) = Ok s

-- the machine of an image with these arguments, at its start
abbrev pub started : MachineKind → ℕ → Image → List (List ℕ) → Result State Outcome
started kind ring image arguments = begun_at (main_address image) (start image arguments (stack_at_start kind ring))
