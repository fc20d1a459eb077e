-- What the slots of the real host lead to, and the bytes and the place after one.
use Rattle.std.specs.Prelude.{◌≡◌, ℕ, ℤ, IfSome, Bool, false, true, not, List, Option, None, Result, Ok, Err}
use Rattle.mx_host.specs.HostAnswer.{place_sought}
use Rattle.mx_host.specs.HostModel.{is_read_only, is_write_only}
use Rattle.mx_host.specs.declared.slots.Slot.{Slot}
use Rattle.mx_host.specs.declared.slots.Slot.TheVariants.{Closed, Open}
use Rattle.mx_host.specs.declared.slots.Lead.TheVariants.{Input, Output, Errors, File}
use Rattle.mx_real.specs.declared.streams.Stream.{Stream}
use Rattle.mx_real.specs.declared.streams.Stream.TheVariants as streams

-- how many bytes were moved; where a call failed, those before
abbrev pub moved : Result ℕ ℕ → ℕ
moved (Ok n) = n
moved (Err n) = n

-- The bytes that are left where a stream reads: those of standard input, or of its file.
abbrev pub remaining_of : {I F : Type 0} → (I → Option (List ℕ)) → (F → Option (List ℕ)) → I → Stream F → Option (List ℕ)
remaining_of of_input of_file input streams.Input = of_input input
remaining_of of_input of_file input (streams.File file mode) = of_file file
remaining_of of_input of_file input streams.Closed = None
remaining_of of_input of_file input streams.Output = None
remaining_of of_input of_file input streams.Errors = None

-- The bytes where a stream writes: on standard output, on standard error, or in its file.
abbrev pub contents_of : {O E F : Type 0} → (O → Option (List ℕ)) → (E → Option (List ℕ)) → (F → Option (List ℕ)) → O → E → Stream F → Option (List ℕ)
contents_of of_output of_errors of_file output errors streams.Output = of_output output
contents_of of_output of_errors of_file output errors streams.Errors = of_errors errors
contents_of of_output of_errors of_file output errors (streams.File file mode) = of_file file
contents_of of_output of_errors of_file output errors streams.Closed = None
contents_of of_output of_errors of_file output errors streams.Input = None

-- the place in the file of a stream
abbrev pub position_of : {F : Type 0} → (F → Option ℕ) → Stream F → Option ℕ
position_of of_file (streams.File file mode) = of_file file
position_of of_file _ = None

-- A known place moved to the one that is sought in a file of some length.
abbrev pub IsSought : Option ℕ → Option ℕ → ℤ → Type 0
IsSought old new to = IfSome old (λ _. (len : ℕ) × (new ≡ place_sought len to))

-- whether a stream may be read
abbrev pub is_readable : {F : Type 0} → Stream F → Bool
is_readable streams.Input = true
is_readable (streams.File file mode) = not (is_write_only mode)
is_readable streams.Closed = false
is_readable streams.Output = false
is_readable streams.Errors = false

-- whether a stream may be written
abbrev pub is_writable : {F : Type 0} → Stream F → Bool
is_writable streams.Output = true
is_writable streams.Errors = true
is_writable (streams.File file mode) = not (is_read_only mode)
is_writable streams.Closed = false
is_writable streams.Input = false

-- The stream that a slot of the model at the start leads to; none of them leads to a file.
abbrev pub stream_of : {F : Type 0} → Slot → Stream F
stream_of Closed = streams.Closed
stream_of (Open Input mode place) = streams.Input
stream_of (Open Output mode place) = streams.Output
stream_of (Open Errors mode place) = streams.Errors
stream_of (Open (File at) mode place) = streams.Closed
