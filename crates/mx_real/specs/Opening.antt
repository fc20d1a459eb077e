-- What the system is asked for where a file is opened, and what it gives.
use Rattle.std.specs.Prelude.{◌≡◌, false, true}
use Rattle.std.specs.Fd.{file_raw_fd}
use Rattle.std.specs.Fs.{new_options, with_read, with_write, with_create, with_truncate}
use Rattle.std.specs.declared.fs.File.{File}
use Rattle.std.specs.declared.fs.options.OpenOptions.{OpenOptions}
use Rattle.mx_host.specs.declared.slots.Mode.{Mode}
use Rattle.mx_host.specs.declared.slots.Mode.TheVariants.{TextRead, TextWrite, BinaryRead, BinaryWrite, BinaryReadWrite}
use Rattle.mx_real.specs.declared.streams.Stream.{Stream}
use Rattle.mx_real.specs.declared.streams.Stream.TheVariants as streams
use Rattle.mx_real.specs.Descriptors.{is_standard}

-- to read a file that is there
abbrev pub reading : OpenOptions
reading = with_read new_options true

-- these options, and to write the file, which is made or emptied
abbrev pub and_writing : OpenOptions → OpenOptions
and_writing options = with_truncate (with_create (with_write options true) true) true

-- what the system is asked for in each mode
abbrev pub options_of : Mode → OpenOptions
options_of TextRead = reading
options_of TextWrite = and_writing new_options
options_of BinaryRead = reading
options_of BinaryWrite = and_writing new_options
options_of BinaryReadWrite = and_writing reading

-- A stream is a file in this mode, whose descriptor is none of the standard streams'.
abbrev pub IsOpenedIn : Mode → Stream File → Type 0
IsOpenedIn mode (streams.File file its) = (its ≡ mode) × (is_standard (file_raw_fd file) ≡ false)
IsOpenedIn mode _ = ⊥
