-- What has a value: what a name or a written place means.
use Rattle.std.specs.Prelude.{ℕ, nat_lt, Option, None, Some, if◌then◌else◌}
use Rattle.mx_word.specs.declared.symbols.Value.{Value}
use Rattle.mx_word.specs.declared.symbols.Value.TheVariants.{Pure, Reg}
use Rattle.mx_cmd.specs.declared.command.Subject.{Subject}
use Rattle.mx_cmd.specs.declared.command.Subject.TheVariants as subjects
use Rattle.mx_book.specs.declared.things.Thing.{Thing}
use Rattle.mx_book.specs.declared.things.Thing.TheVariants as things

abbrev pub thing_with : Value → Thing
thing_with (Pure x) = things.Number x
thing_with (Reg k) = things.Register k

-- the register with this number, if it is one of the 256
abbrev pub register : Option ℕ → Option Thing
register None = None
register (Some k) = if nat_lt k 256 then Some (things.Register k) else None

abbrev pub special : Option ℕ → Option Thing
special None = None
special (Some code) = Some (things.Special code)

abbrev pub thing_of : Subject → Option Thing
thing_of (subjects.Register number) = register number
thing_of (subjects.Global number) = register number
thing_of (subjects.Special code) = special code
thing_of (subjects.Memory a) = Some (things.Octa a)
