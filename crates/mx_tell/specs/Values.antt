-- What a thing has in a state of the machine.
use Rattle.std.specs.Prelude.{ℕ, nat_lt, if◌then◌else◌}
use Rattle.mx_book.specs.declared.things.Thing.{Thing}
use Rattle.mx_book.specs.declared.things.Thing.TheVariants as things
use Rattle.mx_core.specs.State.{State, special_register}
use Rattle.mx_ring.specs.Stack.{register}
use Rattle.mx_show.specs.Subjects.{octa_shown}

-- there are 32 special registers
abbrev pub special_value : State → ℕ → ℕ
special_value s code = if nat_lt code 32 then special_register s code else 0

abbrev pub value_of : State → Thing → ℕ
value_of s (things.Register k) = register s.stack k
value_of s (things.Special code) = special_value s code
value_of s (things.Octa a) = octa_shown s a
value_of s (things.Number x) = x
