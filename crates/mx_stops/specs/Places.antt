-- Places that have values in a state, and which of two states have other values there.
use Rattle.std.specs.Prelude.{ℕ, ◌+◌, ◌-◌, ◌^◌, ◌||◌, ◌&&◌, ◌==◌, not, Bool, if◌then◌else◌, nat_le, nat_lt}
use Rattle.mx_ring.specs.Stack.{hidden_count, local_count, register}
use Rattle.mx_core.specs.State.{State, global_start, octa, special_register}
use Rattle.mx_stops.specs.declared.places.Place.{Place}
use Rattle.mx_stops.specs.declared.places.Place.TheVariants.{Register, Stacked, Octa, Special}
use Rattle.mx_stops.specs.declared.places.Seen.{Seen}

-- ---- places

-- how many registers are hidden
abbrev pub depth : State → ℕ
depth s = hidden_count s.stack

-- THE REGISTER STACK. Its registers are the hidden ones, the oldest first, and then the local ones. So the local register $k has the
-- place with the number of those that are hidden, and k more. It keeps this place while calls hide it and their returns bring it back,
-- and an argument of a call keeps it, too: it has another number in the call, but it is the same register.

-- what the register at a place of the register stack has, if it is local; else 0, as a marginal one has
abbrev pub stacked_value : ℕ → State → ℕ
stacked_value at s =
    if nat_le (depth s) at && nat_lt (at - depth s) (local_count s.stack) then register s.stack (at - depth s) else 0

-- what is at a place: in the register that the program sees under a number, in the register at a place of the register stack, in the
-- octa that holds an address, which is 0 where there is no memory, or in a special register, if there is one of that code
abbrev pub value_at : Place → State → ℕ
value_at (Register k) s = register s.stack k
value_at (Stacked at number) s = stacked_value at s
value_at (Octa a) s = if nat_lt a (2 ^ 63) then octa s a else 0
value_at (Special code) s = if nat_lt code 32 then special_register s code else 0

-- The place by which a register is followed from a state on: one that is not global at its place of the register stack, since its number
-- is another register's in each call. A global register keeps its number.
unfoldable pub followed : State → Place → Place
followed s (Register k) = if nat_lt k (global_start s) then Stacked (depth s + k) k else Register k
followed s (Stacked at number) = Stacked at number
followed s (Octa a) = Octa a
followed s (Special code) = Special code

-- ---- changes

-- what is seen of a place in a state: how many registers are hidden, and the value
unfoldable pub seen : Place → State → Seen
seen place s = record { depth = depth s; value = value_at place s }

abbrev pub differs : Seen → Seen → Bool
differs before after = not (before.value == after.value)

-- whether the register at a place of the register stack is hidden
abbrev pub is_hidden_at : ℕ → Seen → Bool
is_hidden_at at x = nat_lt at x.depth

-- whether a turn is a return whose result has this place. A call hides the registers below $X and the place of $X, which is the last one
-- that is hidden; the return brings those registers back, and its result is what is at the place of $X then.
abbrev pub returns_to : ℕ → Seen → Seen → Bool
returns_to at before after = nat_lt after.depth before.depth && at == before.depth - 1

-- Whether a turn changes the register at a place of the register stack. One that is hidden before the turn or after it keeps its value,
-- unless a return gives its result there. Any other one is changed where it has another value. (A program that stores to the memory of
-- hidden registers changes octas, which are followed by their addresses.)
abbrev pub changes_stacked : ℕ → Seen → Seen → Bool
changes_stacked at before after =
    if is_hidden_at at before || is_hidden_at at after then returns_to at before after else differs before after

-- whether what is seen of a place before and after a turn is a change
unfoldable pub is_change : Place → Seen → Seen → Bool
is_change (Stacked at number) before after = changes_stacked at before after
is_change (Register k) before after = differs before after
is_change (Octa a) before after = differs before after
is_change (Special code) before after = differs before after
