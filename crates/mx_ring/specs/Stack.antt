-- The register stack, as a list or as a window. One definition of each operation and each refusal serves both: they
-- differ in where the hidden octas lie.
-- (MMIXware, the part on MMIX, "The register stack"; TAOCP 1, Fascicle 1, section 1.4.1'.)
use Rattle.std.specs.Prelude.{ℕ, ◌+◌, ◌-◌, ◌*◌, ◌/◌, ◌%◌, ◌^◌, ◌||◌, ◌&&◌, Bool, not, max, nat_lt, nat_le, if◌then◌else◌, List, [], ◌∷◌, ◌++◌, length, take, drop, slice_index}
use Rattle.mx_ring.specs.Frames.{frame_length, frame, frame_bottom, is_bad_frame, frame_specials, frame_registers}
use Rattle.mx_registers.specs.HiddenPart.{octas_of, with_hidden, with_spilled, with_room, with_first, with_stack_first, with_octa}
use Rattle.mx_ring.specs.RegisterList.{RegisterList}
use Rattle.mx_registers.specs.Registers.{Registers, is_marginal, value_of, with_value, with_locals_cut, with_globals_from, push_number, registers_below, registers_from, with_returned}
use Rattle.mx_ring.specs.Window.{Window, as_list}
use Rattle.mx_ring.specs.declared.saved.Saved.{Saved}

pub data Stack : Type 0 where
  listed : RegisterList → Stack
  windowed : Window → Stack

-- PARTS

-- the registers that an instruction sees
abbrev pub visible : Stack → Registers
visible (listed r) = r.visible
visible (windowed w) = w.visible

-- the hidden octas, the oldest first
abbrev pub hidden_octas : Stack → List ℕ
hidden_octas (listed r) = r.hidden
hidden_octas (windowed w) = octas_of w.hidden

abbrev pub hidden_count : Stack → ℕ
hidden_count s = length (hidden_octas s)

abbrev pub local_count : Stack → ℕ
local_count s = length (visible s).locals

-- how many hidden octas lie in the stack area; a list has none
abbrev pub spilled_count : Stack → ℕ
spilled_count (listed r) = 0
spilled_count (windowed w) = w.hidden.spilled

-- the list that a window represents, as a stack
abbrev pub list_of : Window → Stack
list_of w = listed (as_list w)

-- the stack as a list
abbrev pub as_listed : Stack → Stack
as_listed (listed r) = listed r
as_listed (windowed w) = list_of w

-- WHAT AN OPERATION CHANGES

-- the registers that an instruction sees become these
abbrev pub with_visible : Stack → Registers → Stack
with_visible (listed r) v = listed (record r { visible = v })
with_visible (windowed w) v = windowed (record w { visible = v })

-- octas are hidden, and the registers become these
abbrev pub with_more : Stack → List ℕ → Registers → Stack
with_more (listed r) octas v = listed (record { hidden = r.hidden ++ octas; visible = v })
with_more (windowed w) octas v = windowed (record w { hidden = with_hidden w.hidden octas; visible = v })

-- only the first n octas stay hidden, and the registers become these
abbrev pub with_fewer : Stack → ℕ → Registers → Stack
with_fewer (listed r) n v = listed (record { hidden = take n r.hidden; visible = v })
with_fewer (windowed w) n v = windowed (record w { hidden = with_first w.hidden n; visible = v })

-- after a growth a window spills
abbrev pub after_growth : Stack → Stack
after_growth (listed r) = listed r
after_growth (windowed w) = windowed (record w { hidden = with_room w.hidden (length w.visible.locals) w.size })

-- all octas of the ring go to the stack area
abbrev pub all_in_memory : Stack → Stack
all_in_memory (listed r) = listed r
all_in_memory (windowed w) = windowed (record w { hidden = with_spilled w.hidden (length w.hidden.resident) })

-- ROOM

-- whether n registers, hidden or local, are more than there is room for
abbrev pub is_too_many : ℕ → Bool
is_too_many n = nat_lt (2 ^ 20) n

-- GET AND SET

-- what $k has
unfoldable pub register : Stack → ℕ → ℕ
register s k = value_of (visible s) k

-- whether a value for $k is refused: $k would become local, and there is no room
unfoldable pub set_overfills : Stack → ℕ → Bool
set_overfills s k = is_marginal (visible s) k && is_too_many (hidden_count s + (k + 1))

-- $k is given a value; a marginal register becomes local
unfoldable pub with_register : Stack → ℕ → ℕ → Stack
with_register s k x =
    if is_marginal (visible s) k then after_growth (with_visible s (with_value (visible s) k x))
    else with_visible s (with_value (visible s) k x)

-- PUT TO rL AND rG

-- L falls to l
unfoldable pub cut_to : Stack → ℕ → Stack
cut_to s l = with_visible s (with_locals_cut (visible s) l)

-- G becomes g
unfoldable pub with_global_start : Stack → ℕ → Stack
with_global_start s g = with_visible s (with_globals_from (visible s) g)

-- PUSHJ AND PUSHGO

-- whether PUSH X,YZ is refused: with n the number that it hides, n + 1 octas join the hidden ones, and the locals
-- above $n stay
unfoldable pub push_overfills : Stack → ℕ → Bool
push_overfills s x = is_too_many (hidden_count s + max (push_number (visible s) x + 1) (local_count s))

-- the octas that PUSH hides, with n the number: the first n registers and n
abbrev pub pushed_octas : Registers → ℕ → List ℕ
pushed_octas v n = registers_below v n ++ n ∷ []

-- they are hidden; $n is gone, and the locals above it become $0 and so on
abbrev pub with_pushed : Stack → ℕ → Stack
with_pushed s n = after_growth (with_more s (pushed_octas (visible s) n) (registers_from (visible s) (n + 1)))

unfoldable pub pushed : Stack → ℕ → Stack
pushed s x = with_pushed s (push_number (visible s) x)

-- POP

-- the hole: the low byte of the last hidden octa, which tells how many octas below it are locals
abbrev pub hole_in : List ℕ → ℕ
hole_in octas = slice_index octas (length octas - 1) % 256

-- whether POP is refused: nothing is hidden, or too little
unfoldable pub pop_underflows : Stack → Bool
pop_underflows s = nat_le (hidden_count s) (hole_in (hidden_octas s))

-- where POP leaves k + 1 octas less hidden, those of them that come back: all but the last
abbrev pub popped_octas : List ℕ → ℕ → List ℕ
popped_octas octas k = take k (drop (length octas - (k + 1)) octas)

-- they are $0 to $(k-1) again, and the results follow
abbrev pub with_popped : Stack → ℕ → ℕ → Stack
with_popped s k x =
    with_fewer s (hidden_count s - (k + 1)) (with_returned (visible s) (popped_octas (hidden_octas s) k) x)

unfoldable pub popped : Stack → ℕ → Stack
popped s x = with_popped s (hole_in (hidden_octas s)) x

-- THE STACK AREA, which begins at Stack_Segment and has 2^20 octas

-- the address of its n-th octa
abbrev pub stack_address : ℕ → ℕ
stack_address n = 0x6000_0000_0000_0000 + 8 * n

-- whether an address lies in it, and the index of the octa there
abbrev pub in_stack_area : ℕ → Bool
in_stack_area a = nat_le (stack_address 0) a && nat_lt a (stack_address (2 ^ 20))

abbrev pub stack_index : ℕ → ℕ
stack_index a = (a - stack_address 0) / 8

-- its octa at an index; a list has no stack area, and 0 is there
unfoldable pub stack_octa : Stack → ℕ → ℕ
stack_octa (listed r) i = 0
stack_octa (windowed w) i = slice_index w.hidden.stack i

unfoldable pub with_stack_octa : Stack → ℕ → ℕ → Stack
with_stack_octa (listed r) i x = listed r
with_stack_octa (windowed w) i x = windowed (record w { hidden = with_octa w.hidden i x })

-- SAVE

-- whether SAVE is refused
unfoldable pub save_overfills : Stack → Bool
save_overfills s = is_too_many (hidden_count s + frame_length (visible s).first_global (local_count s))

-- the index of the last octa of a frame that is hidden
abbrev pub frame_top : Stack → ℕ
frame_top s = hidden_count s + frame_length (visible s).first_global (local_count s) - 1

-- SAVE: no register is local, and the global $X becomes the address of the frame's last octa
abbrev pub saved_registers : Stack → ℕ → Registers
saved_registers s x = with_value (with_locals_cut (visible s) 0) x (stack_address (frame_top s))

-- the frame is hidden, and lies in memory with all that was hidden before
unfoldable pub saved : Stack → ℕ → Saved → Stack
saved s x specials = all_in_memory (with_more s (frame (visible s) specials) (saved_registers s x))

-- UNSAVE

-- the octas that it reads, up to the one at index i: the hidden ones of a list, the stack area of a window
abbrev pub octas_to : Stack → ℕ → List ℕ
octas_to (listed r) i = take (i + 1) r.hidden
octas_to (windowed w) i = take (i + 1) w.hidden.stack

-- the first n of these octas are the hidden ones, and the registers become these
abbrev pub with_read_back : Stack → ℕ → Registers → Stack
with_read_back (listed r) n v = listed (record { hidden = take n r.hidden; visible = v })
with_read_back (windowed w) n v = windowed (record w { hidden = with_stack_first w.hidden n; visible = v })

-- whether UNSAVE at an address is refused
unfoldable pub unsave_refused : Stack → ℕ → Bool
unsave_refused s a = not (in_stack_area a) || is_bad_frame (octas_to s (stack_index a)) (stack_index a)

-- the special registers that it gives, and the stack that it leaves
unfoldable pub unsaved_specials : Stack → ℕ → Saved
unsaved_specials s i = frame_specials (octas_to s i) i

unfoldable pub unsaved : Stack → ℕ → Stack
unsaved s i = with_read_back s (frame_bottom (octas_to s i) i) (frame_registers (octas_to s i) i)
