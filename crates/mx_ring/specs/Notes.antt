-- Notes: what a work of the register stack overwrites, kept so that the stack before it can be told from the one after it.
use Rattle.std.specs.Prelude.{ℕ, ◌+◌, ◌-◌, ◌^◌, ◌≡◌, ◌≤◌, ◌<◌, nat_lt, if◌then◌else◌, Option, None, Some, Result, Ok, Err, List, [], length, take, drop, slice_index}
use Rattle.mx_registers.specs.Bounds.{AreInBounds}
use Rattle.mx_ring.specs.Bounds.{IsRing}
use Rattle.mx_ring.specs.Calls.{set_answer, push_answer, pop_answer, save_answer, unsave_answer}
use Rattle.mx_ring.specs.Frames.{frame_length}
use Rattle.mx_registers.specs.HiddenPart.{HiddenPart, octas_of, with_spilled, with_octa, put_back}
use Rattle.mx_registers.specs.Registers.{Registers, is_marginal, value_of, with_value, with_locals_cut, with_returned, push_number}
use Rattle.mx_ring.specs.Stack.{Stack, with_register, pushed, popped, hole_in, saved, unsaved, stack_index, cut_to, with_global_start, with_stack_octa}
use Rattle.mx_ring.specs.Window.{Window}
use Rattle.mx_registers.specs.declared.fault.RingFault.{RingFault}
use Rattle.mx_ring.specs.declared.notes.RingWork.{RingWork}
use Rattle.mx_ring.specs.declared.notes.RingWork.TheVariants.{Set, Push, Pop, Save, Unsave, CutLocals, SetGlobalStart, SetOcta}
use Rattle.mx_ring.specs.declared.saved.Saved.{Saved}

-- WORKS

-- what a call makes of the stack
unfoldable pub worked : RingWork → Stack → Stack
worked (Set k x) s = with_register s k x
worked (Push x) s = pushed s x
worked (Pop x) s = popped s x
worked (Save x specials) s = saved s x specials
worked (Unsave a) s = unsaved s (stack_index a)
worked (CutLocals l) s = cut_to s l
worked (SetGlobalStart g) s = with_global_start s g
worked (SetOcta i x) s = with_stack_octa s i x

-- what a call needs
unfoldable pub WorkNeeds : RingWork → Window → Type 0
WorkNeeds (Save x specials) w = (w.visible.first_global ≤ x) × (specials.a < 2 ^ 18)
WorkNeeds (CutLocals l) w = l ≤ length w.visible.locals
WorkNeeds (SetGlobalStart g) w = (32 ≤ g) × (length w.visible.locals ≤ g)
WorkNeeds (SetOcta i x) w = i < 2 ^ 20
WorkNeeds _ w = Unit {0}

-- what a call answers: the special registers of a frame, or nothing else
abbrev pub plain_answer : Result (Unit {0}) RingFault → Result (Option Saved) RingFault
plain_answer (Ok tt) = Ok None
plain_answer (Err fault) = Err fault

abbrev pub specials_answer : Result Saved RingFault → Result (Option Saved) RingFault
specials_answer (Ok specials) = Ok (Some specials)
specials_answer (Err fault) = Err fault

unfoldable pub work_answer : RingWork → Stack → Result (Option Saved) RingFault
work_answer (Set k x) s = plain_answer (set_answer s k)
work_answer (Push x) s = plain_answer (push_answer s x)
work_answer (Pop x) s = plain_answer (pop_answer s)
work_answer (Save x specials) s = plain_answer (save_answer s)
work_answer (Unsave a) s = specials_answer (unsave_answer s a)
work_answer _ s = Ok None

-- a call is not refused
abbrev pub IsGiven : Result (Option Saved) RingFault → Type 0
IsGiven (Ok specials) = Unit {0}
IsGiven (Err fault) = ⊥

-- NOTES

-- what registers were: L, and what $k and $255 had; or all of them; or the local ones
pub data RegistersWere : Type 0 where
  some : ℕ → ℕ → ℕ → ℕ → RegistersWere
  all : Registers → RegistersWere
  local : List ℕ → RegistersWere

pub record RingWas : Type 0 where
  -- the registers
  pub registers : RegistersWere
  -- how many octas were spilled
  pub spilled : ℕ
  -- the octas of the stack area after the spilled ones, as far as a spill may have replaced them
  pub over : List ℕ
  -- how many of the hidden octas in the ring are hidden still, and the others
  pub stays : ℕ
  pub gone : List ℕ
  -- an octa of the stack area that was overwritten: its index and what it was
  pub octa : Option (ℕ × ℕ)

-- BACK

-- $k is given a value, unless it is marginal
abbrev pub given_back : Registers → ℕ → ℕ → Registers
given_back v k x = if is_marginal v k then v else with_value v k x

-- the registers that were
abbrev pub registers_undone : RegistersWere → Registers → Registers
registers_undone (some l k x y) v = given_back (given_back (with_locals_cut v l) k x) 255 y
registers_undone (all r) v = r
registers_undone (local octas) v = with_returned v octas 0

-- the octa that was overwritten is back
abbrev pub octa_undone : Option (ℕ × ℕ) → HiddenPart → HiddenPart
octa_undone None h = h
octa_undone (Some o) h = with_octa h o.0 o.1

unfoldable pub hidden_undone : RingWas → HiddenPart → HiddenPart
hidden_undone n h = put_back (octa_undone n.octa h) n.spilled n.over n.stays n.gone

-- the window before, told by the note from the window after
unfoldable pub ring_undone : RingWas → Window → Window
ring_undone n w = record w { hidden = hidden_undone n w.hidden; visible = registers_undone n.registers w.visible }

-- WHAT A WORK NOTES

-- how many of this many octas and locals must leave a ring of a size
abbrev pub above_room : ℕ → ℕ → ℕ
above_room count size = if nat_lt count size then 0 else count + 1 - size

-- how many octas a work spills
abbrev pub push_spills : Window → ℕ → ℕ
push_spills w n = above_room (length w.hidden.resident + (n + 1) + (length w.visible.locals - (n + 1))) w.size

unfoldable pub spilled_by : RingWork → Window → ℕ
spilled_by (Set k x) w = if is_marginal w.visible k then above_room (length w.hidden.resident + (k + 1)) w.size else 0
spilled_by (Push x) w = push_spills w (push_number w.visible x)
spilled_by (Save x specials) w = length w.hidden.resident + frame_length w.visible.first_global (length w.visible.locals)
spilled_by _ w = 0

-- how many of the hidden octas in the ring are hidden still: POP takes the hole and one octa away, UNSAVE may take all
unfoldable pub staying : RingWork → Window → ℕ
staying (Pop x) w = length (octas_of w.hidden) - (hole_in (octas_of w.hidden) + 1) - w.hidden.spilled
staying (Unsave a) w = 0
staying _ w = length w.hidden.resident

unfoldable pub registers_noted : RingWork → Registers → RegistersWere
registers_noted (Set k x) v = some (length v.locals) k (value_of v k) (value_of v 255)
registers_noted (SetOcta i x) v = some (length v.locals) 255 (value_of v 255) (value_of v 255)
registers_noted _ v = all v

unfoldable pub octa_noted : RingWork → List ℕ → Option (ℕ × ℕ)
octa_noted (SetOcta i x) stack = Some (i, slice_index stack i)
octa_noted _ stack = None

unfoldable pub ring_noted : RingWork → Window → RingWas
ring_noted work w = record {
  registers = registers_noted work w.visible;
  spilled = w.hidden.spilled;
  over = take (spilled_by work w) (drop w.hidden.spilled w.hidden.stack);
  stays = staying work w;
  gone = drop (staying work w) w.hidden.resident;
  octa = octa_noted work w.hidden.stack;
}

-- what an octa of the stack area is, once this many of the hidden octas in the ring are spilled
abbrev pub octa_after_spill : HiddenPart → ℕ → ℕ → ℕ
octa_after_spill h n i = slice_index (with_spilled h n).stack i

-- where an octa of the stack area is overwritten, before or after $k is given a value: what the value overwrites, and the
-- octa as it is once what the value spills is there. It is put back first, so the spilled octas are all there to be read.
unfoldable pub ring_noted_stored : ℕ → ℕ → Window → RingWas
ring_noted_stored i k w = record (ring_noted (Set k 0) w) {
  octa = Some (i, octa_after_spill w.hidden (spilled_by (Set k 0) w) i);
}

-- a call that leaves so many of the hidden octas in the ring, spills none and changes local registers alone
abbrev pub called_with : ℕ → Window → RingWas
called_with stays w = record {
  registers = local w.visible.locals;
  spilled = w.hidden.spilled;
  over = [];
  stays = stays;
  gone = drop stays w.hidden.resident;
  octa = None;
}

unfoldable pub call_noted : RingWork → Window → RingWas
call_noted work w = called_with (staying work w) w

-- WHERE A NOTE FITS

abbrev pub LocalsFit : RegistersWere → Registers → Type 0
LocalsFit (some l k x y) v = l ≤ length v.locals
LocalsFit (all r) v = AreInBounds r
LocalsFit (local octas) v = Unit {0}

abbrev pub OctaFits : Option (ℕ × ℕ) → Type 0
OctaFits None = Unit {0}
OctaFits (Some o) = o.0 < 2 ^ 20

-- a note fits hidden octas: there is room for what it puts back
pub record FitsHidden (n : RingWas) (h : HiddenPart) : Type 0 where
  pub octa : OctaFits n.octa
  pub area : n.spilled + length n.over ≤ 2 ^ 20
  pub stays : n.stays ≤ 2 ^ 20
  pub order : h.spilled < n.spilled → n.stays ≡ 0
  pub room : length (octas_of (hidden_undone n h)) ≤ 2 ^ 20

-- a note fits a window, and what it makes of the window is a ring
pub record FitsRing (n : RingWas) (w : Window) : Type 0 where
  pub locals : LocalsFit n.registers w.visible
  pub hidden : FitsHidden n w.hidden
  pub ring : IsRing (ring_undone n w)

-- a note takes a window back to the one before
pub record TakesBack (n : RingWas) (after before : Window) : Type 0 where
  pub fits : FitsRing n after
  pub back : ring_undone n after ≡ before
