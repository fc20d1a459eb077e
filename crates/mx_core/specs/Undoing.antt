-- What a step overwrites, kept so that the state before it can be told from the one after it.
use Rattle.std.specs.Prelude.{ℕ, ◌-◌, ◌/◌, ◌%◌, ◌^◌, ◌≡◌, ◌<◌, ◌≤◌, Bool, true, false, not, if◌then◌else◌, List, Option, None, Some}
use Rattle.std.specs.Option.{unwrap_or}
use Rattle.mx_mem.specs.Dropping.{without_page, pages_without}
use Rattle.mx_mem.specs.Memory.{stored_at}
use Rattle.mx_ring.specs.Notes.{RingWas, FitsRing, ring_undone, ring_noted, ring_noted_stored}
use Rattle.mx_registers.specs.Registers.{is_marginal}
use Rattle.mx_ring.specs.Stack.{Stack, listed, windowed, visible, local_count, cut_to, in_stack_area, stack_index, stack_address}
use Rattle.mx_ring.specs.Window.{Window}
use Rattle.mx_ring.specs.declared.notes.RingWork.TheVariants as work
use Rattle.mx_code.specs.SpecialRegisters.{rH, rJ, rR}
use Rattle.mx_core.specs.Deeds.{Deed}
use Rattle.mx_core.specs.Effects.{Store, Move, stays, pushes, pops, saves, unsaves, cuts, moves_globals}
use Rattle.mx_core.specs.State.{State, with_value_in, with_special}
pub use Rattle.mx_core.specs.declared.overwritten.CallWas.{CallWas}
pub use Rattle.mx_core.specs.declared.overwritten.OctaWas.{OctaWas}
pub use Rattle.mx_core.specs.declared.overwritten.UsualWas.{UsualWas}
use Rattle.mx_core.specs.declared.overwritten.Overwritten.{Overwritten}
use Rattle.mx_core.specs.declared.overwritten.Overwritten.TheVariants as was

-- NOTES

-- what a step of any kind may have overwritten
pub record WholeWas : Type 0 where
  -- the small parts of the state, whole
  pub pc : ℕ
  pub special : List ℕ
  pub mark : ℕ
  pub touched : Bool
  pub steps : ℕ
  -- the octa of memory that may have been overwritten, and the register stack
  pub memory : Option OctaWas
  pub ring : RingWas

-- The note of a step. A usual one overwrites but the next address and the steps, and a register, L, rJ or an octa, or a
-- register with rH and rR; a call of few registers overwrites a part of the register stack, rJ and the mark, too.
pub data StateWas : Type 0 where
  whole : WholeWas → StateWas
  usual : UsualWas → StateWas
  called : CallWas → StateWas

-- BACK

-- the page with a number is not there
abbrev pub with_page_dropped : State → ℕ → State
with_page_dropped s p = record s {
  octas = without_page s.octas p;
  pages = pages_without s.pages p;
  page_count = if s.pages p then s.page_count - 1 else s.page_count;
}

-- a page that began is not there, and else the octa is back
abbrev pub memory_undone : Option OctaWas → State → State
memory_undone None s = s
memory_undone (Some o) s =
    if o.began then with_page_dropped s (o.at / 4096) else record s { octas = stored_at s.octas o.at o.octa }

abbrev pub stack_undone : RingWas → Stack → Stack
stack_undone n (listed r) = listed r
stack_undone n (windowed w) = windowed (ring_undone n w)

abbrev pub whole_undone : WholeWas → State → State
whole_undone n s = record (memory_undone n.memory s) {
  pc = n.pc;
  stack = stack_undone n.ring s.stack;
  special = n.special;
  mark = n.mark;
  touched = n.touched;
  steps = n.steps;
}

-- the register, L, rJ, the octa, or the register with rH and rR, is what it was
abbrev pub overwritten_undone : Overwritten → State → State
overwritten_undone was.Nothing s = s
overwritten_undone (was.Register k x) s = with_value_in s k x
overwritten_undone (was.Locals l) s = record s { stack = cut_to s.stack l }
overwritten_undone (was.Link x) s = with_special s rJ x
overwritten_undone (was.Octa a x) s = record s { octas = stored_at s.octas a x }
overwritten_undone (was.Results k x h r) s = with_special (with_special (with_value_in s k x) rR r) rH h

abbrev pub usual_undone : UsualWas → State → State
usual_undone n s = record (overwritten_undone n.overwritten s) { pc = n.pc; steps = n.steps }

-- a call or a return is taken back
abbrev pub call_undone : CallWas → State → State
call_undone n s = record (with_special s rJ n.link) {
  pc = n.pc;
  stack = stack_undone n.ring s.stack;
  mark = n.mark;
  steps = n.steps;
}

-- the state before, told by the note from the state after
unfoldable pub state_undone : StateWas → State → State
state_undone (whole n) s = whole_undone n s
state_undone (usual n) s = usual_undone n s
state_undone (called n) s = call_undone n s

-- WHAT A STEP NOTES

-- a value for $k, and the octa at an address of the stack area
abbrev pub value_noted : ℕ → Option ℕ → Window → RingWas
value_noted k None w = ring_noted (work.Set k 0) w
value_noted k (Some a) w =
    if in_stack_area a then ring_noted_stored (stack_index a) k w else ring_noted (work.Set k 0) w

-- what becomes of the register stack; beside it, or else, $k gets a value
unfoldable pub move_noted : Move → ℕ → Option ℕ → Window → RingWas
move_noted stays k place w = value_noted k place w
move_noted (pushes x) k place w = ring_noted (work.Push x) w
move_noted (pops x) k place w = ring_noted (work.Pop x) w
move_noted (saves x specials) k place w = ring_noted (work.Save x specials) w
move_noted (unsaves i) k place w = ring_noted (work.Unsave (stack_address i)) w
move_noted (cuts l) k place w = ring_noted (work.CutLocals l) w
move_noted (moves_globals g) k place w = ring_noted (work.SetGlobalStart g) w

-- the octa at an address outside the stack area
unfoldable pub memory_noted : State → Option ℕ → Option OctaWas
memory_noted s None = None
memory_noted s (Some a) =
    if in_stack_area a then None else Some (record { at = a; octa = s.octas a; began = not (s.pages (a / 4096)) })

-- The note of a deed, in a state over a window, told before it is carried out. The octa at an address is noted that it
-- may overwrite, and the destination; where it has none $255, to which a trip gives a value.
unfoldable pub noted : Window → State → Deed → Option ℕ → StateWas
noted w s d place = whole (record {
  pc = s.pc;
  special = s.special;
  mark = s.mark;
  touched = s.touched;
  steps = s.steps;
  memory = memory_noted s place;
  ring = move_noted d.effect.move (unwrap_or d.destination 255) place w;
})

-- an address where a deed may store: it lies in the octa of the store, where there is one
abbrev pub MayStore : Option ℕ → Option Store → Type 0
MayStore None None = Unit {0}
MayStore None (Some store) = ⊥
MayStore (Some a) None = a < 2 ^ 63
MayStore (Some a) (Some store) = (a < 2 ^ 63) × (store.at / 8 ≡ a / 8)

-- WHERE A NOTE FITS

abbrev pub StackFits : RingWas → Stack → Type 0
StackFits n (listed r) = ⊥
StackFits n (windowed w) = FitsRing n w

-- an octa is put back on a page that is there
abbrev pub MemoryFits : Option OctaWas → State → Type 0
MemoryFits None s = Unit {0}
MemoryFits (Some o) s = (o.at < 2 ^ 63) × (o.began ≡ false → s.pages (o.at / 4096) ≡ true)

pub record FitsWhole (n : WholeWas) (s : State) : Type 0 where
  pub ring : StackFits n.ring s.stack
  pub memory : MemoryFits n.memory s

-- the register is local or global, no fewer are local, or the octa's page is there
abbrev pub OverwrittenFits : Overwritten → State → Type 0
OverwrittenFits was.Nothing s = Unit {0}
OverwrittenFits (was.Register k x) s = (k < 256) × (is_marginal (visible s.stack) k ≡ false)
OverwrittenFits (was.Locals l) s = (l < 256) × (l ≤ local_count s.stack)
OverwrittenFits (was.Link x) s = Unit {0}
OverwrittenFits (was.Octa a x) s = (a < 2 ^ 63) × (s.pages (a / 4096) ≡ true)
OverwrittenFits (was.Results k x h r) s = (k < 256) × (is_marginal (visible s.stack) k ≡ false)

pub record FitsUsual (n : UsualWas) (s : State) : Type 0 where
  pub pc : n.pc % 4 ≡ 0
  pub overwritten : OverwrittenFits n.overwritten s

-- as long as nothing was touched, the saved frames are spilled
pub record FitsCall (n : CallWas) (s : State) : Type 0 where
  pub pc : n.pc % 4 ≡ 0
  pub ring : StackFits n.ring s.stack
  pub mark : s.touched ≡ false → n.mark ≤ n.ring.spilled

abbrev pub FitsState : StateWas → State → Type 0
FitsState (whole n) s = FitsWhole n s
FitsState (usual n) s = FitsUsual n s
FitsState (called n) s = FitsCall n s

-- a note takes a state back to the one before
pub record TakesBack (n : StateWas) (after before : State) : Type 0 where
  pub fits : FitsState n after
  pub back : state_undone n after ≡ before

-- memory outside the stack area is one octa for each eight addresses, and 0 where its page is not there
pub record IsPaged (s : State) : Type 0 where
  pub octawise : (q a : ℕ) → q / 8 ≡ a / 8 → s.octas q ≡ s.octas a
  pub absent : (a : ℕ) → s.pages (a / 4096) ≡ false → s.octas a ≡ 0
