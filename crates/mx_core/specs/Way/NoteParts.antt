-- What a note's fields are, and what holds of them.
use Rattle.std.specs.Prelude.{◌≡◌, ◌≤◌, ◌<◌, ◌%◌, ◌^◌, false, slice_index}
use Rattle.mx_code.specs.SpecialRegisters.{rA}
use Rattle.mx_core.specs.Undoing.{WholeWas, StateWas, whole, usual, called}
use Rattle.mx_core.specs.declared.noting.Note.TheInside as note
use Rattle.mx_core.specs.declared.noting.Was.{Was}
use Rattle.mx_core.specs.declared.noting.Was.TheVariants as was
use Rattle.mx_core.specs.declared.noting.WholeNote.TheInside.{Inside}

abbrev pub whole_in : Inside → WholeWas
whole_in i = record {
  pc = i.pc;
  special = i.special;
  mark = i.mark;
  touched = i.touched;
  steps = i.steps;
  memory = i.memory;
  ring = i.ring;
}

-- rA has 18 bits, the address is a multiple of 4, and as long as nothing was touched saved frames were spilled
abbrev pub NoteHolds : Inside → Type 0
NoteHolds i = (slice_index i.special rA < 2 ^ 18) × (i.pc % 4 ≡ 0) × (i.touched ≡ false → i.mark ≤ i.ring.spilled)

abbrev pub was_in : Was → StateWas
was_in (was.Whole n) = whole n.value
was_in (was.Usual n) = usual n
was_in (was.Call n) = called n.value

abbrev pub note_in : note.Inside → StateWas
note_in i = was_in i.was
