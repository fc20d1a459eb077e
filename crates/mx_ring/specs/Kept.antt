-- What SAVE keeps.
use Rattle.std.specs.Prelude.{◌≡◌, false}
use Rattle.mx_ring.specs.Stack.{Stack, as_listed, frame_top, stack_address, unsave_refused, unsaved, unsaved_specials}
use Rattle.mx_ring.specs.declared.saved.Saved.{Saved}

-- A frame that SAVE hid on top of an old stack keeps its registers, and these special registers: UNSAVE there is not
-- refused, and brings them back.
pub record KeepsFrame (old now : Stack) (specials : Saved) : Type 0 where
  pub is_frame : unsave_refused now (stack_address (frame_top old)) ≡ false
  pub gives_registers : as_listed (unsaved now (frame_top old)) ≡ as_listed old
  pub gives_specials : unsaved_specials now (frame_top old) ≡ specials
