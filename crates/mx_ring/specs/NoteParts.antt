-- What a note's fields are.
use Rattle.std.specs.Prelude.{◌≤◌, None, [], take}
use Rattle.mx_ring.specs.Notes.{RegistersWere, some, all, local, RingWas}
use Rattle.mx_ring.specs.declared.call_note.CallNote.TheInside as call
use Rattle.mx_ring.specs.declared.notes.Before.{Before}
use Rattle.mx_ring.specs.declared.notes.Before.TheVariants as before
use Rattle.mx_ring.specs.declared.notes.RingNote.TheInside.{Inside}

abbrev pub before_in : Before → RegistersWere
before_in (before.Some l k x y) = some l k x y
before_in (before.All registers) = all registers.value

abbrev pub note_in : Inside → RingWas
note_in i = record {
  registers = before_in i.registers;
  spilled = i.spilled;
  over = i.over.items;
  stays = i.stays;
  gone = i.gone.items;
  octa = i.octa;
}

abbrev pub call_in : call.Inside → RingWas
call_in i = record {
  registers = local (take i.local_count i.locals);
  spilled = i.spilled;
  over = [];
  stays = i.stays;
  gone = take i.gone_count i.gone;
  octa = None;
}

-- there are no more of them than are kept
abbrev pub CallHolds : call.Inside → Type 0
CallHolds i = (i.local_count ≤ 8) × (i.gone_count ≤ 8)
