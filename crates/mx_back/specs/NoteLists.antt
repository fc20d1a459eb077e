-- How notes are kept: in two lists, the newer ones and those before them, in each the newest last.
use Rattle.std.specs.Prelude.{ℕ, ◌≡◌, ◌+◌, ◌≤◌, ◌<◌, List, ◌++◌, drop, length, reverse, slice_get, take, Option}
use Rattle.std.specs.Vec.{vec_capacity}
use Rattle.mx_core.specs.Undoing.{StateWas}
use Rattle.mx_back.specs.declared.notes.Notes.TheInside.{Inside}

-- the newest first, as many as count
abbrev pub notes_of : List StateWas → List StateWas → ℕ → List StateWas
notes_of newer older kept = take kept (reverse newer ++ reverse older)

abbrev pub notes_in : Inside → List StateWas
notes_in i = notes_of i.newer.items i.older.items i.kept

-- those that count are there, and there is room for a further one
pub record HoldsNotes (i : Inside) : Type 0 where
  pub most : i.kept ≤ 1024
  pub there : i.kept ≤ length i.newer.items + length i.older.items
  pub fewer : length i.newer.items < 1024
  pub newer_room : 1024 ≤ vec_capacity i.newer
  pub older_room : 1024 ≤ vec_capacity i.older

-- the first note is taken, and the others are left
abbrev pub PopsNote : Option StateWas → List StateWas → List StateWas → Type 0
PopsNote note notes left = (note ≡ slice_get notes 0) × (left ≡ drop 1 notes)
