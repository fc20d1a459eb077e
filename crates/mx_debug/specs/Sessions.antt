-- A session of the debugger: where it is, and what each of its calls keeps.
use Rattle.std.specs.Prelude.{ℕ, ◌≡◌, List}
use Rattle.mx_book.specs.declared.book.Book.{Book}
use Rattle.mx_replay.specs.declared.program.Program.{Program}
use Rattle.mx_stops.specs.declared.stops.Break.{Break}
use Rattle.mx_stops.specs.declared.stops.Watch.{Watch}

-- the program that is run, what is known of it by name, the step that is visited, the last step that can be reached, the breaks,
-- and what is watched
pub record Debugged : Type 0 where
  pub program : Program
  pub book : Book
  pub at : ℕ
  pub most : ℕ
  pub breaks : List Break
  pub watches : List Watch

-- it is of the same program
pub record KeepsProgram (old new : Debugged) : Type 0 where
  pub program : new.program ≡ old.program
  pub book : new.book ≡ old.book
  pub most : new.most ≡ old.most

-- the breaks and what is watched are as they were
abbrev pub KeepsStops : Debugged → Debugged → Type 0
KeepsStops old new = (new.breaks ≡ old.breaks) × (new.watches ≡ old.watches)
