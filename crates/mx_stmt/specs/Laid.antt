-- Where the bytes of a statement lie, and where its references are in them.
use Rattle.std.specs.Prelude.{◌≡◌, ◌<◌, ◌≤◌, ℕ, ◌+◌, ◌%◌, length}
use Rattle.std.specs.List.{AllByRecursion}
use Rattle.mx_word.specs.Ranges.{AreBytes}
use Rattle.mx_word.specs.declared.waits.Wait.{Wait}
use Rattle.mx_word.specs.declared.waits.WaitKind.{WaitKind}
use Rattle.mx_word.specs.declared.waits.WaitKind.TheVariants.{Octa, Near, Far}
use Rattle.mx_stmt.specs.declared.placed.Placed.{Placed}

-- how many bytes a reference is part of: an octa, or the tetra of an instruction
abbrev pub kind_size : WaitKind → ℕ
kind_size Octa = 8
kind_size Near = 4
kind_size Far = 4

-- A reference is at a multiple of 4 within this many bytes from an address on.
pub record IsInside (start count : ℕ) (w : Wait) : Type 0 where
  pub first : start ≤ w.at
  pub last : w.at + kind_size w.kind ≤ start + count
  pub fours : w.at % 4 ≡ 0

-- The bytes of a statement lie below the stack segment, and its references are within them.
pub record IsLaid (p : Placed) : Type 0 where
  pub bytes : AreBytes p.bytes
  pub low : 0 < length p.bytes → p.start + length p.bytes ≤ 0x6000_0000_0000_0000
  pub waits : AllByRecursion (IsInside p.start (length p.bytes)) p.waits
