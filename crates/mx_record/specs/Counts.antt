-- How many records of a run are made at an address.
use Rattle.std.specs.Prelude.{ℕ, zero, suc, ◌+◌, ◌==◌, if◌then◌else◌, List, [], ◌∷◌}
use Rattle.mx_replay.specs.declared.program.Program.{Program}
use Rattle.mx_record.specs.Pictures.{Picture, picture_at}
use Rattle.mx_record.specs.Records.{applied}
use Rattle.mx_record.specs.declared.changes.Record.{Record}

-- one where a picture has this address next
abbrev pub one_at : ℕ → Picture → ℕ
one_at a p = if p.next == a then 1 else 0

-- how many of the records are made at an address, from a picture on
unfoldable pub records_at : ℕ → List Record → Picture → ℕ
records_at a [] p = 0
records_at a (r ∷ records) p = one_at a p + records_at a records (applied r p)

-- how many of n turns after step k of a run are made at an address
unfoldable pub turns_at : Program → ℕ → ℕ → ℕ → ℕ
turns_at p a k zero = 0
turns_at p a k (suc n) = one_at a (picture_at p k) + turns_at p a (suc k) n
