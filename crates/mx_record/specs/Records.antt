-- Records: what changes from one picture to another, as exclusive ors. So a record leads back as it leads on.
use Rattle.std.specs.Prelude.{ℕ, suc, ◌≡◌, ◌==◌, if◌then◌else◌, List, [], ◌∷◌, ◌++◌, bit_xor}
use Rattle.mx_replay.specs.declared.program.Program.{Program}
use Rattle.mx_record.specs.Pictures.{Picture, picture_at}
use Rattle.mx_record.specs.declared.changes.Change.{Change}
use Rattle.mx_record.specs.declared.changes.Record.{Record}

-- the exclusive or of all changes at a place
unfoldable pub difference : List Change → ℕ → ℕ
difference [] q = 0
difference (c ∷ changes) q = if q == c.at then bit_xor c.by (difference changes q) else difference changes q

-- the octas with all changes
abbrev pub changed : (ℕ → ℕ) → List Change → ℕ → ℕ
changed octas changes q = bit_xor (octas q) (difference changes q)

-- the picture that a record leads to from another
unfoldable pub applied : Record → Picture → Picture
applied r p = record {
  next = bit_xor p.next r.next;
  special = changed p.special r.special;
  global = changed p.global r.global;
  stacked = changed p.stacked r.stacked;
  octa = changed p.octa r.octas;
}

-- a record leads from one picture to another
abbrev pub Leads : Record → Picture → Picture → Type 0
Leads r p q = applied r p ≡ q

-- the picture that records lead to, one after another
unfoldable pub all_applied : List Record → Picture → Picture
all_applied [] p = p
all_applied (r ∷ records) p = all_applied records (applied r p)

-- these are the records of the turns of a run after step k: each leads from the picture of its step to that of the next
unfoldable pub AreRecords : Program → ℕ → List Record → Type 0
AreRecords p k [] = Unit {0}
AreRecords p k (r ∷ records) = Leads r (picture_at p k) (picture_at p (suc k)) × AreRecords p (suc k) records

-- ---- on the way

-- the changes with one more, where an octa became another
abbrev pub noted : List Change → ℕ → ℕ → ℕ → List Change
noted changes at old new = if old == new then changes else changes ++ record { at = at; by = bit_xor old new } ∷ []
