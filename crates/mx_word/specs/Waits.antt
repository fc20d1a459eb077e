-- Future references.
-- (MMIXware, the part on MMIXAL: future references; TAOCP 1, Fascicle 1, section 1.3.2'.)
use Rattle.std.specs.Prelude.{Bool, false, ◌==◌}
use Rattle.std.specs.Str.{bytes_eq}
use Rattle.mx_word.specs.declared.waits.Awaited.{Awaited}
use Rattle.mx_word.specs.declared.waits.Awaited.TheVariants.{Name, Local}

-- whether two references wait for the same: one complete name, or one local label
abbrev pub same_awaited : Awaited → Awaited → Bool
same_awaited (Name a) (Name b) = bytes_eq a b
same_awaited (Name a) (Local e) = false
same_awaited (Local d) (Name b) = false
same_awaited (Local d) (Local e) = d == e
