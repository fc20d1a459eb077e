-- Sessions that end by themselves.
use Rattle.std.specs.Prelude.{Bool, true, false}
use Rattle.mx_plan.specs.Wild.{Course, ends, meets_wild}
use Rattle.mx_con.specs.SessionPlans.{SessionWorld}
use Rattle.mx_con.specs.declared.end.SessionEnd.{SessionEnd}
use Rattle.mx_con.specs.declared.end.SessionEnd.TheVariants.{OutOfMemory}

-- whether an end is other than that of no memory
abbrev pub is_end_told : SessionEnd → Bool
is_end_told OutOfMemory = false
is_end_told end = true

-- whether a session comes to something else than the end of no memory
abbrev pub is_told : Course SessionEnd SessionWorld → Bool
is_told (ends end w) = is_end_told end
is_told (meets_wild w) = true
