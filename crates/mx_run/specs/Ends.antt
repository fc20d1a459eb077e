-- How a run ends: at a break, which the flags of tetras mean, or otherwise; and with what it leaves (MMIXware, the part on MMIX-SIM,
-- the commands `b`, `t` and `c`).
use Rattle.std.specs.Prelude.{ℕ, ◌+◌, ◌/◌, ◌&&◌, Bool, false, if◌then◌else◌, nat_lt, Option, None, Some}
use Rattle.mx_host.specs.HostModel.{HostModel}
use Rattle.mx_core.specs.State.{State}
use Rattle.mx_code.specs.declared.trace.Touch.{Touch}
use Rattle.mx_code.specs.declared.trace.Trace.{Trace}
use Rattle.mx_run.specs.declared.end.BreakKind.{BreakKind}
use Rattle.mx_run.specs.declared.end.BreakKind.TheVariants.{Read, Write}
use Rattle.mx_run.specs.declared.end.End.{End}
use Rattle.mx_run.specs.declared.flags.Flags.{Flags}

-- the flags of each tetra, by the number of the tetra: its address by 4
abbrev pub FlagsOf : Type 0
FlagsOf = ℕ → Flags

abbrev pub no_flags : FlagsOf
no_flags n = record { r = false; w = false; x = false; t = false }

-- how a run ended, with what it left
pub record Ended : Type 0 where
  pub end : End
  pub state : State
  pub host : HostModel

abbrev pub ended : End → State → HostModel → Ended
ended end s m = record { end = end; state = s; host = m }

-- BREAKS

-- the lowest tetra of a touch that a test holds of; a touch has one tetra, or two where it has eight bytes
abbrev pub second_flagged : (ℕ → Bool) → ℕ → ℕ → Option ℕ
second_flagged test n size = if nat_lt 4 size && test (n + 1) then Some (n + 1) else None

abbrev pub first_flagged : (ℕ → Bool) → Touch → Option ℕ
first_flagged test t = if test (t.at / 4) then Some (t.at / 4) else second_flagged test (t.at / 4) t.size

abbrev pub flagged_in : (ℕ → Bool) → Option Touch → Option ℕ
flagged_in test None = None
flagged_in test (Some t) = first_flagged test t

-- the kind and the tetra of the break that a step comes to: what it read counts before what it wrote
abbrev pub write_break : Option ℕ → Option (BreakKind × ℕ)
write_break None = None
write_break (Some n) = Some (Write, n)

abbrev pub read_break : Option ℕ → Option ℕ → Option (BreakKind × ℕ)
read_break None written = write_break written
read_break (Some n) written = Some (Read, n)

abbrev pub break_of : FlagsOf → Trace → Option (BreakKind × ℕ)
break_of f trace = read_break (flagged_in (λ n. (f n).r) trace.reads) (flagged_in (λ n. (f n).w) trace.writes)

-- the trace of a step, where the step is to be traced
abbrev pub trace_if : Bool → Trace → Option Trace
trace_if traced trace = if traced then Some trace else None
