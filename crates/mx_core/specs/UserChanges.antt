-- What a user changes at the console: a register, a special register, an octa of memory, the next address.
-- A rule of this program.
use Rattle.std.specs.Prelude.{ℕ, ◌≡◌, ◌≤◌, ◌<◌, ◌^◌, ◌/◌, ◌*◌, Bool, ◌==◌, if◌then◌else◌, Result, Ok, Err}
use Rattle.mx_ring.specs.Stack.{set_overfills, cut_to, with_global_start}
use Rattle.mx_code.specs.Puts.{put_of}
use Rattle.mx_code.specs.SpecialRegisters.{rA, rG, rL}
use Rattle.mx_code.specs.declared.put.Put.{Put}
use Rattle.mx_code.specs.declared.put.Put.TheVariants as put
use Rattle.mx_core.specs.State.{State, global_start, locals, with_value_in, with_special, with_octa, is_page_refused}
use Rattle.mx_core.specs.declared.changes.SetFault.{SetFault}
use Rattle.mx_core.specs.declared.changes.SetFault.TheVariants.{NotAllowed}

abbrev pub allowed_unless : Bool → State → Result State SetFault
allowed_unless refused s = if refused then Err NotAllowed else Ok s

-- $k gets a value, and is local then where it was neither local nor global
abbrev pub register_changed : State → ℕ → ℕ → Result State SetFault
register_changed s k value = allowed_unless (set_overfills s.stack k) (with_value_in s k value)

-- what PUT does to a special register, where PUT takes the value
abbrev pub with_put : State → ℕ → ℕ → State
with_put s code value =
    if code == rL then record s { stack = cut_to s.stack value }
    else if code == rG then record s { stack = with_global_start s.stack value }
    else with_special s code value

-- the bounds of what PUT stores in rL, rG and rA
abbrev pub IsPuttable : State → ℕ → ℕ → Type 0
IsPuttable s code value =
    (code ≡ rL → (value ≤ locals s) × (value ≤ 255)) × (code ≡ rG → (32 ≤ value) × (value ≤ 255) × (locals s ≤ value))
    × (code ≡ rA → value < 2 ^ 18)

abbrev pub put_by_user : State → ℕ → Put → Result State SetFault
put_by_user s code (put.Store value) = Ok (with_put s code value)
put_by_user s code put.Illegal = Err NotAllowed
put_by_user s code put.Privileged = Err NotAllowed

abbrev pub special_changed : State → ℕ → ℕ → Result State SetFault
special_changed s code value = put_by_user s code (put_of code value (global_start s) (locals s))

-- the octa that holds an address
abbrev pub octa_changed : State → ℕ → ℕ → Result State SetFault
octa_changed s a x = allowed_unless (is_page_refused s a) (with_octa s a x)

-- the next address, lowered to a multiple of 4
abbrev pub at_address : State → ℕ → State
at_address s a = record s { pc = a / 4 * 4 }
