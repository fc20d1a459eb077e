-- What lines show and change: registers, special registers and octas of memory, with their texts and values.
use Rattle.std.specs.Prelude.{ℕ, ◌*◌, ◌/◌, ◌==◌, ◌<◌, ◌^◌, Bool, false, if◌then◌else◌, List, ◌++◌, codes, decimal, Option, None, Some, unwrap_or, Result}
use Rattle.mx_ring.specs.Stack.{register}
use Rattle.mx_code.specs.SpecialRegisters.{rS}
use Rattle.mx_text.specs.Numbers.{hex_text, shown_text}
use Rattle.mx_text.specs.declared.numbers.Form.{Form}
use Rattle.mx_core.specs.UserChanges.{register_changed, special_changed, octa_changed}
use Rattle.mx_word.specs.Segments.{is_in_stack_segment}
use Rattle.mx_core.specs.State.{State, octa, special_register, is_negative}
use Rattle.mx_core.specs.declared.changes.SetFault.{SetFault}
use Rattle.mx_ops.specs.Predefined.{special_name}
use Rattle.mx_cmd.specs.declared.command.Subject.{Subject}
use Rattle.mx_cmd.specs.declared.command.Subject.TheVariants.{Register, Global, Special, Memory}

-- its number is that of a register, its code that of a special register, its address one of an octa
abbrev pub IsSound : Subject → Type 0
IsSound (Register n) = unwrap_or n 0 < 256
IsSound (Global n) = unwrap_or n 0 < 256
IsSound (Special code) = unwrap_or code 0 < 32
IsSound (Memory a) = a < 2 ^ 63

-- the octa that holds an address; there is none at 2^63 or above
unfoldable pub octa_shown : State → ℕ → ℕ
octa_shown s a = if is_negative a then 0 else octa s a

-- an octa's own address
abbrev pub octa_start : ℕ → ℕ
octa_start a = a / 8 * 8

abbrev pub subject_text : Subject → List ℕ
subject_text (Register n) = codes "$" ++ decimal (unwrap_or n 0)
subject_text (Global n) = codes "g" ++ decimal (unwrap_or n 0)
subject_text (Special code) = special_name (unwrap_or code 0)
subject_text (Memory a) = codes "M" ++ hex_text (octa_start a)

abbrev pub subject_value : State → Subject → ℕ
subject_value s (Register n) = register s.stack (unwrap_or n 0)
subject_value s (Global n) = register s.stack (unwrap_or n 0)
subject_value s (Special code) = special_register s (unwrap_or code 0)
subject_value s (Memory a) = octa_shown s a

-- the line that shows a subject
unfoldable pub shown_line : State → Subject → Form → List ℕ
shown_line s subject form = subject_text subject ++ codes "=" ++ shown_text form (subject_value s subject)

-- the state with another value of a subject, where that is allowed
unfoldable pub subject_changed : State → Subject → ℕ → Result State SetFault
subject_changed s (Register n) value = register_changed s (unwrap_or n 0) value
subject_changed s (Global n) value = register_changed s (unwrap_or n 0) value
subject_changed s (Special code) value = special_changed s (unwrap_or code 0) value
subject_changed s (Memory a) value = octa_changed s a value

-- whether it looks at rS or at Stack_Segment
abbrev pub is_rS : Option ℕ → Bool
is_rS None = false
is_rS (Some code) = code == rS

abbrev pub subject_wild : Subject → Bool
subject_wild (Register n) = false
subject_wild (Global n) = false
subject_wild (Special code) = is_rS code
subject_wild (Memory a) = is_in_stack_segment a
