-- What a good command changes and writes, where it makes no step.
use Rattle.std.specs.Prelude.{ℕ, ◌+◌, ◌*◌, ◌/◌, ◌^◌, Bool, true, false, if◌then◌else◌, List, [], ◌∷◌, map, Option, None, Some, unwrap_or}
use Rattle.std.specs.List.{range_with_len, flat_map}
use Rattle.std.specs.Result.{result_unwrap_or}
use Rattle.mx_text.specs.declared.numbers.Form.{Form}
use Rattle.mx_text.specs.declared.numbers.Form.TheVariants.{Hex}
use Rattle.mx_core.specs.UserChanges.{at_address}
use Rattle.mx_core.specs.State.{State}
use Rattle.mx_core.specs.Traps.{with_touch}
use Rattle.mx_run.specs.FlagMaps.{has_flag, with_flags}
use Rattle.mx_run.specs.Runs.{FlagsOf}
use Rattle.mx_run.specs.declared.flags.Flags.{Flags}
use Rattle.mx_cmd.specs.declared.command.Breaks.{Breaks}
use Rattle.mx_cmd.specs.declared.command.Command.{Command}
use Rattle.mx_cmd.specs.declared.command.Command.TheVariants as command
use Rattle.mx_cmd.specs.declared.command.Subject.{Subject}
use Rattle.mx_cmd.specs.declared.command.Subject.TheVariants.{Register, Global, Special, Memory}
use Rattle.mx_con.specs.ConsoleTexts.{flag_text}
use Rattle.mx_show.specs.Texts.{state_text}
use Rattle.mx_con.specs.Judgement.{command_wild}
use Rattle.mx_show.specs.Subjects.{octa_start, shown_line, subject_changed}

-- the machine, the flags, the address of the octa that was shown last, and the lines to write
pub record Reply : Type 0 where
  pub state : State
  pub flags : FlagsOf
  pub shown : Option ℕ
  pub lines : List (List ℕ)

abbrev pub reply : State → FlagsOf → Option ℕ → List (List ℕ) → Reply
reply s f shown lines = record { state = s; flags = f; shown = shown; lines = lines }

-- ---- showing and changing

abbrev pub shown_after : Subject → Option ℕ → Option ℕ
shown_after (Register n) shown = shown
shown_after (Global n) shown = shown
shown_after (Special code) shown = shown
shown_after (Memory a) shown = Some (octa_start a)

-- the state with another value of a subject
abbrev pub with_subject : State → Subject → Option ℕ → State
with_subject s subject value = result_unwrap_or (subject_changed s subject (unwrap_or value 0)) s

-- the n octas after one
unfoldable pub octas_after : State → Form → ℕ → ℕ → List (List ℕ)
octas_after s form a n = map (λ i. shown_line s (Memory (a + 8 * i)) form) (range_with_len 1 n)

abbrev pub more_reply : State → FlagsOf → ℕ → Form → Option ℕ → Reply
more_reply s f n form None = reply s f None []
more_reply s f n form (Some a) = reply s f (Some (a + 8 * n)) (octas_after s form a n)

-- ---- flags

abbrev pub with_breaks : Flags → Breaks → Flags
with_breaks flags breaks = record { r = breaks.r; w = breaks.w; x = breaks.x; t = flags.t }

abbrev pub with_trace : Flags → Bool → Flags
with_trace flags traced = record { r = flags.r; w = flags.w; x = flags.x; t = traced }

-- the lines of the flagged tetras among n from one on, ascending
abbrev pub line_if_flagged : FlagsOf → ℕ → List (List ℕ)
line_if_flagged f k = if has_flag (f k) then flag_text (4 * k) (f k) ∷ [] else []

unfoldable pub flag_lines : FlagsOf → ℕ → ℕ → List (List ℕ)
flag_lines f from n = flat_map (line_if_flagged f) (range_with_len from n)

-- the number of tetras
abbrev pub tetra_count : ℕ
tetra_count = 2 ^ 62

-- ---- all commands

abbrev pub changed_reply : State → FlagsOf → Option ℕ → Subject → Reply
changed_reply s f shown subject = reply s f (shown_after subject shown) (shown_line s subject Hex ∷ [])

abbrev pub reply_in : State → FlagsOf → Option ℕ → Command → Reply
reply_in s f shown command.Step = reply s f shown []
reply_in s f shown command.Continue = reply s f shown []
reply_in s f shown command.Quit = reply s f shown []
reply_in s f shown command.State = reply s f shown (state_text s ∷ [])
reply_in s f shown (command.Show subject form) = reply s f (shown_after subject shown) (shown_line s subject form ∷ [])
reply_in s f shown (command.Change subject value) = changed_reply (with_subject s subject value) f shown subject
reply_in s f shown (command.ShowMore n form) = more_reply s f (unwrap_or n 0) form shown
reply_in s f shown (command.GoTo a) = reply (at_address s a) f shown []
reply_in s f shown (command.Break breaks a) = reply s (with_flags f (a / 4) (with_breaks (f (a / 4)) breaks)) shown []
reply_in s f shown (command.Trace a) = reply s (with_flags f (a / 4) (with_trace (f (a / 4)) true)) shown []
reply_in s f shown (command.Untrace a) = reply s (with_flags f (a / 4) (with_trace (f (a / 4)) false)) shown []
reply_in s f shown command.Flags = reply s f shown (flag_lines f 0 tetra_count)

-- a command that looks at rS or at Stack_Segment is noted
abbrev pub noted_if : Bool → State → State
noted_if wild s = if wild then with_touch s else s

abbrev pub with_note : Bool → Reply → Reply
with_note wild r = reply (noted_if wild r.state) r.flags r.shown r.lines

unfoldable pub reply_to : State → FlagsOf → Option ℕ → Command → Reply
reply_to s f shown command = with_note (command_wild shown command) (reply_in s f shown command)
