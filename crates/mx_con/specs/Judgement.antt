-- Which commands are bad, and why: the first that applies of the reasons in their order.
use Rattle.std.specs.Prelude.{ℕ, ◌+◌, ◌-◌, ◌*◌, ◌^◌, ◌==◌, ◌||◌, nat_le, nat_lt, Bool, true, false, if◌then◌else◌, List, codes, is_none, is_err, Option, None, Some}
use Rattle.mx_word.specs.Segments.{is_in_stack_segment}
use Rattle.mx_core.specs.State.{State, global_start}
use Rattle.mx_cmd.specs.declared.command.Command.{Command}
use Rattle.mx_cmd.specs.declared.command.Command.TheVariants as command
use Rattle.mx_cmd.specs.declared.command.Subject.{Subject}
use Rattle.mx_cmd.specs.declared.command.Subject.TheVariants.{Register, Global, Special, Memory}
use Rattle.mx_con.specs.declared.judgement.Bad.{Bad}
use Rattle.mx_con.specs.declared.judgement.Bad.TheVariants.{UnknownCommand, BadNumber, NoSuchRegister, BadAddress, NoMemoryShown, CannotChange}
use Rattle.mx_show.specs.Subjects.{subject_changed, subject_wild}

abbrev pub bad_text : Bad → List ℕ
bad_text UnknownCommand = codes "? unknown command"
bad_text BadNumber = codes "? bad number"
bad_text NoSuchRegister = codes "? no such register"
bad_text BadAddress = codes "? bad address"
bad_text NoMemoryShown = codes "? no memory shown yet"
bad_text CannotChange = codes "? cannot change"

abbrev pub bad_if : Bool → Bad → Option Bad
bad_if holds bad = if holds then Some bad else None

abbrev pub first_bad : Option Bad → Option Bad → Option Bad
first_bad (Some bad) other = Some bad
first_bad None other = other

-- ---- subjects

abbrev pub number_bad : Subject → Bool
number_bad (Register n) = is_none n
number_bad (Global n) = is_none n
number_bad (Special code) = false
number_bad (Memory a) = false

-- numbers outside a range; nothing is not outside
abbrev pub is_outside : ℕ → ℕ → Option ℕ → Bool
is_outside least most None = false
is_outside least most (Some n) = nat_lt n least || nat_lt most n

-- `g` names no register below G
abbrev pub register_bad : State → Subject → Bool
register_bad s (Register n) = is_outside 0 255 n
register_bad s (Global n) = is_outside (global_start s) 255 n
register_bad s (Special code) = is_none code || is_outside 0 31 code
register_bad s (Memory a) = false

abbrev pub address_bad : Subject → Bool
address_bad (Register n) = false
address_bad (Global n) = false
address_bad (Special code) = false
address_bad (Memory a) = nat_le (2 ^ 63) a

abbrev pub subject_bad : State → Subject → Option Bad
subject_bad s subject =
    if number_bad subject then Some BadNumber
    else if register_bad s subject then Some NoSuchRegister
    else if address_bad subject then Some BadAddress
    else None

-- ---- commands; `shown` is the address of the octa that was shown last

abbrev pub change_bad : State → Subject → Option ℕ → Option Bad
change_bad s subject None = Some BadNumber
change_bad s subject (Some value) =
    first_bad (subject_bad s subject) (bad_if (is_err (subject_changed s subject value)) CannotChange)

-- the octas after an octa that was shown go past the last address
abbrev pub past_memory : Option ℕ → ℕ → Bool
past_memory None n = true
past_memory (Some a) n = nat_lt (2 ^ 63 - 8) (a + 8 * n)

abbrev pub more_bad : Option ℕ → Option ℕ → Option Bad
more_bad shown None = Some BadNumber
more_bad shown (Some n) =
    if n == 0 || nat_lt 100 n then Some BadNumber else bad_if (past_memory shown n) NoMemoryShown

-- no instruction has an address of 2^63 or more
abbrev pub go_to_bad : ℕ → Option Bad
go_to_bad a = bad_if (nat_le (2 ^ 63) a) BadAddress

-- no tetra of Stack_Segment or above has flags
abbrev pub flag_bad : ℕ → Option Bad
flag_bad a = bad_if (nat_le 0x6000_0000_0000_0000 a) BadAddress

unfoldable pub command_bad : State → Option ℕ → Command → Option Bad
command_bad s shown command.Step = None
command_bad s shown command.Continue = None
command_bad s shown command.Quit = None
command_bad s shown command.State = None
command_bad s shown (command.Show subject form) = subject_bad s subject
command_bad s shown (command.Change subject value) = change_bad s subject value
command_bad s shown (command.ShowMore n form) = more_bad shown n
command_bad s shown (command.GoTo a) = go_to_bad a
command_bad s shown (command.Break breaks a) = flag_bad a
command_bad s shown (command.Trace a) = flag_bad a
command_bad s shown (command.Untrace a) = flag_bad a
command_bad s shown command.Flags = None

-- ---- commands that look at rS or at Stack_Segment, where they are not bad

abbrev pub more_wild : Option ℕ → Option ℕ → Bool
more_wild None n = false
more_wild (Some a) None = false
more_wild (Some a) (Some n) = is_in_stack_segment (a + 8 * n)

unfoldable pub command_wild : Option ℕ → Command → Bool
command_wild shown command.Step = false
command_wild shown command.Continue = false
command_wild shown command.Quit = false
command_wild shown command.State = false
command_wild shown (command.Show subject form) = subject_wild subject
command_wild shown (command.Change subject value) = subject_wild subject
command_wild shown (command.ShowMore n form) = more_wild shown n
command_wild shown (command.GoTo a) = is_in_stack_segment a
command_wild shown (command.Break breaks a) = false
command_wild shown (command.Trace a) = false
command_wild shown (command.Untrace a) = false
command_wild shown command.Flags = false
