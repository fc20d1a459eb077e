-- The lines of the console: what each of them asks for (MMIXware, the part on MMIX-SIM, "Interaction"; the forms are
-- this project's own).
use Rattle.std.specs.Prelude.{ℕ, ◌==◌, ◌||◌, nat_lt, Bool, if◌then◌else◌, List, [], ◌∷◌, length, Option, None, Some}
use Rattle.std.specs.List.{list_any}
use Rattle.std.specs.Option.{option_map}
use Rattle.mx_word.specs.Kinds.{is_digit, is_letter}
use Rattle.mx_text.specs.declared.numbers.Form.{Form}
use Rattle.mx_text.specs.declared.numbers.Form.TheVariants.{Decimal, Hex, Chars}
use Rattle.mx_ops.specs.Predefined.{special_code}
use Rattle.mx_cmd.specs.Numerals.{front, past, octa_written, value_of, address_in, past_address, address_of}
use Rattle.mx_cmd.specs.declared.command.Breaks.{Breaks}
use Rattle.mx_cmd.specs.declared.command.Command.{Command}
use Rattle.mx_cmd.specs.declared.command.Command.TheVariants.{Step, Continue, Quit, State, Show, Change, ShowMore, GoTo, Break, Trace, Untrace, Flags}
use Rattle.mx_cmd.specs.declared.command.Subject.{Subject}
use Rattle.mx_cmd.specs.declared.command.Subject.TheVariants.{Register, Global, Special, Memory}

-- a command on which nothing follows
abbrev pub alone : Command → List ℕ → Option Command
alone command [] = Some command
alone command (b ∷ bs) = None

-- a form at the end of a line; none means hexadecimal
abbrev pub form_of_byte : ℕ → Option Form
form_of_byte b = if b == 33 then Some Decimal else if b == 35 then Some Hex else if b == 34 then Some Chars else None

abbrev pub form_of : List ℕ → Option Form
form_of [] = Some Hex
form_of (b ∷ []) = form_of_byte b
form_of (b ∷ c ∷ rest) = None

-- what follows a subject: a form, or `=` and a value
abbrev pub on_subject : Subject → List ℕ → Option Command
on_subject subject [] = Some (Show subject Hex)
on_subject subject (b ∷ bs) =
    if b == 61 then option_map (Change subject) (value_of bs) else option_map (Show subject) (form_of (b ∷ bs))

-- `$n` and `gn`, with a digit or more
abbrev pub register_command : List ℕ → List ℕ → Option Command
register_command [] rest = None
register_command (b ∷ bs) rest = on_subject (Register (octa_written 10 (b ∷ bs))) rest

abbrev pub global_command : List ℕ → List ℕ → Option Command
global_command [] rest = None
global_command (b ∷ bs) rest = on_subject (Global (octa_written 10 (b ∷ bs))) rest

-- `rNAME`, with a letter or more
abbrev pub special_command : List ℕ → List ℕ → Option Command
special_command [] rest = None
special_command (b ∷ bs) rest = on_subject (Special (special_code (b ∷ bs))) rest

-- `Mx`
abbrev pub memory_command : Option ℕ → List ℕ → Option Command
memory_command None rest = None
memory_command (Some a) rest = on_subject (Memory a) rest

-- `+n`
abbrev pub more_command : List ℕ → List ℕ → Option Command
more_command [] rest = None
more_command (b ∷ bs) rest = option_map (ShowMore (octa_written 10 (b ∷ bs))) (form_of rest)

-- the letters of `b`
abbrev pub is_break_letter : ℕ → Bool
is_break_letter b = b == 114 || b == 119 || b == 120

abbrev pub has_letter : ℕ → List ℕ → Bool
has_letter letter letters = list_any (λ b. b == letter) letters

abbrev pub breaks_of : List ℕ → Breaks
breaks_of letters = record { r = has_letter 114 letters; w = has_letter 119 letters; x = has_letter 120 letters }

-- the command that begins with a byte: those of one letter, those on a subject, and those on an address
abbrev pub address_command : ℕ → List ℕ → Option Command
address_command b text =
    if b == 64 then option_map GoTo (address_of text)
    else if b == 116 then option_map Trace (address_of text)
    else if b == 117 then option_map Untrace (address_of text)
    else if b == 98 then
    option_map (Break (breaks_of (front is_break_letter text))) (address_of (past is_break_letter text))
    else None

abbrev pub subject_command : ℕ → List ℕ → Option Command
subject_command b text =
    if b == 36 then register_command (front is_digit text) (past is_digit text)
    else if b == 103 then global_command (front is_digit text) (past is_digit text)
    else if b == 114 then special_command (front is_letter text) (past is_letter text)
    else if b == 77 then memory_command (address_in text) (past_address text)
    else if b == 43 then more_command (front is_digit text) (past is_digit text)
    else address_command b text

abbrev pub command_with : ℕ → List ℕ → Option Command
command_with b text =
    if b == 110 then alone Step text
    else if b == 99 then alone Continue text
    else if b == 113 then alone Quit text
    else if b == 115 then alone State text
    else if b == 66 then alone Flags text
    else subject_command b text

-- the command of a line without its end; nothing where it has none of these forms, or more than 4,096 bytes
abbrev pub form_command : List ℕ → Option Command
form_command [] = Some Step
form_command (b ∷ text) = command_with b text

unfoldable pub command_of : List ℕ → Option Command
command_of line = if nat_lt 4096 (length line) then None else form_command line
