-- A TRAP that calls a service by other operands than 0, the service and its handle: a service in the first place, a number other than 0
-- in front of one, or two operands, of which the second is taken for Z.
use Rattle.std.specs.Prelude.{ℕ, ◌&&◌, ◌||◌, List, [], ◌∷◌, Bool, false, not, codes, if◌then◌else◌, Option, None, Some}
use Rattle.std.specs.Str.{bytes_eq}
use Rattle.mx_word.specs.Kinds.{is_digit}
use Rattle.mx_slips.specs.declared.sources.Statement.{Statement}
use Rattle.mx_slips.specs.declared.tokens.Token.{Token}
use Rattle.mx_slips.specs.declared.marks.Mark.{Mark}
use Rattle.mx_slips.specs.Backslashes.{token_mark}

-- the services that have a handle
abbrev pub is_service : List ℕ → Bool
is_service text =
    bytes_eq text (codes "Fopen") || bytes_eq text (codes "Fclose") || bytes_eq text (codes "Fread") || bytes_eq text (codes "Fgets")
    || bytes_eq text (codes "Fwrite") || bytes_eq text (codes "Fputs") || bytes_eq text (codes "Fseek") || bytes_eq text (codes "Ftell")

abbrev pub is_call : List ℕ → Bool
is_call text = is_service text || bytes_eq text (codes "Halt")

-- a number other than 0
abbrev pub is_other_number : List ℕ → Bool
is_other_number [] = false
is_other_number (b ∷ bs) = is_digit b && not (bytes_eq (b ∷ bs) (codes "0"))

-- a comma and a service
abbrev pub begins_call : List Token → Bool
begins_call (comma ∷ name ∷ more) = bytes_eq comma.text (codes ",") && is_call name.text
begins_call tokens = false

abbrev pub is_alone : Token → Token → Token → Bool
is_alone zero comma name = bytes_eq zero.text (codes "0") && bytes_eq comma.text (codes ",") && is_service name.text

-- the service of two operands
abbrev pub second_of_two : Token → List Token → Option Mark
second_of_two zero (comma ∷ name ∷ []) = if is_alone zero comma name then Some (token_mark name) else None
second_of_two zero tokens = None

abbrev pub is_wrong_first : Token → List Token → Bool
is_wrong_first t more = is_service t.text || (is_other_number t.text && begins_call more)

abbrev pub wrong_operand : List Token → Option Mark
wrong_operand [] = None
wrong_operand (t ∷ more) = if is_wrong_first t more then Some (token_mark t) else second_of_two t more

unfoldable pub trap_operand : Statement → Option Mark
trap_operand s = if bytes_eq s.op.text (codes "TRAP") then wrong_operand s.tokens else None
