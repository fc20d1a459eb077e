-- Where operands cease to be expressions, as far as their parts tell it, without a count of parentheses. (MMIXware, the part on MMIXAL:
-- expressions; TAOCP 1, Fascicle 1, section 1.3.2'.)
use Rattle.std.specs.Prelude.{ℕ, zero, suc, ◌+◌, ◌==◌, ◌||◌, ◌&&◌, Bool, true, false, if◌then◌else◌, List, [], ◌∷◌, length, drop}
use Rattle.mx_word.specs.Kinds.{is_digit, is_hexadecimal, is_letter}
use Rattle.mx_line.specs.Bytes.{run}
use Rattle.mx_marks.specs.Fields.{word}
use Rattle.mx_marks.specs.Tokens.{is_in_string}

-- Where a primary is wanted, these come before it: 40 is `(`, 43 `+`, 45 `-`, 126 `~` and 36 `$`.
abbrev pub is_prefix : ℕ → Bool
is_prefix b = b == 40 || b == 43 || b == 45 || b == 126 || b == 36

-- These are between two primaries: 44 is a comma, 42 `*`, 47 `/`, 37 `%`, 38 `&`, 43 `+`, 45 `-`, 124 `|` and 94 `^`.
abbrev pub is_infix : ℕ → Bool
is_infix b = b == 44 || b == 42 || b == 47 || b == 37 || b == 38 || b == 43 || b == 45 || b == 124 || b == 94

-- `//`, `<<` and `>>`
abbrev pub is_pair : ℕ → List ℕ → Bool
is_pair b [] = false
is_pair b (c ∷ cs) = b == c && (b == 47 || b == 60 || b == 62)

-- `B` or `F`
abbrev pub is_turn : List ℕ → Bool
is_turn [] = false
is_turn (b ∷ bs) = b == 66 || b == 70

-- A number in decimal digits; a digit with `B` or `F` is a local label.
abbrev pub number_length : List ℕ → ℕ
number_length text = if length (run is_digit text) == 1 && is_turn (drop 1 text) then 2 else length (run is_digit text)

-- a hexadecimal number, after its mark; it has a digit at least
abbrev pub hash_length : ℕ → ℕ
hash_length count = if count == 0 then 0 else count + 1

-- how many bytes the primary has that a text begins with: 34 opens a string, 39 is an apostrophe, 35 `#` and 64 `@`; 0 where it is none
abbrev pub primary_length : List ℕ → ℕ
primary_length [] = 0
primary_length (b ∷ bs) =
    if b == 34 then length (run is_in_string bs) + 2
    else if b == 39 then 3
    else if b == 35 then hash_length (length (run is_hexadecimal bs))
    else if b == 64 then 1
    else if is_digit b then number_length (b ∷ bs)
    else if is_letter b then length (word (b ∷ bs))
    else 0

-- how many bytes are taken where a primary is wanted, and after one: 41 is `)`
abbrev pub wanting_length : List ℕ → ℕ
wanting_length [] = 0
wanting_length (b ∷ bs) = if is_prefix b then 1 else primary_length (b ∷ bs)

abbrev pub after_length : List ℕ → ℕ
after_length [] = 0
after_length (b ∷ bs) = if is_pair b bs then 2 else if is_infix b || b == 41 then 1 else 0

abbrev pub step_length : Bool → List ℕ → ℕ
step_length true text = wanting_length text
step_length false text = after_length text

-- whether a primary is wanted after it
abbrev pub is_wanting : Bool → List ℕ → Bool
is_wanting wants [] = wants
is_wanting true (b ∷ bs) = is_prefix b
is_wanting false (b ∷ bs) = if b == 41 then false else true

-- where reading ends
pub record Scan : Type 0 where
  pub wants : Bool
  pub rest : List ℕ

abbrev pub ended : Bool → List ℕ → Scan
ended wants rest = record { wants = wants; rest = rest }

-- what is left where no part is taken, after this many parts at most, and whether a primary is wanted there
unfoldable pub scan_from : ℕ → Bool → List ℕ → Scan
scan_from zero wants text = ended wants text
scan_from (suc n) wants text =
    if step_length wants text == 0 then ended wants text
    else scan_from n (is_wanting wants text) (drop (step_length wants text) text)

abbrev pub scan : List ℕ → Scan
scan text = scan_from (length text) true text

-- whether all parts are taken
abbrev pub is_read_through : List ℕ → Bool
is_read_through text = length (scan text).rest == 0
