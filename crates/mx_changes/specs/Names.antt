-- What becomes of names that are changed. The part of a symbol up to its last colon stays, and a local label keeps its letter.
use Rattle.std.specs.Prelude.{ℕ, ◌+◌, ◌==◌, ◌&&◌, ◌||◌, Bool, true, false, List, [], ◌∷◌, ◌++◌, take, Option, None, Some, is_some, if◌then◌else◌}
use Rattle.std.specs.List.{list_all}
use Rattle.mx_word.specs.Kinds.{is_digit, is_letter, is_name_byte}
use Rattle.mx_occurrences.specs.declared.occurrence.Named.{Named}
use Rattle.mx_occurrences.specs.declared.occurrence.Named.TheVariants.{Symbol, Local}
use Rattle.mx_occurrences.specs.declared.occurrence.Occurrence.{Occurrence}

-- ---- what may be a new name

-- 72 is H, 66 is B and 70 is F
abbrev pub is_way : ℕ → Bool
is_way b = b == 72 || b == 66 || b == 70

abbrev pub digit_if : ℕ → Bool → Option ℕ
digit_if b is = if is_digit b && is then Some b else None

-- the digit of a local label: d, dH, dB or dF
abbrev pub new_digit : List ℕ → Option ℕ
new_digit (d ∷ []) = digit_if d true
new_digit (d ∷ way ∷ []) = digit_if d (is_way way)
new_digit name = None

abbrev pub are_name_bytes : List ℕ → Bool
are_name_bytes text = list_all is_name_byte text

abbrev pub is_name : List ℕ → Bool
is_name [] = false
is_name (b ∷ bs) = is_letter b && are_name_bytes (b ∷ bs)

abbrev pub may_have : Named → List ℕ → Bool
may_have (Symbol symbol) name = is_name name
may_have (Local d n) name = is_name name || is_some (new_digit name)

-- ---- what a name becomes

-- how many bytes the last colon and what is before it have: 58 is a colon
unfoldable pub lead_from : ℕ → ℕ → List ℕ → ℕ
lead_from place length [] = length
lead_from place length (b ∷ bs) = lead_from (place + 1) (if b == 58 then place + 1 else length) bs

abbrev pub new_symbol : List ℕ → List ℕ → List ℕ
new_symbol old name = take (lead_from 0 0 old) old ++ name

abbrev pub way_of : List ℕ → Option ℕ
way_of (d ∷ way ∷ []) = Some way
way_of text = None

abbrev pub local_with : ℕ → Option ℕ → List ℕ
local_with d None = d ∷ []
local_with d (Some way) = d ∷ way ∷ []

abbrev pub new_local_by : List ℕ → List ℕ → Option ℕ → List ℕ
new_local_by old name None = name
new_local_by old name (Some d) = local_with d (way_of old)

abbrev pub new_local : List ℕ → List ℕ → List ℕ
new_local old name = new_local_by old name (new_digit name)

abbrev pub new_by : Named → List ℕ → List ℕ → List ℕ
new_by (Symbol symbol) old name = new_symbol old name
new_by (Local d n) old name = new_local old name

abbrev pub new_text : Occurrence → List ℕ → List ℕ
new_text o name = new_by o.named o.text name
