-- The octas of the pool, where their addresses are octas.
use Rattle.std.specs.Prelude.{ℕ, ◌^◌, nat_lt, if◌then◌else◌, List, Option, None, Some}
use Rattle.mx_start.specs.Start.{first_text, texts_end, pool_octas}

-- a number that is an octa
abbrev pub as_octa : ℕ → Option ℕ
as_octa n = if nat_lt n (2 ^ 64) then Some n else None

-- where the first text is and the last one ends, the latter an octa
abbrev pub places_of : List (List ℕ) → Option (ℕ × ℕ)
places_of texts =
    if nat_lt (texts_end (first_text texts) texts) (2 ^ 64) then Some (first_text texts, texts_end (first_text texts) texts)
    else None

-- the octas of the pool, where they end at an octa
abbrev pub pool_list : List (List ℕ) → Option (List ℕ)
pool_list texts = if nat_lt (texts_end (first_text texts) texts) (2 ^ 64) then Some (pool_octas texts) else None
