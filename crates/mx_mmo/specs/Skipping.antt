-- The tetras that a spec skips.
-- (MMIXware, the part on MMIXAL, "Binary MMO output".)
use Rattle.std.specs.Prelude.{ℕ, ◌+◌, ◌==◌, ◌&&◌, Bool, true, false, List, [], ◌∷◌, Option, Some, None, if◌then◌else◌}

-- whether the tetra after this one is quoted, by whether this one is; nothing where this one ends a spec: a lopcode other
-- than a quote with YZ = 1
abbrev pub quote_after : Bool → ℕ → ℕ → ℕ → ℕ → Option Bool
quote_after true a code y z = Some false
quote_after false a code y z =
    if a == 0x98 then (if code == 0 && y == 0 && z == 1 then Some true else None) else Some false

-- four bytes more
abbrev pub four_more : Option ℕ → Option ℕ
four_more None = None
four_more (Some n) = Some (4 + n)

-- what a tetra that is skipped has after it, by `following`
abbrev pub skip_on : (Bool → Option ℕ) → Option Bool → Option ℕ
skip_on following None = Some 0
skip_on following (Some quoted) = four_more (following quoted)

-- how many bytes are before the lopcode that ends a spec, where it is there; `quoted` tells whether the first tetra is
abbrev pub skipped : Bool → List ℕ → Option ℕ
skipped quoted (a ∷ code ∷ y ∷ z ∷ more) = skip_on (λ q. skipped q more) (quote_after quoted a code y z)
skipped quoted _ = None

abbrev pub quoted_on : (Bool → Option Bool) → Option Bool → Option Bool
quoted_on following None = None
quoted_on following (Some quoted) = following quoted

-- whether the tetra after these is quoted, where all of these are skipped
abbrev pub quoted_after : Bool → List ℕ → Option Bool
quoted_after quoted [] = Some quoted
quoted_after quoted (a ∷ code ∷ y ∷ z ∷ more) = quoted_on (λ q. quoted_after q more) (quote_after quoted a code y z)
quoted_after quoted _ = None
