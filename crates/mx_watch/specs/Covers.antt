-- How many addresses were carried out.
use Rattle.std.specs.Prelude.{ℕ, ◌≡◌, false, List, [], ◌∷◌, ◌++◌, Option, IfSome, codes, decimal, length, map}
use Rattle.std.specs.List.{All}
use Rattle.std.specs.Ordering.{nat_cmp}
use Rattle.std.specs.BTreeSet.{insert_key}
use Rattle.mx_code.specs.declared.trace.Trace.{Trace}
use Rattle.mx_watch.specs.Watching.{Watching}

-- the addresses of the steps beside those that were there, each once, in ascending order
unfoldable pub addresses_after : List ℕ → List Trace → List ℕ
addresses_after addresses [] = addresses
addresses_after addresses (t ∷ ts) = addresses_after (insert_key nat_cmp addresses t.pc) ts

abbrev pub cover_text : ℕ → List ℕ
cover_text n = codes "cover " ++ decimal n ++ codes "\n"

abbrev pub covering : List ℕ → Watching
covering addresses = record { text = λ h. cover_text (length (addresses_after addresses h)); full = λ h. false }

-- the address of the instruction of each step, in turn
abbrev pub addresses_of : List Trace → List ℕ
addresses_of h = map (λ t. t.pc) h

-- an address that is there already adds nothing
abbrev pub IsKnown : List ℕ → ℕ → Type 0
IsKnown addresses a = insert_key nat_cmp addresses a ≡ addresses

-- each address that is remembered is there
abbrev pub Remembers : List ℕ → List (Option ℕ) → Type 0
Remembers addresses remembered = All (λ o. IfSome o (IsKnown addresses)) remembered
