-- Tallies as the code finds them: entry by entry, and tetra by tetra of a line. `Counting` and `Sheets` say what they are;
-- the proof says that both are the same.
use Rattle.std.specs.Prelude.{ℕ, ◌==◌, ◌||◌, Bool, false, if◌then◌else◌, List, [], ◌∷◌, Option, None, Some}
use Rattle.std.specs.Map.{lookup}
use Rattle.std.specs.Ordering.{nat_cmp}
use Rattle.std.specs.BTreeMap as tree
use Rattle.mx_count.specs.Sheets.{LineTally}
use Rattle.mx_count.specs.Tallies.{nothing, added}
use Rattle.mx_count.specs.declared.counts.Entry.{Entry}
use Rattle.mx_count.specs.declared.tally.Tally.{Tally}

-- the tally of each address
abbrev pub AddressTally : Type 0
AddressTally = ℕ → Tally

-- by a map
abbrev pub or_nothing : Option Tally → Tally
or_nothing None = nothing
or_nothing (Some y) = y

unfoldable pub sum_at : List (ℕ × Tally) → AddressTally
sum_at sums a = or_nothing (lookup (tree.is_at (nat_cmp a)) sums)

unfoldable pub no_sums : AddressTally
no_sums a = nothing

-- with more at an address
unfoldable pub with_more : AddressTally → ℕ → Tally → AddressTally
with_more sums address y a = added (sums a) (if address == a then y else nothing)

-- with the tallies of entries
unfoldable pub with_entries : AddressTally → List Entry → AddressTally
with_entries sums [] = sums
with_entries sums (e ∷ es) = with_entries (with_more sums e.address e.tally) es

-- the tally of entries, in turn
unfoldable pub summed : Tally → List Entry → Tally
summed y [] = y
summed y (e ∷ es) = summed (added y e.tally) es

-- which addresses were seen, with one more
unfoldable pub with_seen : (ℕ → Bool) → ℕ → ℕ → Bool
with_seen seen address a = address == a || seen a

-- the tally of those of these tetras that were not seen yet, in turn
unfoldable pub unseen_tally : AddressTally → (ℕ → Bool) → Tally → LineTally
unseen_tally sums seen y [] = y
unseen_tally sums seen y (c ∷ cells) =
    unseen_tally sums (with_seen seen c.address) (added y (if seen c.address then nothing else sums c.address)) cells

abbrev pub tally_by : AddressTally → LineTally
tally_by sums cells = unseen_tally sums (λ a. false) nothing cells
