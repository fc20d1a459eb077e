-- Pages and their places.
use Rattle.std.proofs.Common.{◌≡◌, ◌<◌, [], ℕ, List, length, Option, Some, None, ap, sym, ◌∙◌}
use Rattle.std.specs.Prelude.{IfSome, slice_get}
use Rattle.std.specs.Ordering.{nat_cmp}
use Rattle.std.specs.BTreeMap.{BTreeMap, get}
use Rattle.std.proofs.lemmas.Option.{slice_get_within, get_or_from_slice_get}
use Rattle.mx_mem.specs.Held.{Indexed}

-- the place of a page that is at a place
pub place-here : (pages : List (ℕ × List ℕ)) (places : BTreeMap ℕ ℕ) (i : ℕ) (p : ℕ × List ℕ) → Indexed pages places → slice_get pages i ≡ Some p → Some i ≡ get nat_cmp places p.0
place-here pages places i p ix e =
    sym (ap (λ (q : ℕ × List ℕ). get nat_cmp places q.0) (sym (get_or_from_slice_get pages i p (0, []) e)) ∙ ix.named i (slice_get_within pages i p e))

-- a place that is found is one in the list
pub place-within : (o : Option ℕ) (pages : List (ℕ × List ℕ)) (places : BTreeMap ℕ ℕ) (p : ℕ) → Indexed pages places → o ≡ get nat_cmp places p → IfSome o (λ i. i < length pages)
place-within None pages places p ix e = tt
place-within (Some i) pages places p ix e = (ix.placed p i (sym e)).0
