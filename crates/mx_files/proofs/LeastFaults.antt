-- The place at which a schedule is refused is the least one at which it is at fault.
use Rattle.std.proofs.Common.{◌≡◌, ℕ, zero, suc, ◌<◌, ◌≤◌, ◌==◌, Bool, true, false, cond, nat_lt, List, [], ◌∷◌, length, get_or, Option, None, Some, Ok, Err, arith, refl, subst, ap}
use Rattle.std.specs.Prelude.{◌↔◌}
use Rattle.std.specs.List.{position}
use Rattle.std.proofs.lemmas.Bool.Decides.{nat_tests}
use Rattle.std.proofs.lemmas.List.Quantifiers.{position-Some}
use Rattle.mx_files.specs.Schedules.{AreEight, IsAtFault, empty, long, unnamed, IsLeastFault, IsFaultless, longest, is_unnamed, length_fault, least_fault, judged, schedule_in, schedule_fault}
use Rattle.mx_outcome.specs.declared.outcome.Outcome.TheVariants.{BadSchedule}
use Rattle.mx_files.proofs.ReadSchedules.{none-named}

-- ---- bytes that name none of eight

pub eight-up : (b : ℕ) → is_unnamed b ≡ true → 8 ≤ b
eight-up b h = grind (arith, nat_tests)

below-eight : (b : ℕ) → is_unnamed b ≡ false → 8 ≤ b → ⊥
below-eight b h l = grind (arith, nat_tests)

no-named : (bytes : List ℕ) (k : ℕ) → AreEight bytes → k < length bytes → 8 ≤ get_or bytes k 0 → ⊥
no-named [] k h l e = absurd (omega (arith, l))
no-named (b ∷ bs) zero h l e = (let below = h.0 in omega (arith, below, e))
no-named (b ∷ bs) (suc k) h l e = no-named bs k h.1 (omega (arith, l)) e

-- none is below a place
abbrev NamedBelow : List ℕ → ℕ → Type 0
NamedBelow bytes place = (k : ℕ) → k < place → is_unnamed (get_or bytes k 0) ≡ false

from-place : (bytes : List ℕ) (place k : ℕ) (b : Bool) → nat_lt k place ≡ b → NamedBelow bytes place → 8 ≤ get_or bytes k 0 → place ≤ k
from-place bytes place k true t h e = absurd (below-eight (get_or bytes k 0) (h k (grind (arith, nat_tests))) e)
from-place bytes place k false t h e = grind (arith, nat_tests)

-- ---- the fault, by what is found and by the length

abbrev Judges : List ℕ → Option ℕ → Type 0
Judges bytes None = IsFaultless bytes
Judges bytes (Some place) = IsLeastFault bytes place

found-least : (bytes : List ℕ) (place k : ℕ) → place < length bytes → place < longest → NamedBelow bytes place → IsAtFault bytes k → place ≤ k
found-least bytes place k l m h empty = absurd (omega (arith, l))
found-least bytes place k l m h (long _ g) = omega (arith, m)
found-least bytes place k l m h (unnamed _ _ g e) = from-place bytes place k (nat_lt k place) refl h e

-- each byte that names none is past the longest schedule
abbrev Late : List ℕ → Type 0
Late bytes = (k : ℕ) → k < length bytes → 8 ≤ get_or bytes k 0 → longest ≤ k

long-least : (bytes : List ℕ) (k : ℕ) → longest < length bytes → Late bytes → IsAtFault bytes k → longest ≤ k
long-least bytes k l late empty = absurd (omega (arith, l))
long-least bytes k l late (long _ g) = omega arith
long-least bytes k l late (unnamed _ _ g e) = late k g e

within-none : (bytes : List ℕ) (k : ℕ) → 0 < length bytes → length bytes ≤ longest → Late bytes → IsAtFault bytes k → ⊥
within-none bytes k l m late empty = absurd (omega (arith, l))
within-none bytes k l m late (long _ g) = omega (arith, m, g)
within-none bytes k l m late (unnamed _ _ g e) = (let following = late k g e in omega (arith, m, g, following))

none-judged : (bytes : List ℕ) → (length bytes == 0) ≡ true → IsLeastFault bytes 0
none-judged [] h = record { fault = empty; least = λ k f. omega arith }
none-judged (b ∷ bs) h = absurd (grind (arith, nat_tests))

length-judged : (bytes : List ℕ) (a b : Bool) → (length bytes == 0) ≡ a → nat_lt longest (length bytes) ≡ b → Late bytes → Judges bytes (cond a (Some 0) (cond b (Some longest) None))
length-judged bytes true b h g late = none-judged bytes h
length-judged bytes false true h g late =
    let more : longest < length bytes = grind (arith, nat_tests) in record { fault = long bytes more; least = λ k f. long-least bytes k more late f }
length-judged bytes false false h g late =
    let some : 0 < length bytes = grind (arith, nat_tests) in let most : length bytes ≤ longest = grind (arith, nat_tests) in λ k f. within-none bytes k some most late f

by-length : (bytes : List ℕ) → Late bytes → Judges bytes (length_fault (length bytes))
by-length bytes late = length-judged bytes (length bytes == 0) (nat_lt longest (length bytes)) refl refl late

found-judged : (bytes : List ℕ) (place : ℕ) (b : Bool) → nat_lt place longest ≡ b → place < length bytes → is_unnamed (get_or bytes place 0) ≡ true → NamedBelow bytes place →
    Judges bytes (cond b (Some place) (length_fault (length bytes)))
found-judged bytes place true t l e h =
    let first : place < longest = grind (arith, nat_tests) in
    record { fault = unnamed bytes place l (eight-up (get_or bytes place 0) e); least = λ k f. found-least bytes place k l first h f }
found-judged bytes place false t l e h =
    let following : longest ≤ place = grind (arith, nat_tests) in
    by-length bytes (λ k g u. (let from = from-place bytes place k (nat_lt k place) refl h u in omega (arith, following, from)))

place-judged : (bytes : List ℕ) (found : Option ℕ) → position is_unnamed bytes ≡ found → Judges bytes (least_fault found (length bytes))
place-judged bytes None e = by-length bytes (λ k l u. absurd (no-named bytes k (none-named bytes e) l u))
place-judged bytes (Some place) e =
    let at = position-Some is_unnamed bytes place 0 e in found-judged bytes place (nat_lt place longest) refl at.0 at.1 at.2

fault-judged : (bytes : List ℕ) → Judges bytes (schedule_fault bytes)
fault-judged bytes = place-judged bytes (position is_unnamed bytes) refl

-- ---- a schedule

all-eight : (bytes : List ℕ) → ((k : ℕ) → k < length bytes → 8 ≤ get_or bytes k 0 → ⊥) → AreEight bytes
all-eight [] h = tt
all-eight (b ∷ bs) h = (let first = h 0 (omega arith) in omega (arith, first), all-eight bs (λ k l u. h (suc k) (omega (arith, l)) u))

pub faultless-named : (bytes : List ℕ) → schedule_fault bytes ≡ None → AreEight bytes
faultless-named bytes e = let none = subst (Judges bytes) e (fault-judged bytes) in all-eight bytes (λ k l u. none k (unnamed bytes k l u))

refused-by : (bytes : List ℕ) (place : ℕ) (o : Option ℕ) → Judges bytes o → (judged o bytes ≡ Err (BadSchedule place)) ↔ IsLeastFault bytes place
refused-by bytes place None h = (λ e. absurd (cc), λ f. absurd (h place f.fault))
refused-by bytes place (Some found) h = (
  λ e. (let same : found ≡ place = cc in subst (IsLeastFault bytes) same h),
  λ f. (let up = h.least place f.fault in let down = f.least found h.fault in let same : found ≡ place = omega (arith, up, down) in ap (λ p. Err (BadSchedule p)) same),
)

taken-by : (bytes : List ℕ) (o : Option ℕ) → Judges bytes o → (judged o bytes ≡ Ok bytes) ↔ IsFaultless bytes
taken-by bytes None h = (λ e. h, λ f. refl)
taken-by bytes (Some found) h = (λ e. absurd (cc), λ f. absurd (f found h.fault))

pub schedule-refused : (bytes : List ℕ) (place : ℕ) → (schedule_in bytes ≡ Err (BadSchedule place)) ↔ IsLeastFault bytes place
unfolding schedule_in
schedule-refused bytes place = refused-by bytes place (schedule_fault bytes) (fault-judged bytes)

pub schedule-taken : (bytes : List ℕ) → (schedule_in bytes ≡ Ok bytes) ↔ IsFaultless bytes
unfolding schedule_in
schedule-taken bytes = taken-by bytes (schedule_fault bytes) (fault-judged bytes)

pub ruleset judging = (schedule-refused, schedule-taken)
