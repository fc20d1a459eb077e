-- The references that wait: one list in the order in which they were made. They are kept in groups, one for each name or label,
-- and each has its number in that order.
-- (MMIXware, the part on MMIXAL: future references; TAOCP 1, Fascicle 1, section 1.3.2'.)
use Rattle.std.specs.Prelude.{◌≡◌, ◌<◌, ℕ, not, nat_lt, if◌then◌else◌, List, [], ◌∷◌, map, filter, Option, None, Some, option_map}
use Rattle.std.specs.Borrow.{Bor}
use Rattle.std.specs.List.{AllByRecursion}
use Rattle.mx_word.specs.declared.waits.Awaited.{Awaited}
use Rattle.mx_word.specs.declared.waits.Awaited.TheVariants.{Name, Local}
use Rattle.mx_word.specs.declared.waits.Wait.{Wait}
use Rattle.mx_word.specs.Waits.{same_awaited}

-- the references to one name or label, and the others
abbrev pub waits_for : Awaited → List Wait → List Wait
waits_for who waits = filter (λ (w : Wait). same_awaited w.who who) waits

abbrev pub waits_for_others : Awaited → List Wait → List Wait
waits_for_others who waits = filter (λ (w : Wait). not (same_awaited w.who who)) waits

-- the first of a list, such as the earliest reference
abbrev pub first_of : {A : Type 0} → List A → Option A
first_of [] = None
first_of (x ∷ xs) = Some x

-- the key of a group
abbrev pub key_of : Awaited → List ℕ
key_of (Name full) = 0 ∷ full
key_of (Local d) = 1 ∷ d ∷ []

-- a reference with its number
abbrev pub Numbered : Type 0
Numbered = ℕ × Wait

-- references in the order of their numbers, with one more and with a group more
abbrev pub with_one : Numbered → List Numbered → List Numbered
with_one x [] = x ∷ []
with_one x (y ∷ ys) = if nat_lt x.0 y.0 then x ∷ y ∷ ys else y ∷ with_one x ys

abbrev pub with_group : List Numbered → List Numbered → List Numbered
with_group [] later = later
with_group (x ∷ xs) later = with_one x (with_group xs later)

-- the references of all groups in the order of their numbers
abbrev pub all_in_order : {K : Type 0} → List (K × List Numbered) → List Numbered
all_in_order [] = []
all_in_order (e ∷ es) = with_group e.1 (all_in_order es)

abbrev pub waits_of : List Numbered → List Wait
waits_of xs = map (λ (x : Numbered). x.1) xs

-- numbers that rise
abbrev pub AreRising : List Numbered → Type 0
AreRising [] = Unit {0}
AreRising (x ∷ xs) = AllByRecursion (λ (y : Numbered). x.0 < y.0) xs × AreRising xs

-- what a group is: its numbers rise and lie below the next one, and each reference has the group's key
pub record IsGroup (key : List ℕ) (made : ℕ) (group : List Numbered) : Type 0 where
  pub rising : AreRising group
  pub below : AllByRecursion (λ (x : Numbered). x.0 < made) group
  pub keyed : AllByRecursion (λ (x : Numbered). key_of x.1.who ≡ key) group

abbrev pub AreGroups : {K : Type 0} → (K → List ℕ) → ℕ → List (K × List Numbered) → Type 0
AreGroups {K} bytes made entries = AllByRecursion (λ (e : K × List Numbered). IsGroup (bytes e.0) made e.1) entries

-- the earlier of two references that may be there
abbrev pub earlier_of_two : Option Numbered → Option Numbered → Option Numbered
earlier_of_two None other = other
earlier_of_two (Some x) None = Some x
earlier_of_two (Some x) (Some y) = if nat_lt x.0 y.0 then Some x else Some y

-- a reference that is lent, with its number
abbrev pub numbered_wait : ℕ × Bor Wait → Numbered
numbered_wait lent = (lent.0, lent.1.now)

abbrev pub lent_wait : Option (ℕ × Bor Wait) → Option Numbered
lent_wait lent = option_map numbered_wait lent
