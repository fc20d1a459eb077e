-- What is first in bytes does not depend on what comes later.
use Rattle.std.proofs.Common.{◌≡◌, ◌≢◌, ℕ, ◌+◌, ◌-◌, ◌*◌, ◌^◌, ◌<◌, ◌≤◌, length, List, [], ◌∷◌, ◌++◌, Bool, false, cond, arith, Ok, Err, Some, None, Option, ◌==◌, ◌&&◌, ◌||◌, rules}
use Rattle.mx_mmo.proofs.Words.{nat_tests, common_steps, skipped, DueOf, Due, IsWithin, first_item, due_item, lop_item, lop_of, ended_spec, Loc, Skip, File, Line, Spec, Post, Lop, OutOfMemory, Phase, Start, Middle, Posted, Ended}
use Rattle.mx_mmo.specs.declared.lops.Lop.TheVariants as lops
use Rattle.mx_mmo.proofs.Skips.{SkipGrows, SkipWithin, skip-grows, skip-within}

-- where something is first, it is there too after more bytes came
abbrev pub Grows : {A : Type 0} → DueOf A → DueOf A → Type 0
Grows (Ok None) later = Unit {0}
Grows first later = later ≡ first

record Grown {A : Type 0} (first later : DueOf A) : Type 0 where
  is : Grows first later

same-grown : {A : Type 0} (d : DueOf A) → Grown d d
same-grown d = grind arith

cond-grown : {A : Type 0} (b : Bool) (x y x' y' : DueOf A) → Grown x x' → Grown y y' → Grown (cond b x y) (cond b x' y')
cond-grown b x y x' y' h1 h2 = grind arith

ended-grows : (n : ℕ) (first later : Option ℕ) → SkipGrows first later → Grown (ended_spec n first) (ended_spec n later)
ended-grows n first later h = grind arith

lop-grown : (at : ℕ) (lop : Option Lop) (y z : ℕ) (more ys : List ℕ) → Grown (lop_item at lop y z more) (lop_item at lop y z (more ++ ys))
lop-grown at (Some lops.Spec) y z more ys = ended-grows (256 * y + z) (skipped false more) (skipped false (more ++ ys)) (skip-grows false more ys)
lop-grown at lop y z more ys = grind (arith, common_steps, nat_tests)

due-grown : (phase : Phase) (at a code y z : ℕ) (more ys : List ℕ) → Grown (due_item phase at a code y z more) (due_item phase at a code y z (more ++ ys))
due-grown Middle at a code y z more ys = search (rules, cond-grown, lop-grown, same-grown)
due-grown phase at a code y z more ys = grind (arith, common_steps, nat_tests)

pub first-grows : (phase : Phase) (at : ℕ) (xs ys : List ℕ) → Grows (first_item phase at xs) (first_item phase at (xs ++ ys))
first-grows phase at xs ys = search (rules, due-grown)

-- an item takes some of the bytes
record Within {A : Type 0} (due : DueOf A) (n : ℕ) : Type 0 where
  is : IsWithin due n

spec-within : (n : ℕ) (o : Option ℕ) (m : ℕ) → SkipWithin o m → Within (ended_spec n o) (4 + m)
spec-within n o m h = grind arith

lop-within : (at : ℕ) (lop : Option Lop) (y z : ℕ) (more : List ℕ) → Within (lop_item at lop y z more) (4 + length more)
lop-within at (Some lops.Spec) y z more = spec-within (256 * y + z) (skipped false more) (length more) (skip-within false more)
lop-within at lop y z more = grind arith

due-within : (phase : Phase) (at a code y z : ℕ) (more : List ℕ) → Within (due_item phase at a code y z more) (4 + length more)
due-within Middle at a code y z more = grind (arith, nat_tests, lop-within at (lop_of code) y z more)
due-within phase at a code y z more = grind arith

pub first-within : (phase : Phase) (at : ℕ) (xs : List ℕ) → IsWithin (first_item phase at xs) (length xs)
first-within phase at (a ∷ code ∷ y ∷ z ∷ more) = grind (arith, nat_tests, due-within phase at a code y z more)
first-within phase at xs = tt

-- what is given where memory does not run out is within what is there
pub given-within : (given due : Due) (n : ℕ) → (given ≢ Err OutOfMemory → given ≡ due) → IsWithin due n → IsWithin given n
given-within given due n h1 h2 = grind arith
