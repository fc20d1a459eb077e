-- The nearest base, register by register.
use Rattle.std.proofs.Common.{◌≡◌, ◌≢◌, ◌<◌, ◌≤◌, ℕ, zero, suc, ◌+◌, ◌-◌, List, [], ◌∷◌, length, drop, Option, None, Some, slice_index, arith, add-one, refl, ap, subst, ◌∙◌, rules}
use Rattle.std.proofs.lemmas.Bool.{eqb-true, eqb-false, leb-true, leb-false}
use Rattle.std.proofs.lemmas.List.{drop_more}
use Rattle.std.proofs.Math.Seq.{drop-length}
use Rattle.mx_word.specs.Words.{difference}
use Rattle.mx_names.specs.declared.gregs.Base.{Base}
use Rattle.mx_names.specs.Gregs.{IsNearest, greg_value, lowest_of, nearest_base, nearest_from, nearer_base, with_register}

pub nearest-none : (address first : ℕ) (values : List ℕ) → nearest_from address first (drop (length values) values) ≡ None
unfolding nearest_from
nearest-none address first values = ap (nearest_from address first) (drop-length values)

pub nearest-next : (address first i : ℕ) (values : List ℕ) → i < length values → nearest_from address (first + i) (drop i values) ≡ with_register address (first + i) (slice_index values i) (nearest_from address (first + (i + 1)) (drop (i + 1) values))
unfolding nearest_from
nearest-next address first i values h = ap (nearest_from address (first + i)) (drop_more values i 0 h) ∙ ap (λ n. with_register address (first + i) (slice_index values i) (nearest_from address n (drop (i + 1) values))) (omega arith)

pub nearest-before : (address first n : ℕ) (values : List ℕ) (nearest : Option Base) → 0 < n → n ≤ length values → nearest ≡ nearest_from address (first + n) (drop n values) → with_register address (first + (n - 1)) (slice_index values (n - 1)) nearest ≡ nearest_from address (first + (n - 1)) (drop (n - 1) values)
nearest-before address first n values nearest some within is = search (rules, nearest-next)

-- the nearest base among registers from a first one on
pub record NearestIn (address first : ℕ) (values : List ℕ) (base : Base) : Type 0 where
  pub place : ℕ
  pub register : base.reg ≡ first + place
  pub within : place < length values
  pub nonzero : slice_index values place ≢ 0
  pub above : base.above ≡ difference address (slice_index values place)
  pub least : (i : ℕ) → i < length values → slice_index values i ≢ 0 → base.above ≤ difference address (slice_index values i)

abbrev Found : ℕ → ℕ → List ℕ → Option Base → Type 0
Found address first values None = (i : ℕ) → i < length values → slice_index values i ≡ 0
Found address first values (Some base) = NearestIn address first values base

abbrev base_at : ℕ → ℕ → ℕ → Base
base_at address reg value = record { reg = reg; above = difference address value }

-- one register more in front
found-zero : (address first value : ℕ) (values : List ℕ) (others : Option Base) → value ≡ 0 → Found address (first + 1) values others → Found address first (value ∷ values) others
found-zero address first value values None none found = λ i. elim i as (λ i. i < suc (length values) → slice_index (value ∷ values) i ≡ 0) [ zero ↦ λ h. none | suc i ↦ λ h. found i (omega (arith, h)) ]
found-zero address first value values (Some base) none found = record {
  place = found.place + 1;
  register = omega (arith, found.register);
  within = omega (arith, found.within);
  nonzero = rw add-one found.nonzero;
  above = rw add-one found.above;
  least = λ i. elim i as (λ i. i < suc (length values) → slice_index (value ∷ values) i ≢ 0 → base.above ≤ difference address (slice_index (value ∷ values) i))
      [ zero ↦ λ h some. absurd (some none) | suc i ↦ λ h some. found.least i (omega (arith, h)) some ];
}

found-later : (address first value : ℕ) (values : List ℕ) (other : Base) → other.above ≤ difference address value → NearestIn address (first + 1) values other → NearestIn address first (value ∷ values) other
found-later address first value values other closer found = record {
  place = found.place + 1;
  register = omega (arith, found.register);
  within = omega (arith, found.within);
  nonzero = rw add-one found.nonzero;
  above = rw add-one found.above;
  least = λ i. elim i as (λ i. i < suc (length values) → slice_index (value ∷ values) i ≢ 0 → other.above ≤ difference address (slice_index (value ∷ values) i))
      [ zero ↦ λ h some. closer | suc i ↦ λ h some. found.least i (omega (arith, h)) some ];
}

found-nearer : (address first value : ℕ) (values : List ℕ) (others : Option Base) → value ≢ 0 → Found address (first + 1) values others → Found address first (value ∷ values) (Some (nearer_base (base_at address first value) others))
found-nearer address first value values others h1 h2 = grind (arith, leb-true, leb-false, found-later)

nearest-found : (address first : ℕ) (values : List ℕ) → Found address first values (nearest_from address first values)
unfolding nearest_from
nearest-found address first [] = λ i h. absurd (omega (arith, h))
nearest-found address first (value ∷ values) = search (rules, nearest-found address (first + 1) values, found-zero, eqb-true, found-nearer, eqb-false)

pub nearest-is : (gregs : List ℕ) (address : ℕ) (base : Base) → length gregs ≤ 255 → nearest_base gregs address ≡ Some base → IsNearest gregs address base
nearest-is gregs address base bound is = search (rules, nearest-found)

-- there is none where all values are 0
pub nearest-none-is : (gregs : List ℕ) (address : ℕ) → nearest_base gregs address ≡ None → (reg : ℕ) → lowest_of gregs ≤ reg → reg < 255 → greg_value gregs reg ≡ 0
nearest-none-is gregs address is reg low high = subst (Found address (lowest_of gregs) gregs) is (nearest-found address (lowest_of gregs) gregs) (reg - lowest_of gregs) (omega arith)

pub nearest-is-none : (gregs : List ℕ) (address : ℕ) → length gregs ≤ 255 → ((reg : ℕ) → lowest_of gregs ≤ reg → reg < 255 → greg_value gregs reg ≡ 0) → nearest_base gregs address ≡ None
nearest-is-none gregs address bound zeros = by (nearest_base gregs address) refl
  where
    by : (nearest : Option Base) → nearest_base gregs address ≡ nearest → nearest ≡ None
    by None is = refl
    by (Some base) is = let n = nearest-is gregs address base bound is in absurd (n.nonzero (zeros base.reg n.allocated n.global))
