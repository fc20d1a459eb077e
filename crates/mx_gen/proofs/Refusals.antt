-- Statements that place few bytes low in memory, and whose references are near, are not refused.
use Rattle.std.proofs.Common.{◌≡◌, ℕ, ◌+◌, ◌-◌, ◌/◌, ◌%◌, ◌^◌, ◌<◌, ◌≤◌, Bool, false, cond, List, [], ◌∷◌, ◌++◌, length, fold, filter, Option, None, Some, Ok, refl, sym, ap, ◌∙◌, arith, subst, ⊎_elim, nat_le, rules}
use Rattle.mx_gen.proofs.Words.{AllByRecursion, list_any, cond_both, cases_lt, le-leb, lt-ltb, nat_tests, Value, Pure, Reg, Wait, Near, NameTable, Placed, near_reach, forward_word, backward_word, relative_word, Known, no_targets, StatementTree, encoding, Sight, known_following, known_with, known_after, sights_from, outline, waits_in, references, is_local, label_fault, refusal_of, statement_fault, first_of, first_fault, unreferenced, first_undefined, locals}
use Rattle.mx_mmo.specs.declared.items.Item.{Item}
use Rattle.mx_stmt.specs.declared.placed.Effect.TheVariants as effect
use Rattle.mx_asm.specs.Fixes.{from_last, relative_fix, word_fix, pure_fix, fix_of, with_fix, fixes, awaited_value}

-- ---- relative addresses

forward-ok : (head reach d : ℕ) → d % 4 ≡ 0 → d / 4 < reach → forward_word head reach d ≡ Ok (head + d / 4)
forward-ok head reach d four low = rw (four, lt-ltb (d / 4) reach low) refl

backward-ok : (head reach d : ℕ) → d % 4 ≡ 0 → d / 4 ≤ reach → backward_word head reach d ≡ Ok (head + 2 ^ 24 + (reach - d / 4))
backward-ok head reach d four low = rw (four, le-leb (d / 4) reach low) refl

not-at-most : (a b : ℕ) → b < a → nat_le a b ≡ false
not-at-most a b lt = grind (arith, nat_tests)

-- two low places reach each other
pub word-there : (head place target : ℕ) → place % 4 ≡ 0 → target % 4 ≡ 0 → place < 2 ^ 18 → target < 2 ^ 18 → (word : ℕ) × (relative_word head near_reach place target ≡ Ok word)
word-there head place target p t lp lt =
    ⊎_elim
    (λ less. (
      head + 2 ^ 24 + (near_reach - (place - target) / 4),
      ap (λ b. cond b (forward_word head near_reach (target - place)) (backward_word head near_reach (place - target))) (not-at-most place target less)
          ∙ backward-ok head near_reach (place - target) (omega (arith, p, t, less)) (omega (arith, lp)),
    ))
    (λ most. (
      head + (target - place) / 4,
      ap (λ b. cond b (forward_word head near_reach (target - place)) (backward_word head near_reach (place - target))) (le-leb place target most)
          ∙ forward-ok head near_reach (target - place) (omega (arith, p, t, most)) (omega (arith, lt)),
    ))
    (cases_lt target place)

-- ---- references that are near

-- a reference of 16 bits from a low place
pub record IsNear (w : Wait) : Type 0 where
  pub kind : w.kind ≡ Near
  pub whole : w.at % 4 ≡ 0
  pub low : w.at < 2 ^ 18

abbrev pub AreNear : List Wait → Type 0
AreNear waits = AllByRecursion IsNear waits

fix-there : (v : ℕ) (w : Wait) → v % 4 ≡ 0 → v < 2 ^ 18 → IsNear w → (item : Item) × (fix_of (Pure v) w ≡ Ok item)
fix-there v w whole low h =
    let r = word-there 0 w.at v h.whole whole h.low low in
    (word_fix 16 r.0, ap (λ k. pure_fix w.at k v) h.kind ∙ ap (relative_fix 16) r.1)

pub fixes-there : (line v : ℕ) (waits : List Wait) → v % 4 ≡ 0 → v < 2 ^ 18 → AreNear waits → (items : List Item) × (fixes line (Pure v) waits ≡ Ok items)
unfolding fixes
fixes-there line v [] whole low h = ([], refl)
fixes-there line v (w ∷ ws) whole low h =
    let f = fix-there v w whole low h.0 in
    let rest = fixes-there line v ws whole low h.1 in
    (f.0 ∷ rest.0, ap (λ r. with_fix line w.line r (fixes line (Pure v) ws)) f.1 ∙ ap (λ r. with_fix line w.line (Ok f.0) r) rest.1)

-- ---- lists, all of which are so

pub all-append : {A : Type 0} (P : A → Type 0) (xs ys : List A) → AllByRecursion P xs → AllByRecursion P ys → AllByRecursion P (xs ++ ys)
all-append P [] ys h g = g
all-append P (x ∷ xs) ys h g = (h.0, all-append P xs ys h.1 g)

all-filter : {A : Type 0} (P : A → Type 0) (keep : A → Bool) (xs : List A) → AllByRecursion P xs → AllByRecursion P (filter keep xs)
all-filter P keep [] h = tt
all-filter P keep (x ∷ xs) h = cond_both (keep x) _ _ (AllByRecursion P) (λ _. (h.0, (all-filter P keep xs h.1))) (λ _. all-filter P keep xs h.1)

-- ---- a statement

abbrev pub HasNear : Sight → Type 0
HasNear s = AreNear (waits_in (outline s))

near-references : (sights : List Sight) → AllByRecursion HasNear sights → AreNear (references sights)
unfolding references
near-references [] h = tt
near-references (s ∷ later) h = all-append IsNear (waits_in (outline s)) (references later) h.0 (near-references later h.1)

near-from-last : (d : ℕ) (sights : List Sight) → AllByRecursion HasNear sights → AllByRecursion HasNear (from_last d sights)
unfolding from_last
near-from-last d [] h = tt
near-from-last d (s ∷ later) h = cond_both (list_any (λ (t : Sight). is_local d t.statement.label) later) _ _ (AllByRecursion HasNear) (λ _. near-from-last d later h.1) (λ _. h)

-- a label's value that is a low address
abbrev pub IsLow : Option Value → Type 0
IsLow None = Unit {0}
IsLow (Some (Pure v)) = (v % 4 ≡ 0) × (v < 2 ^ 18)
IsLow (Some (Reg r)) = ⊥

-- A statement that is placed below 2^18 with no effect, with a new label and near references.
pub record IsFine (s : Sight) : Type 0 where
  pub placed : Placed
  pub outlined : outline s ≡ Ok placed
  pub label : label_fault s.known.names s.statement.label ≡ None
  pub waits : AreNear placed.waits
  pub value : IsLow placed.label
  pub effect : placed.effect ≡ effect.Plain
  pub room : placed.start + length placed.bytes ≤ 2 ^ 18

fixes-none : (line : ℕ) (value : Option Value) (waits : List Wait) → IsLow value → AreNear waits → refusal_of (fixes line (awaited_value value) waits) ≡ None
fixes-none line None waits h g = ap refusal_of (fixes-there line 0 waits refl (omega arith) g).1
fixes-none line (Some (Pure v)) waits h g = ap refusal_of (fixes-there line v waits h.0 h.1 g).1
fixes-none line (Some (Reg r)) waits h g = absurd h

pub fine-near : (s : Sight) → IsFine s → HasNear s
fine-near s h = subst (λ r. AreNear (waits_in r)) (sym h.outlined) h.waits

fine-faultless : (earlier : List Sight) (s : Sight) → AllByRecursion HasNear earlier → IsFine s → statement_fault earlier s ≡ None
fine-faultless earlier s h is = search (rules, fixes-none, fine-near, all-filter, near-references, all-append, near-from-last)

pub faultless : (earlier later : List Sight) → AllByRecursion HasNear earlier → AllByRecursion IsFine later → first_fault earlier later ≡ None
unfolding first_fault
faultless earlier [] h g = refl
faultless earlier (s ∷ later) h g = grind (arith, fine-faultless, all-append, fine-near, faultless (earlier ++ s ∷ []) later (all-append HasNear earlier (s ∷ []) h (fine-near s g.0, tt)) g.1)

pub no-locals : (sights : List Sight) → AllByRecursion IsFine sights → locals sights ≡ []
unfolding locals
no-locals [] h = refl
no-locals (s ∷ later) h = grind (arith, no-locals later h.1)

-- ---- what is referred to is defined

-- each reference means something
abbrev pub AreMet : NameTable → List Sight → Type 0
AreMet final [] = Unit {0}
AreMet final (s ∷ later) = (unreferenced final later (waits_in (outline s)) ≡ None) × AreMet final later

pub all-defined : (final : NameTable) (sights : List Sight) → AreMet final sights → first_undefined final sights ≡ None
unfolding first_undefined
all-defined final [] h = refl
all-defined final (s ∷ later) h = ap (λ r. first_of r (first_undefined final later)) h.0 ∙ all-defined final later h.1

-- ---- statements one after another

-- These statements are fine after what is known, and their references mean something among the final names.
pub record AreGood (final : NameTable) (k : Known) (statements : List StatementTree) : Type 0 where
  pub fine : AllByRecursion IsFine (sights_from k statements)
  pub met : AreMet final (sights_from k statements)

-- a statement that comes to this and leads to what is known then
pub record Leads (k : Known) (s : StatementTree) (p : Placed) (k' : Known) : Type 0 where
  pub placed : encoding no_targets k s ≡ Ok p
  pub following : known_following k s p ≡ k'

pub known-then : (k : Known) (s : StatementTree) (p : Placed) (k' : Known) → Leads k s p k' → known_after k s ≡ k'
unfolding known_after
known-then k s p k' h = ap (known_with k s) h.placed ∙ h.following

pub sights-then : (k : Known) (s : StatementTree) (p : Placed) (k' : Known) (later : List StatementTree) → Leads k s p k' → sights_from k (s ∷ later) ≡ record { known = k; statement = s } ∷ sights_from k' later
unfolding sights_from
sights-then k s p k' later h = ap (λ (q : Known). record { known = k; statement = s } ∷ sights_from q later) (known-then k s p k' h)

-- what is known after statements
pub record Ends (k : Known) (statements : List StatementTree) (end : Known) : Type 0 where
  pub is : fold known_after k statements ≡ end

pub ends-none : (k : Known) → Ends k [] k
ends-none k = record { is = refl }

pub ends-then : (k : Known) (s : StatementTree) (p : Placed) (k' : Known) (later : List StatementTree) (end : Known) → Leads k s p k' → Ends k' later end → Ends k (s ∷ later) end
ends-then k s p k' later end h rest = record { is = ap (λ (q : Known). fold known_after q later) (known-then k s p k' h) ∙ rest.is }

-- what is asked of a placed statement
pub record IsPlacedWell (final : NameTable) (k : Known) (s : StatementTree) (p : Placed) (later : List Sight) : Type 0 where
  pub label : label_fault k.names s.label ≡ None
  pub waits : AreNear p.waits
  pub value : IsLow p.label
  pub effect : p.effect ≡ effect.Plain
  pub room : p.start + length p.bytes ≤ 2 ^ 18
  pub met : unreferenced final later p.waits ≡ None

pub good-then : (final : NameTable) (k : Known) (s : StatementTree) (p : Placed) (k' : Known) (later : List StatementTree) → Leads k s p k' →
    IsPlacedWell final k s p (sights_from k' later) → AreGood final k' later → AreGood final k (s ∷ later)
good-then final k s p k' later h w rest = grind (arith, sights-then)
