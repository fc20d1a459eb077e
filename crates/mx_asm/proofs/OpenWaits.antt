-- The references that wait for labels, after statements and at one.
use Rattle.std.proofs.Common.{◌≡◌, Bool, true, false, not, cond, List, [], ◌∷◌, refl, ap, ◌∙◌, ◌&&◌, ◌||◌, ℕ, ◌++◌, Option, None, Some, sym, append_assoc, append-nil, rules, arith}
use Rattle.mx_asm.proofs.Words.{filter, list_any, filter-append, list_any-append, Awaited, Wait, same_awaited, NameTable, complete_form, waits_for_others, Label, Name, Local, Sight, outline, waits_in, bytes_eq-Decides, waits_for, references, is_local, from_last}
use Rattle.mx_word.specs.declared.waits.Awaited.TheVariants as awaited
use Rattle.std.proofs.lemmas.Bool.{or_parts as both-false}

-- ---- lists that are filtered twice

module _ {X : Type 0} where
  kept-with : (b : Bool) (x : X) (xs ys : List X) → xs ≡ ys → cond b (x ∷ xs) xs ≡ cond b (x ∷ ys) ys
  kept-with b x xs ys h = cc

  -- the same test
  pub filter-same : (p q : X → Bool) → ((x : X) → p x ≡ q x) → (xs : List X) → filter p xs ≡ filter q xs
  filter-same p q h [] = refl
  filter-same p q h (x ∷ xs) = ap (λ b. cond b (x ∷ filter p xs) (filter p xs)) (h x) ∙ kept-with (q x) x (filter p xs) (filter q xs) (filter-same p q h xs)

  -- a test that always holds, and one that never does
  pub filter-all : (p : X → Bool) → ((x : X) → p x ≡ true) → (xs : List X) → filter p xs ≡ xs
  filter-all p h [] = refl
  filter-all p h (x ∷ xs) = ap (λ b. cond b (x ∷ filter p xs) (filter p xs)) (h x) ∙ ap (λ l. x ∷ l) (filter-all p h xs)

  pub filter-none : (p : X → Bool) → ((x : X) → p x ≡ false) → (xs : List X) → filter p xs ≡ []
  filter-none p h [] = refl
  filter-none p h (x ∷ xs) = ap (λ b. cond b (x ∷ filter p xs) (filter p xs)) (h x) ∙ filter-none p h xs

  -- one test after another
  twice : (a b : Bool) (x : X) (xs : List X) (q : X → Bool) → q x ≡ b → filter q (cond a (x ∷ xs) xs) ≡ cond (a && b) (x ∷ filter q xs) (filter q xs)
  twice a b x xs q h = search rules

  pub filter-filter : (p q : X → Bool) (xs : List X) → filter q (filter p xs) ≡ filter (λ x. p x && q x) xs
  filter-filter p q [] = refl
  filter-filter p q (x ∷ xs) = twice (p x) (q x) x (filter p xs) q refl ∙ kept-with (p x && q x) x (filter q (filter p xs)) (filter (λ x. p x && q x) xs) (filter-filter p q xs)

pub not-or : (a b : Bool) → not (a || b) ≡ (not a && not b)
not-or a b = search rules

pub or-false : (a : Bool) → (a || false) ≡ a
or-false a = search rules

pub or_assoc : (a b c : Bool) → (a || (b || c)) ≡ ((a || b) || c)
or_assoc a b c = search rules

-- a test within another, and one that excludes it
within-and : (a b : Bool) → (b ≡ true → a ≡ true) → (a && b) ≡ b
within-and a b h = search rules

without-and : (a b : Bool) → (b ≡ true → a ≡ false) → (a && b) ≡ false
without-and a b h = search rules

pub filter-within : {X : Type 0} (p q : X → Bool) → ((x : X) → q x ≡ true → p x ≡ true) → (xs : List X) → filter q (filter p xs) ≡ filter q xs
filter-within p q h xs = filter-filter p q xs ∙ filter-same (λ x. p x && q x) q (λ x. within-and (p x) (q x) (h x)) xs

pub filter-without : {X : Type 0} (p q : X → Bool) → ((x : X) → q x ≡ true → p x ≡ false) → (xs : List X) → filter q (filter p xs) ≡ []
filter-without p q h xs = filter-filter p q xs ∙ filter-none (λ x. p x && q x) (λ x. without-and (p x) (q x) (h x)) xs

-- ---- the references that still wait after statements: those that neither their own statement nor a later one settles

-- what the label of a statement is waited for as
abbrev pub settled_by : NameTable → Option Label → Awaited → Bool
settled_by names None who = false
settled_by names (Some (Name text)) who = same_awaited who (awaited.Name (complete_form names.prefix text))
settled_by names (Some (Local d)) who = same_awaited who (awaited.Local d)

abbrev pub settles : Sight → Awaited → Bool
settles s who = settled_by s.known.names s.statement.label who

-- a statement's own label settles its references to a name
abbrev pub own_settled : NameTable → Option Label → Awaited → Bool
own_settled names label (awaited.Name full) = settled_by names label (awaited.Name full)
own_settled names label (awaited.Local d) = false

abbrev pub settles_own : Sight → Awaited → Bool
settles_own s who = own_settled s.known.names s.statement.label who

abbrev pub any_settles : List Sight → Awaited → Bool
any_settles later who = list_any (λ (t : Sight). settles t who) later

abbrev pub is_settled : Sight → List Sight → Awaited → Bool
is_settled s later who = settles_own s who || any_settles later who

abbrev pub unsettled : Sight → List Sight → List Wait
unsettled s later = filter (λ (w : Wait). not (is_settled s later w.who)) (waits_in (outline s))

unfoldable pub open_waits : List Sight → List Wait
open_waits [] = []
open_waits (s ∷ later) = unsettled s later ++ open_waits later

-- ---- one statement more

abbrev others : Sight → List Wait → List Wait
others s waits = filter (λ (w : Wait). not (settles s w.who)) waits

more-test : (t s : Sight) (before : List Sight) (who : Awaited) → not (is_settled t (before ++ s ∷ []) who) ≡ (not (is_settled t before who) && not (settles s who))
more-test t s before who = search (rules, list_any-append, or-false, not-or)

more-unsettled : (t s : Sight) (before : List Sight) → unsettled t (before ++ s ∷ []) ≡ others s (unsettled t before)
more-unsettled t s before = search (rules, filter-same, more-test, filter-filter)

pub open-push : (before : List Sight) (s : Sight) → open_waits (before ++ s ∷ []) ≡ others s (open_waits before) ++ filter (λ (w : Wait). not (settles_own s w.who)) (waits_in (outline s))
unfolding open_waits
open-push [] s = append-nil (unsettled s []) ∙ (filter-same _ _ (λ w. ap not (or-false (settles_own s w.who))) (waits_in (outline s)))
open-push (t ∷ before) s = grind (arith, more-unsettled, append_assoc, filter-append, open-push before s)

-- ---- by the kind of the label

nothing-settled : (names : NameTable) (who : Awaited) → own_settled names None who ≡ false
nothing-settled names who = search rules

own-name : (names : NameTable) (text : List ℕ) (who : Awaited) → own_settled names (Some (Name text)) who ≡ same_awaited who (awaited.Name (complete_form names.prefix text))
own-name names text who = search rules

own-local : (names : NameTable) (d : ℕ) (who : Awaited) → own_settled names (Some (Local d)) who ≡ false
own-local names d who = search rules

pub open-unlabelled : (before : List Sight) (s : Sight) → s.statement.label ≡ None → open_waits (before ++ s ∷ []) ≡ open_waits before ++ waits_in (outline s)
open-unlabelled before s e = search (rules, open-push, filter-all, nothing-settled)

pub open-named : (before : List Sight) (s : Sight) (text : List ℕ) → s.statement.label ≡ Some (Name text) →
    open_waits (before ++ s ∷ []) ≡ waits_for_others (awaited.Name (complete_form s.known.names.prefix text)) (open_waits before ++ waits_in (outline s))
open-named before s text e = search (rules, open-push, filter-same, own-name, filter-append)

pub open-local : (before : List Sight) (s : Sight) (d : ℕ) → s.statement.label ≡ Some (Local d) →
    open_waits (before ++ s ∷ []) ≡ waits_for_others (awaited.Local d) (open_waits before) ++ waits_in (outline s)
open-local before s d e = search (rules, open-push, filter-same, filter-all, own-local)

-- ---- the references that wait for a label are those that the two passes name

pub same-is : (a b : Awaited) → same_awaited a b ≡ true → a ≡ b
same-is a b h = search (rules, bytes_eq-Decides)

pub references-append : (xs ys : List Sight) → references (xs ++ ys) ≡ references xs ++ references ys
unfolding references
references-append [] ys = refl
references-append (s ∷ xs) ys = ap (λ ws. waits_in (outline s) ++ ws) (references-append xs ys) ∙ sym (append_assoc (waits_in (outline s)) (references xs) (references ys))

pub references-one : (s : Sight) → references (s ∷ []) ≡ waits_in (outline s)
unfolding references
references-one s = append-nil (waits_in (outline s))

-- ---- a name

module _ (full : List ℕ) where
  abbrev who : Awaited
  who = awaited.Name full

  named-kept : (s : Sight) (later : List Sight) → is_settled s later who ≡ false → waits_for who (unsettled s later) ≡ waits_for who (waits_in (outline s))
  named-kept s later h = search (rules, filter-within, same-is)

  named-open : (before : List Sight) → any_settles before who ≡ false → waits_for who (open_waits before) ≡ waits_for who (references before)
  unfolding open_waits references
  named-open [] h = refl
  named-open (s ∷ later) h = simp (filter-append, named-kept, both-false, named-open later (both-false (settles s who) (any_settles later who) h).1)

  pub named-waits : (before : List Sight) (s : Sight) → any_settles before who ≡ false → waits_for who (open_waits before ++ waits_in (outline s)) ≡ waits_for who (references (before ++ s ∷ []))
  named-waits before s h = simp (filter-append, named-open, references-one, references-append)

-- ---- a local label

pub local-is : (names : NameTable) (d : ℕ) (label : Option Label) → settled_by names label (awaited.Local d) ≡ is_local d label
local-is names d label = search rules

module _ (d : ℕ) where
  abbrev dH : Awaited
  dH = awaited.Local d

  abbrev any_local : List Sight → Bool
  any_local later = list_any (λ (t : Sight). is_local d t.statement.label) later

  pub any-local : (later : List Sight) → any_settles later dH ≡ any_local later
  any-local [] = refl
  any-local (t ∷ later) = ap (λ b. b || any_settles later dH) (local-is t.known.names d t.statement.label) ∙ ap (λ b. is_local d t.statement.label || b) (any-local later)

  from-last-all : (later : List Sight) → any_local later ≡ false → from_last d later ≡ later
  unfolding from_last
  from-last-all [] h = refl
  from-last-all (s ∷ later) h = ap (λ b. cond b (from_last d later) (s ∷ later)) (both-false (is_local d s.statement.label) (any_local later) h).1

  local-kept : (s : Sight) (later : List Sight) → any_local later ≡ false → waits_for dH (unsettled s later) ≡ waits_for dH (waits_in (outline s))
  local-kept s later h = grind (arith, filter-within, same-is, any-local)

  local-gone : (s : Sight) (later : List Sight) → any_local later ≡ true → waits_for dH (unsettled s later) ≡ []
  local-gone s later h = grind (arith, filter-without, same-is, any-local)

  one-more : (b : Bool) (s : Sight) (later : List Sight) → any_local later ≡ b → waits_for dH (open_waits later) ≡ waits_for dH (references (from_last d later)) →
      waits_for dH (unsettled s later) ++ waits_for dH (open_waits later) ≡ waits_for dH (references (cond b (from_last d later) (s ∷ later)))
  unfolding references
  one-more b s later h rest = grind (arith, local-gone, local-kept, from-last-all, filter-append)

  pub local-waits : (before : List Sight) → waits_for dH (open_waits before) ≡ waits_for dH (references (from_last d before))
  unfolding open_waits references from_last
  local-waits [] = refl
  local-waits (s ∷ later) = grind (arith, filter-append, one-more, local-waits later)
