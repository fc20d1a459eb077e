-- The flags that a map holds.
use Rattle.std.proofs.Common.{◌≡◌, ℕ, ◌+◌, ◌*◌, ◌/◌, ◌<◌, ◌^◌, Bool, true, false, cond, Option, None, Some, List, [], ◌∷◌, length, arith, refl, sym, subst, ◌∙◌, ap}
use Rattle.std.specs.Prelude.{◌==◌, ◌||◌}
use Rattle.std.proofs.lemmas.Option.{same_Some}
use Rattle.std.specs.Ordering.{nat_cmp}
use Rattle.std.specs.Cmp.{nat_cmp_is}
use Rattle.std.specs.declared.cmp.Ordering.TheVariants.{Equal}
use Rattle.std.specs.Map.{lookup}
use Rattle.std.specs.BTreeMap as tree
use Rattle.std.specs.BTreeMap.{BTreeMap}
use Rattle.mx_word.proofs.Comparisons.{same-number}
use Rattle.mx_run.specs.FlagMaps.{has_flag, flags_or_none, flags_at, HoldsFlags, with_flags, IsNextHeld, IsNextFlagged}
use Rattle.mx_run.specs.declared.flags.Flags.{Flags}

-- ---- nothing is held

none-at : (m : BTreeMap ℕ Flags) (n : ℕ) → m.entries ≡ [] → tree.get nat_cmp m n ≡ None
none-at m n e = ap (λ (es : List (ℕ × Flags)). lookup (tree.is_at (nat_cmp n)) es) e

pub holds-none : (m : BTreeMap ℕ Flags) → m.entries ≡ [] → HoldsFlags m
holds-none m e = record {
  flagged = λ n f h. absurd (let k : tree.get nat_cmp m n ≡ None = none-at m n e in cc);
  below = λ n f h. absurd (let k : tree.get nat_cmp m n ≡ None = none-at m n e in cc);
}

pub ruleset holding = (holds-none)

-- ---- what is read

pub nothing-held : (m : BTreeMap ℕ Flags) → tree.btree_map_len m ≡ 0 → m.entries ≡ []
nothing-held m e = by m.entries e
  where
    by : (es : List (ℕ × Flags)) → length es ≡ 0 → es ≡ []
    by [] e = refl
    by (x ∷ es) e = absurd (cc)

-- what has an entry has a flag
first-held : (n : ℕ) (f : Flags) (es : List (ℕ × Flags)) → lookup (tree.is_at (nat_cmp n)) ((n, f) ∷ es) ≡ Some f
first-held n f es = let same : Equal ≡ nat_cmp n n = nat_cmp_is n n Equal refl in rw (← same) refl

pub no-entries : (m : BTreeMap ℕ Flags) → HoldsFlags m → ((n : ℕ) → has_flag (flags_at m.entries n) ≡ false) → m.entries ≡ []
no-entries m h k = by m.entries refl
  where
    by : (es : List (ℕ × Flags)) → m.entries ≡ es → es ≡ []
    by [] e = refl
    by ((n, f) ∷ es) e =
        let found : tree.get nat_cmp m n ≡ Some f = ap (λ (xs : List (ℕ × Flags)). lookup (tree.is_at (nat_cmp n)) xs) e ∙ first-held n f es in
        let flagged : has_flag f ≡ true = h.flagged n f found in
        let none : has_flag f ≡ false = sym (ap (λ o. has_flag (flags_or_none o)) found) ∙ k n in
        absurd (cc)

pub ruleset counting = (nothing-held, no-entries)

pub held-below : (m : BTreeMap ℕ Flags) (n : ℕ) (f : Flags) → HoldsFlags m → tree.get nat_cmp m n ≡ Some f → n < 2 ^ 62
held-below m n f h e = h.below n f e

pub ruleset reading = (held-below)

-- ---- flags that are set

abbrev Held : BTreeMap ℕ Flags → BTreeMap ℕ Flags → ℕ → Flags → Type 0
Held m t n f = (q : ℕ) → tree.get nat_cmp t q ≡ cond (q == n) (Some f) (tree.get nat_cmp m q)

-- a fact of a tetra that is held, of those before and of the new one
by-test : (P : ℕ → Flags → Type 0) (n q : ℕ) (f g : Flags) (b : Bool) (o : Option Flags) → (q == n) ≡ b → P n f → ((g : Flags) → o ≡ Some g → P q g) → cond b (Some f) o ≡ Some g → P q g
by-test P n q f g true o e h k l = let same : q ≡ n = same-number q n e in subst (λ j. P j g) (sym same) (subst (P n) (same_Some f g l) h)
by-test P n q f g false o e h k l = k g l

by-drop : (P : ℕ → Flags → Type 0) (q : ℕ) (g : Flags) (b : Bool) (o : Option Flags) → ((g : Flags) → o ≡ Some g → P q g) → cond b None o ≡ Some g → P q g
by-drop P q g true o k l = absurd (cc)
by-drop P q g false o k l = k g l

pub holds-more : (m t : BTreeMap ℕ Flags) (n : ℕ) (f : Flags) → HoldsFlags m → has_flag f ≡ true → n < 2 ^ 62 → ((q : ℕ) → tree.get nat_cmp t q ≡ cond (q == n) (Some f) (tree.get nat_cmp m q)) → HoldsFlags t
holds-more m t n f h e l k = record {
  flagged = λ q g i. by-test (λ q g. has_flag g ≡ true) n q f g (q == n) (tree.get nat_cmp m q) refl e (h.flagged q) (sym (k q) ∙ i);
  below = λ q g i. by-test (λ q g. q < 2 ^ 62) n q f g (q == n) (tree.get nat_cmp m q) refl l (h.below q) (sym (k q) ∙ i);
}

pub holds-less : (m t : BTreeMap ℕ Flags) (n : ℕ) → HoldsFlags m → ((q : ℕ) → tree.get nat_cmp t q ≡ cond (q == n) None (tree.get nat_cmp m q)) → HoldsFlags t
holds-less m t n h k = record {
  flagged = λ q g i. by-drop (λ q g. has_flag g ≡ true) q g (q == n) (tree.get nat_cmp m q) (h.flagged q) (sym (k q) ∙ i);
  below = λ q g i. by-drop (λ q g. q < 2 ^ 62) q g (q == n) (tree.get nat_cmp m q) (h.below q) (sym (k q) ∙ i);
}

choice : (b : Bool) (o p : Option Flags) → flags_or_none (cond b o p) ≡ cond b (flags_or_none o) (flags_or_none p)
choice true o p = refl
choice false o p = refl

pub more-flags : (m t : BTreeMap ℕ Flags) (n : ℕ) (f : Flags) → ((q : ℕ) → tree.get nat_cmp t q ≡ cond (q == n) (Some f) (tree.get nat_cmp m q)) → flags_at t.entries ≡ with_flags (flags_at m.entries) n f
more-flags m t n f k = λ i q. (ap flags_or_none (k q) ∙ choice (q == n) (Some f) (tree.get nat_cmp m q)) i

no-flag : (f : Flags) → has_flag f ≡ false → flags_or_none None ≡ f
no-flag f e = by (f.r) (f.w) (f.x) (f.t) e
  where
    by : (a b c d : Bool) → (a || b || c || d) ≡ false → flags_or_none None ≡ record { r = a; w = b; x = c; t = d }
    by true b c d e = absurd (cc)
    by false true c d e = absurd (cc)
    by false false true d e = absurd (cc)
    by false false false true e = absurd (cc)
    by false false false false e = refl

pub less-flags : (m t : BTreeMap ℕ Flags) (n : ℕ) (f : Flags) → has_flag f ≡ false → ((q : ℕ) → tree.get nat_cmp t q ≡ cond (q == n) None (tree.get nat_cmp m q)) → flags_at t.entries ≡ with_flags (flags_at m.entries) n f
less-flags m t n f e k = λ i q. (ap flags_or_none (k q) ∙ choice (q == n) None (tree.get nat_cmp m q) ∙ ap (λ g. cond (q == n) g (flags_at m.entries q)) (no-flag f e)) i

pub ruleset setting = (holds-more, holds-less, more-flags, less-flags)

-- ---- the next one

none-there : (m : BTreeMap ℕ Flags) (n : ℕ) → tree.get nat_cmp m n ≡ None → has_flag (flags_at m.entries n) ≡ false
none-there m n e = ap (λ o. has_flag (flags_or_none o)) e

pub next-none : (m : BTreeMap ℕ Flags) (from first : ℕ) → first ≡ (from + 3) / 4 → IsNextHeld m first None → IsNextFlagged (flags_at m.entries) from None
next-none m from first e h = λ n l. none-there m n (h n (omega (arith, e, l)))

pub next-found : (m : BTreeMap ℕ Flags) (from first n a : ℕ) (f : Flags) → first ≡ (from + 3) / 4 → HoldsFlags m → IsNextHeld m first (Some (n, f)) → a ≡ 4 * n → IsNextFlagged (flags_at m.entries) from (Some (a, f))
next-found m from first n a f e h k l =
    let tetra : a / 4 ≡ n = omega (arith, l) in (
      (let low = k.0 in omega (arith, e, l, low)),
      omega (arith, l),
      ap (flags_at m.entries) tetra ∙ ap flags_or_none k.1,
      h.flagged n f k.1,
      λ q i j. none-there m q (k.2 q (omega (arith, e, i)) (omega (arith, j, l))),
    )

pub ruleset finding = (next-none, next-found)
