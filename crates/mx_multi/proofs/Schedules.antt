-- The next turn of a schedule.
use Rattle.std.proofs.Common.{◌≡◌, ◌<◌, ◌↔◌, ℕ, zero, suc, Bool, true, false, cond, IsTrue, List, [], ◌∷◌, length, get_or, Option, None, Some, arith, refl, sym, subst, ap, ◌∙◌}
use Rattle.mx_multi.specs.Joint.{has_halted}
use Rattle.mx_multi.specs.Schedules.{next_in, next_turn, or_again, AllHaveHalted, AreNames, end_at_last}
use Rattle.mx_multi.specs.declared.end.MultiEnd.{MultiEnd}
use Rattle.mx_multi.specs.declared.end.MultiEnd.TheVariants.{AllHalted}

-- ---- the search

pub name-below : (count : ℕ) (schedule : List ℕ) (place d : ℕ) → place < length schedule → AreNames count schedule → get_or schedule place d < count
name-below count [] place d l h = absurd (omega arith)
name-below count (who ∷ rest) zero d l h = h.0
name-below count (who ∷ rest) (suc place) d l h = name-below count rest place d (omega (arith, l)) h.1

-- ---- what was found

-- a place that was found is that of one that has not halted
found-by : (halted : List Bool) (x who : ℕ) (xs rest : List ℕ) (b : Bool) → has_halted halted x ≡ b → (next_in halted xs ≡ Some (who, rest) → has_halted halted who ≡ false) →
    cond b (next_in halted xs) (Some (x, xs)) ≡ Some (who, rest) → has_halted halted who ≡ false
found-by halted x who xs rest true h more e = more e
found-by halted x who xs rest false h more e = let both : (x, xs) ≡ (who, rest) = cc in let same : x ≡ who = ap (λ (p : ℕ × List ℕ). p.0) both in subst (λ y. has_halted halted y ≡ false) same h

pub found-in : (halted : List Bool) (part : List ℕ) (who : ℕ) (rest : List ℕ) → next_in halted part ≡ Some (who, rest) → has_halted halted who ≡ false
unfolding next_in
found-in halted [] who rest e = absurd (cc)
found-in halted (x ∷ xs) who rest e = found-by halted x who xs rest (has_halted halted x) refl (λ f. found-in halted xs who rest f) e

found-either : (halted : List Bool) (schedule part : List ℕ) (first : Option (ℕ × List ℕ)) (who : ℕ) (rest : List ℕ) → next_in halted part ≡ first → or_again first (next_in halted schedule) ≡ Some (who, rest) → has_halted halted who ≡ false
found-either halted schedule part None who rest h e = found-in halted schedule who rest e
found-either halted schedule part (Some (x, xs)) who rest h e = found-in halted part who rest (h ∙ e)

pub found-turn : (halted : List Bool) (schedule part : List ℕ) (who : ℕ) (rest : List ℕ) → next_turn halted schedule part ≡ Some (who, rest) → has_halted halted who ≡ false
found-turn halted schedule part who rest e = found-either halted schedule part (next_in halted part) who rest refl e

-- ---- all have halted

all-by : (halted : List Bool) (x : ℕ) (xs : List ℕ) (b : Bool) → has_halted halted x ≡ b → (next_in halted xs ≡ None → AllHaveHalted halted xs) → cond b (next_in halted xs) (Some (x, xs)) ≡ None → AllHaveHalted halted (x ∷ xs)
all-by halted x xs true h more e = (subst IsTrue (sym h) refl, more e)
all-by halted x xs false h more e = absurd (cc)

pub all-none : (halted : List Bool) (part : List ℕ) → next_in halted part ≡ None → AllHaveHalted halted part
unfolding next_in
all-none halted [] e = tt
all-none halted (x ∷ xs) e = all-by halted x xs (has_halted halted x) refl (λ f. all-none halted xs f) e

none-by : (halted : List Bool) (x : ℕ) (xs : List ℕ) (b : Bool) → has_halted halted x ≡ b → IsTrue (has_halted halted x) → next_in halted xs ≡ None → cond b (next_in halted xs) (Some (x, xs)) ≡ None
none-by halted x xs true e t more = more
none-by halted x xs false e t more = let no : false ≡ true = sym e ∙ t in absurd (cc)

none-all : (halted : List Bool) (part : List ℕ) → AllHaveHalted halted part → next_in halted part ≡ None
unfolding next_in
none-all halted [] h = refl
none-all halted (x ∷ xs) h = none-by halted x xs (has_halted halted x) refl h.0 (none-all halted xs h.1)

last-by : (x : Option (ℕ × List ℕ)) (end : MultiEnd) → end ≡ end_at_last x → end ≡ AllHalted → x ≡ None
last-by None end e h = refl
last-by (Some p) end e h = absurd (cc)

pub last-all : (halted : List Bool) (schedule : List ℕ) (end : MultiEnd) → end ≡ end_at_last (next_in halted schedule) → (end ≡ AllHalted) ↔ AllHaveHalted halted schedule
last-all halted schedule end e = (λ h. all-none halted schedule (last-by (next_in halted schedule) end e h), λ h. e ∙ ap end_at_last (none-all halted schedule h))
