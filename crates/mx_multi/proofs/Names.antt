-- The names of a schedule that are those of processors which have not halted.
use Rattle.std.proofs.Common.{◌≡◌, ◌<◌, ℕ, zero, suc, not, Bool, true, false, cond, IsTrue, List, [], ◌∷◌, length, get_or, set, None, Some, arith, refl, sym, subst, ap, ◌∙◌}
use Rattle.std.proofs.lemmas.List.Elements.{filter_passes, All-get_or}
use Rattle.mx_multi.specs.Joint.{has_halted}
use Rattle.mx_multi.specs.Stretches.{running}
use Rattle.mx_multi.specs.Schedules.{next_in, AllHaveHalted, AreNames}

-- ---- the next of them, and that of the schedule

pub record RunsNext (halted : List Bool) (rest : List ℕ) (who : ℕ) (names : List ℕ) : Type 0 where
  pub after : List ℕ
  pub next : next_in halted rest ≡ Some (who, after)
  pub others : running halted after ≡ names

run-by : (halted : List Bool) (x who : ℕ) (xs names : List ℕ) (b : Bool) → has_halted halted x ≡ b → (running halted xs ≡ who ∷ names → RunsNext halted xs who names) →
    cond (not b) (x ∷ running halted xs) (running halted xs) ≡ who ∷ names → RunsNext halted (x ∷ xs) who names
unfolding next_in
run-by halted x who xs names true h more e =
    let f = more e in
    record { after = f.after; next = (rw h (f.next)); others = f.others }
run-by halted x who xs names false h more e =
    let first : x ≡ who = cc in
    let rest : running halted xs ≡ names = cc in
    record { after = xs; next = (rw h (ap (λ k. Some (k, xs)) first)); others = rest }

pub run-next : (halted : List Bool) (rest : List ℕ) (who : ℕ) (names : List ℕ) → running halted rest ≡ who ∷ names → RunsNext halted rest who names
run-next halted [] who names e = absurd (cc)
run-next halted (x ∷ xs) who names e = run-by halted x who xs names (has_halted halted x) refl (λ f. run-next halted xs who names f) e

none-by : (halted : List Bool) (x : ℕ) (xs : List ℕ) (b : Bool) → has_halted halted x ≡ b → (running halted xs ≡ [] → next_in halted xs ≡ None) →
    cond (not b) (x ∷ running halted xs) (running halted xs) ≡ [] → next_in halted (x ∷ xs) ≡ None
unfolding next_in
none-by halted x xs true h more e = rw h (more e)
none-by halted x xs false h more e = absurd (cc)

pub run-none : (halted : List Bool) (rest : List ℕ) → running halted rest ≡ [] → next_in halted rest ≡ None
unfolding next_in
run-none halted [] e = refl
run-none halted (x ∷ xs) e = none-by halted x xs (has_halted halted x) refl (λ f. run-none halted xs f) e

all-by : (halted : List Bool) (x : ℕ) (xs : List ℕ) (b : Bool) → has_halted halted x ≡ b → IsTrue b → running halted xs ≡ [] → running halted (x ∷ xs) ≡ []
all-by halted x xs true h t e = rw h e
all-by halted x xs false h t e = absurd (cc)

pub run-all : (halted : List Bool) (part : List ℕ) → AllHaveHalted halted part → running halted part ≡ []
run-all halted [] h = refl
run-all halted (x ∷ xs) h = all-by halted x xs (has_halted halted x) refl h.0 (run-all halted xs h.1)

-- ---- each of them runs, and is a name

not-false : (b : Bool) → not b ≡ true → b ≡ false
not-false true e = absurd (cc)
not-false false e = refl

pub name-runs : (halted : List Bool) (schedule names : List ℕ) (place : ℕ) → names ≡ running halted schedule → place < length names → has_halted halted (get_or names place 0) ≡ false
name-runs halted schedule names place e l =
    let inside = subst (λ ns. place < length ns) e l in
    let all = All-get_or (λ who. not (has_halted halted who) ≡ true) (running halted schedule) place 0 inside (filter_passes (λ who. not (has_halted halted who)) schedule) in
    not-false (has_halted halted (get_or names place 0)) (subst (λ ns. not (has_halted halted (get_or ns place 0)) ≡ true) (sym e) all)

names-by : (count : ℕ) (halted : List Bool) (x : ℕ) (xs : List ℕ) (b : Bool) → x < count → AreNames count (running halted xs) → AreNames count (cond b (x ∷ running halted xs) (running halted xs))
names-by count halted x xs true l h = (l, h)
names-by count halted x xs false l h = h

pub names-run : (count : ℕ) (halted : List Bool) (part : List ℕ) → AreNames count part → AreNames count (running halted part)
names-run count halted [] h = tt
names-run count halted (x ∷ xs) h = names-by count halted x xs (not (has_halted halted x)) h.0 (names-run count halted xs h.1)

pub names-of : (count : ℕ) (halted : List Bool) (schedule names : List ℕ) → names ≡ running halted schedule → AreNames count schedule → AreNames count names
names-of count halted schedule names e h = subst (AreNames count) (sym e) (names-run count halted schedule h)

-- ---- where a further one has halted

pub still-halted : (halted : List Bool) (who x : ℕ) → has_halted halted x ≡ true → has_halted (set halted who true) x ≡ true
still-halted [] who x e = refl
still-halted (b ∷ halted) zero zero e = refl
still-halted (b ∷ halted) zero (suc x) e = e
still-halted (b ∷ halted) (suc who) zero e = e
still-halted (b ∷ halted) (suc who) (suc x) e = still-halted halted who x e

again-by : (halted further : List Bool) (x : ℕ) (xs : List ℕ) (b : Bool) → has_halted halted x ≡ b → (b ≡ true → has_halted further x ≡ true) → running further (running halted xs) ≡ running further xs →
    running further (cond (not b) (x ∷ running halted xs) (running halted xs)) ≡ running further (x ∷ xs)
again-by halted further x xs true h still e = rw (still refl) e
again-by halted further x xs false h still e = ap (λ l. cond (not (has_halted further x)) (x ∷ l) l) e

pub run-again : (halted further : List Bool) (part : List ℕ) → ((x : ℕ) → has_halted halted x ≡ true → has_halted further x ≡ true) → running further (running halted part) ≡ running further part
run-again halted further [] still = refl
run-again halted further (x ∷ xs) still = again-by halted further x xs (has_halted halted x) refl (λ e. still x e) (run-again halted further xs still)

-- ---- parts of them

pub part-runs : (halted : List Bool) (part : List ℕ) (i : ℕ) → i < length part → has_halted halted (get_or part i 0) ≡ false → AllHaveHalted halted part → ⊥
part-runs halted [] i l e h = absurd (omega arith)
part-runs halted (x ∷ xs) zero l e h = let no : false ≡ true = sym e ∙ h.0 in absurd (cc)
part-runs halted (x ∷ xs) (suc i) l e h = part-runs halted xs i (omega (arith, l)) e h.1

pub one-runs : (halted : List Bool) (schedule names : List ℕ) (place : ℕ) → names ≡ running halted schedule → place < length names → AllHaveHalted halted schedule → ⊥
one-runs halted schedule names place e l all =
    let none : names ≡ [] = e ∙ run-all halted schedule all in
    let inside = subst (λ (ns : List ℕ). place < length ns) none l in
    omega (arith, inside)
