-- Octas that are searched for, one after another.
use Rattle.std.proofs.Common.{◌≡◌, ◌≢◌, ◌≤◌, ℕ, ◌+◌, ◌*◌, ◌/◌, ◌^◌, ◌==◌, not, true, false, List, Some, None, [], arith, refl, sym, ◌∙◌, ap}
use Rattle.std.proofs.lemmas.Bool.Decides.{nat_tests}
use Rattle.mx_mem.specs.Memory.{IsNextNonzero}
use Rattle.mx_core.specs.State.{State, octa}
use Rattle.mx_record.specs.Following.{TellsAll, TellsWithin}
use Rattle.mx_record.specs.Pictures.{octa_shown}
use Rattle.mx_record.specs.Records.{difference, noted}
use Rattle.mx_record.specs.declared.changes.Change.{Change}
use Rattle.mx_record.proofs.Beyond.{octa-zero, octa-beyond, octa-hidden}
use Rattle.mx_record.proofs.Telling.{Zeros, new-done, new-first, new-noted, new-on, none-old, old-below, old-done, old-noted, old-or-below}

-- none is shown before the next one, and none after the last one
before-next : (s : State) (n a x : ℕ) → IsNextNonzero (octa s) (8 * n) (Some (a, x)) → Zeros (octa_shown s) n (a / 8)
before-next s n a x f q l m = octa-zero s q (f.4 (8 * q) (omega (arith, l)) (omega arith) (omega (arith, m)))

after-last : (s : State) (n : ℕ) → IsNextNonzero (octa s) (8 * n) None → (q : ℕ) → n ≤ q → octa_shown s q ≡ 0
after-last s n f q l = octa-zero s q (f (8 * q) (omega (arith, l)) (omega arith))

after-all : (s : State) (n q : ℕ) → 2 ^ 60 ≤ n → n ≤ q → octa_shown s q ≡ 0
after-all s n q l m = octa-beyond s q (omega (arith, l, m))

not-zero : (s : State) (n a x : ℕ) → IsNextNonzero (octa s) (8 * n) (Some (a, x)) → octa s (8 * (a / 8)) ≢ 0
not-zero s n a x f e =
    let own : 8 * (a / 8) ≡ a = omega (arith, f.1) in
    f.3 (sym f.2 ∙ sym (ap (octa s) own) ∙ e)

pub old-next : (s t : State) (changes later : List Change) (n a x : ℕ) → TellsWithin changes (octa_shown s) (octa_shown t) (old-below (octa_shown s) n) → IsNextNonzero (octa s) (8 * n) (Some (a, x)) →
    later ≡ noted changes (a / 8) (octa_shown s (a / 8)) (octa_shown t (a / 8)) → TellsWithin later (octa_shown s) (octa_shown t) (old-below (octa_shown s) (a / 8 + 1))
old-next s t changes later n a x h f e =
    old-noted changes later (octa_shown s) (octa_shown t) n (a / 8) h (omega (arith, f.0)) (before-next s n a x f) (octa-hidden s t (a / 8) (not-zero s n a x f)) e

pub old-none : (s t : State) (changes : List Change) (n : ℕ) → TellsWithin changes (octa_shown s) (octa_shown t) (old-below (octa_shown s) n) → IsNextNonzero (octa s) (8 * n) None → TellsWithin changes (octa_shown s) (octa_shown t) (λ q. not (octa_shown s q == 0))
old-none s t changes n h f = old-done changes (octa_shown s) (octa_shown t) n h (after-last s n f)

pub old-all : (s t : State) (changes : List Change) (n : ℕ) → TellsWithin changes (octa_shown s) (octa_shown t) (old-below (octa_shown s) n) → 2 ^ 60 ≤ n → TellsWithin changes (octa_shown s) (octa_shown t) (λ q. not (octa_shown s q == 0))
old-all s t changes n h l = old-done changes (octa_shown s) (octa_shown t) n h (λ q m. after-all s n q l m)

is-zero : (x : ℕ) → x ≡ 0 → (x == 0) ≡ true
is-zero x e = ap (λ y. y == 0) e

is-not : (x : ℕ) → (x ≡ 0 → ⊥) → (x == 0) ≡ false
is-not x f = grind (arith, nat_tests)

pub new-next : (s t : State) (changes later : List Change) (n a x : ℕ) → TellsWithin changes (octa_shown s) (octa_shown t) (old-or-below (octa_shown s) n) → IsNextNonzero (octa t) (8 * n) (Some (a, x)) → octa_shown s (a / 8) ≡ 0 →
    later ≡ noted changes (a / 8) (octa_shown s (a / 8)) (octa_shown t (a / 8)) → TellsWithin later (octa_shown s) (octa_shown t) (old-or-below (octa_shown s) (a / 8 + 1))
new-next s t changes later n a x h f was e = new-noted changes later (octa_shown s) (octa_shown t) n (a / 8) h (omega (arith, f.0)) (before-next t n a x f) (is-zero _ was) e

pub new-passed : (s t : State) (changes later : List Change) (n a x : ℕ) → TellsWithin changes (octa_shown s) (octa_shown t) (old-or-below (octa_shown s) n) → IsNextNonzero (octa t) (8 * n) (Some (a, x)) → (octa_shown s (a / 8) ≡ 0 → ⊥) → later ≡ changes →
    TellsWithin later (octa_shown s) (octa_shown t) (old-or-below (octa_shown s) (a / 8 + 1))
new-passed s t changes later n a x h f was e = rw e (new-on changes (octa_shown s) (octa_shown t) n (a / 8) h (omega (arith, f.0)) (before-next t n a x f) (is-not _ was))

pub new-none : (s t : State) (changes : List Change) (n : ℕ) → TellsWithin changes (octa_shown s) (octa_shown t) (old-or-below (octa_shown s) n) → IsNextNonzero (octa t) (8 * n) None → TellsAll changes (octa_shown s) (octa_shown t)
new-none s t changes n h f = new-done changes (octa_shown s) (octa_shown t) n h (after-last t n f)

pub new-all : (s t : State) (changes : List Change) (n : ℕ) → TellsWithin changes (octa_shown s) (octa_shown t) (old-or-below (octa_shown s) n) → 2 ^ 60 ≤ n → TellsAll changes (octa_shown s) (octa_shown t)
new-all s t changes n h l = new-done changes (octa_shown s) (octa_shown t) n h (λ q m. after-all t n q l m)

-- FROM NOTHING

pub start-first : (changes : List Change) (new : ℕ → ℕ) → changes ≡ [] → TellsWithin changes (λ _. 0) new (old-or-below (λ _. 0) 0)
unfolding difference
start-first changes new e = new-first changes (λ _. 0) new (record { at = λ q. ap (λ x. difference x q) e })

pub start-next : (t : State) (changes later : List Change) (n a x : ℕ) → TellsWithin changes (λ _. 0) (octa_shown t) (old-or-below (λ _. 0) n) → IsNextNonzero (octa t) (8 * n) (Some (a, x)) →
    later ≡ noted changes (a / 8) 0 (octa_shown t (a / 8)) → TellsWithin later (λ _. 0) (octa_shown t) (old-or-below (λ _. 0) (a / 8 + 1))
start-next t changes later n a x h f e = new-noted changes later (λ _. 0) (octa_shown t) n (a / 8) h (omega (arith, f.0)) (before-next t n a x f) refl e

pub start-none : (t : State) (changes : List Change) (n : ℕ) → TellsWithin changes (λ _. 0) (octa_shown t) (old-or-below (λ _. 0) n) → IsNextNonzero (octa t) (8 * n) None → TellsAll changes (λ _. 0) (octa_shown t)
start-none t changes n h f = new-done changes (λ _. 0) (octa_shown t) n h (after-last t n f)

pub start-all : (t : State) (changes : List Change) (n : ℕ) → TellsWithin changes (λ _. 0) (octa_shown t) (old-or-below (λ _. 0) n) → 2 ^ 60 ≤ n → TellsAll changes (λ _. 0) (octa_shown t)
start-all t changes n h l = new-done changes (λ _. 0) (octa_shown t) n h (λ q m. after-all t n q l m)

pub ruleset searching = (old-all, new-all, new-first, none-old)

pub ruleset starting = (start-first, start-all)
