-- Each octa of memory is below 2^64.
use Rattle.std.proofs.Common.{◌≡◌, ◌<◌, ◌/◌, ◌^◌, ℕ, Bool, true, false, cond, List, Result, Ok, Err, sym, subst, arith}
use Rattle.std.specs.Prelude.{◌==◌, OnOk, OnErr}
use Rattle.std.specs.BTreeMap.{BTreeMap}
use Rattle.mx_mem.specs.Memory.{Stored, octa_at, octa_on, stored_at}
use Rattle.mx_mem.specs.Held.{view_of}

abbrev pub Fits : (ℕ → ℕ) → Type 0
Fits octas = (a : ℕ) → octas a < 2 ^ 64

stored-fits : (octas : ℕ → ℕ) (a x q : ℕ) → x < 2 ^ 64 → Fits octas → stored_at octas a x q < 2 ^ 64
stored-fits octas a x q l h = by (q / 8 == a / 8)
  where
    by : (b : Bool) → cond b x (octas q) < 2 ^ 64
    by true = l
    by false = h q

pub store-fits : (octas after : ℕ → ℕ) (a x : ℕ) → after ≡ stored_at octas a x → x < 2 ^ 64 → Fits octas → Fits after
store-fits octas after a x e l h = subst Fits (sym e) (λ q. stored-fits octas a x q l h)

pub outcome-fits : {E : Type 0} (r : Result (Unit {0}) E) (pages pages' : List (ℕ × List ℕ)) (places after : BTreeMap ℕ ℕ) (a x : ℕ) → x < 2 ^ 64 → Fits (octa_on (view_of pages places.entries)) →
    OnOk r (octa_on (view_of pages' after.entries) ≡ stored_at (octa_on (view_of pages places.entries)) a x) → OnErr r ((pages' ≡ pages) × (after.entries ≡ places.entries)) → Fits (octa_on (view_of pages' after.entries))
outcome-fits (Ok u) pages pages' places after a x l h made kept = store-fits (octa_on (view_of pages places.entries)) _ a x made l h
outcome-fits (Err e) pages pages' places after a x l h made kept = rw (kept.0, kept.1) h

-- where nothing was stored
pub nothing-fits : (m : Stored) → octa_at m ≡ (λ _. 0) → Fits (octa_at m)
nothing-fits m e = subst Fits (sym e) (λ q. omega arith)

pub ruleset fitting = (nothing-fits)
