-- Tallies of entries that are added and set.
use Rattle.std.proofs.Common.{◌≡◌, ◌<◌, ℕ, zero, suc, Bool, true, false, cond, List, [], ◌∷◌, ◌++◌, length, get_or, set, arith, refl, sym, ap, ◌∙◌, length-append}
use Rattle.mx_count.specs.Counting.{IsAt, kept_tally}
use Rattle.mx_count.specs.Tallies.{nothing, added}
use Rattle.mx_count.specs.declared.counts.Entry.{Entry}
use Rattle.mx_count.specs.declared.tally.Tally.{Tally}
use Rattle.mx_count.proofs.TallyLaws.{nothing-more, added-assoc, added-last}

abbrev empty_entry : ℕ → Entry
empty_entry a = record { address = a; tally = nothing }

none-either : (b : Bool) → added (cond b nothing nothing) nothing ≡ nothing
none-either true = nothing-more nothing
none-either false = nothing-more nothing

-- an entry at which nothing is counted
pub kept-empty : (test : ℕ → Bool) (es : List Entry) (a : ℕ) → kept_tally test (es ++ record { address = a; tally = nothing } ∷ []) ≡ kept_tally test es
unfolding kept_tally
kept-empty test [] a = none-either (test a)
kept-empty test (e ∷ es) a = ap (added (cond (test e.address) e.tally nothing)) (kept-empty test es a)

last-is : (es : List Entry) (a : ℕ) (d : Entry) → (get_or (es ++ empty_entry a ∷ []) (length es) d).address ≡ a
last-is [] a d = refl
last-is (e ∷ es) a d = last-is es a d

pub is-last : (es : List Entry) (a : ℕ) → IsAt (es ++ record { address = a; tally = nothing } ∷ []) (length es) a
is-last es a = record {
  inside = let long = length-append es (empty_entry a ∷ []) in omega arith;
  here = λ d. last-is es a d;
}

pub ruleset found = (kept-empty, is-last)

set-here : (b : Bool) (t y rest : Tally) → added (cond b (added t y) nothing) rest ≡ added (added (cond b t nothing) rest) (cond b y nothing)
set-here true t y rest = added-last t y rest
set-here false t y rest = sym (nothing-more (added nothing rest))

pub kept-set : (test : ℕ → Bool) (es : List Entry) (i a : ℕ) (y sum : Tally) (d : Entry) → i < length es → (get_or es i d).address ≡ a → sum ≡ added (get_or es i d).tally y →
    kept_tally test (set es i (record { address = a; tally = sum })) ≡ added (kept_tally test es) (cond (test a) y nothing)
unfolding kept_tally
kept-set test [] i a y sum d inside here s = absurd (omega arith)
kept-set test (e ∷ es) zero a y sum d inside here s =
    ap (λ z. added (cond (test a) z nothing) (kept_tally test es)) s
    ∙ set-here (test a) e.tally y (kept_tally test es)
    ∙ ap (λ k. added (added (cond (test k) e.tally nothing) (kept_tally test es)) (cond (test a) y nothing)) (sym here)
kept-set test (e ∷ es) (suc i) a y sum d inside here s =
    ap (added (cond (test e.address) e.tally nothing)) (kept-set test es i a y sum d (omega arith) here s)
    ∙ sym (added-assoc (cond (test e.address) e.tally nothing) (kept_tally test es) (cond (test a) y nothing))

pub ruleset adding = (kept-set)

pub then-more : (test : ℕ → Bool) (es mid new : List Entry) (y : Tally) → kept_tally test mid ≡ kept_tally test es → kept_tally test new ≡ added (kept_tally test mid) y →
    kept_tally test new ≡ added (kept_tally test es) y
then-more test es mid new y same more = more ∙ ap (λ k. added k y) same

pub ruleset counted = (then-more)
