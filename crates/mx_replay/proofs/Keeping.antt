-- Steps that are kept, and the way to a step along them.
use Rattle.std.proofs.Common.{◌≡◌, ◌<◌, ◌≤◌, ◌+◌, ◌-◌, ◌⊎◌, ℕ, Bool, true, false, inl, inr, List, [], ◌∷◌, ◌++◌, length, arith, refl, sym, subst, ◌∙◌}
use Rattle.std.specs.Prelude.{nat_lt, if◌then◌else◌, slice_index_or, option_to_list, Option, None, Some, Result, Ok, Err, IfSome, OnOk, OnErr}
use Rattle.std.proofs.lemmas.List.{get_or_read}
use Rattle.std.proofs.lemmas.List.Elements.{All-pop, All-push}
use Rattle.std.proofs.lemmas.Bool.{cases_lt, ltb-false}
use Rattle.mx_replay.specs.Keeping.{AreSteps, IsPlaceBefore}
use Rattle.mx_replay.specs.Programs.{IsReached, is_over}
use Rattle.mx_replay.specs.Searches.{has_more}
use Rattle.mx_replay.specs.Visits.{IsStep}
use Rattle.mx_replay.specs.declared.program.Program.{Program}
use Rattle.mx_replay.specs.declared.visit.Visit.{Visit}
use Rattle.mx_replay.proofs.Found.{more-here, more-on, no-more-by}
use Rattle.mx_replay.proofs.Steps.{over-reached}

-- ---- steps that are kept

pub place-before : (visits : List Visit) (k place : ℕ) (v : Visit) → place < length visits → v ≡ slice_index_or visits place v → v.at ≤ k → IsPlaceBefore visits k place
place-before visits k place v l e h = (l, λ d. subst (λ (x : Visit). x.at ≤ k) (get_or_read visits place v l e d) h)

pub step-pushed : {A B : Type 0} (p : Program) (old new : List Visit) (v : Visit) (r : Result A B) → OnOk r (new ≡ old ++ v ∷ []) → OnErr r (new ≡ old) → IsStep p v → AreSteps p old → AreSteps p new
step-pushed p old new v (Ok x) e f s all = subst (AreSteps p) (sym e) (All-push (IsStep p) old v all s)
step-pushed p old new v (Err x) e f s all = subst (AreSteps p) (sym f) all

pub rest-popped : (p : Program) (old new : List Visit) (r : Option Visit) → old ≡ new ++ option_to_list r → AreSteps p old → AreSteps p new
rest-popped p old new r e all = (All-pop (IsStep p) old new r e all).0

pub step-popped : (p : Program) (old new : List Visit) (r : Option Visit) (v : Visit) → old ≡ new ++ option_to_list r → r ≡ Some v → AreSteps p old → IsStep p v
step-popped p old new r v e f all = subst (λ x. IfSome x (IsStep p)) f (All-pop (IsStep p) old new r e all).1

pub no-start : {B : Type 0} (r : Option Visit) (x : Visit) → r ≡ None → r ≡ Some x → B
no-start r x e f = let none = sym e ∙ f in absurd (cc)

pub ruleset keeping = (place-before, step-pushed, rest-popped, step-popped)

-- ---- the way to a step

-- what is left to do up to a step: the turns, and one more as long as the run goes on
abbrev pub left_of : Visit → ℕ → ℕ
left_of v k = (k - v.at) + (if is_over v.end then 0 else 1)

less-by : (k at next due : ℕ) (over : Bool) → at < k → at < due → due ≤ k → at ≤ next → (over ≡ false → next ≡ due) → (k - next) + (if over then 0 else 1) < (k - at) + 1
less-by k at next due true h d l f e = omega (arith, h, f)
less-by k at next due false h d l f e = let same = e refl in omega (arith, h, d, l, same)

pub left-less : (v w : Visit) (k due : ℕ) → has_more v k ≡ true → v.at < due → due ≤ k → v.at ≤ w.at → (is_over w.end ≡ false → w.at ≡ due) → left_of w k < left_of v k
left-less v w k due more d l f e =
    subst (λ b. left_of w k < (k - v.at) + (if b then 0 else 1)) (sym (more-on v k more)) (less-by k v.at w.at due (is_over w.end) (more-here v k more) d l f e)

arrived-by : (p : Program) (v : Visit) (k : ℕ) → (nat_lt v.at k ≡ false) ⊎ (is_over v.end ≡ true) → v.at ≤ k → IsStep p v → IsStep p v × IsReached p k v.at
arrived-by p v k (inl e) l s = (s, record { within = l; early = λ h. absurd (omega (arith, h, ltb-false v.at k e)) })
arrived-by p v k (inr o) l s = (s, over-reached p v k s l o)

pub arrived : (p : Program) (v : Visit) (k : ℕ) → has_more v k ≡ false → v.at ≤ k → IsStep p v → IsStep p v × IsReached p k v.at
arrived p v k e l s = arrived-by p v k (no-more-by (nat_lt v.at k) (is_over v.end) e) l s

all-by : (at n made k : ℕ) (over : Bool) → at + n ≡ k → made ≤ n → (made < n → over ≡ true) → over ≡ false → (made < n) ⊎ (n ≤ made) → at + made ≡ k
all-by at n made k over sum few early still (inl l) = let done = early l in absurd (cc)
all-by at n made k over sum few early still (inr l) = omega (arith, sum, few, l)

pub all-made : (at n made k : ℕ) (over : Bool) → at + n ≡ k → made ≤ n → (made < n → over ≡ true) → over ≡ false → at + made ≡ k
all-made at n made k over sum few early still = all-by at n made k over sum few early still (cases_lt made n)
