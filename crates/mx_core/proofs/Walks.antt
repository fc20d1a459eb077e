-- A walk and one more step.
use Rattle.std.proofs.Common.{◌≡◌, ◌≢◌, ◌<◌, ◌+◌, ℕ, zero, suc, ap, sym, subst, refl, arith}
use Rattle.mx_core.specs.State.{State}
use Rattle.mx_core.specs.Step.{step}
use Rattle.mx_core.specs.Way.Stepping.{advanced}
use Rattle.mx_core.specs.Walks.{Goes, GoesOn, IsWindowed, next_state}
use Rattle.mx_core.specs.declared.step.Advance.{Advance}
use Rattle.mx_core.specs.declared.step.Advance.TheVariants as advance

pub goes-end : (k : ℕ) (s t u : State) → IsWindowed t → Goes k s t → (advance.Went, u) ≡ advanced t (step t) → Goes (suc k) s u
unfolding Goes
goes-end zero s t u w e a = subst (λ v. IsWindowed v × GoesOn v × (next_state v ≡ u)) (sym e) (w, sym (ap (λ p. p.0) a), sym (ap (λ p. p.1) a))
goes-end (suc k) s t u w g a = (g.0, g.1, goes-end k (next_state s) t u w g.2 a)

-- a walk and another from where it ends
pub goes-both : (k m : ℕ) (s t u : State) → Goes k s t → Goes m t u → Goes (k + m) s u
unfolding Goes
goes-both zero m s t u e h =
    let same : 0 + m ≡ m = omega arith in
    subst (λ n. Goes n s u) (sym same) (subst (λ v. Goes m v u) (sym e) h)
goes-both (suc k) m s t u g h =
    let more : suc k + m ≡ suc (k + m) = omega arith in
    subst (λ n. Goes n s u) (sym more) (g.0, g.1, goes-both k m (next_state s) t u g.2 h)

pub goes-none : (s : State) → Goes 0 s s
unfolding Goes
goes-none s = refl

-- at most one step
pub one-kept : (m : ℕ) (s t : State) (a : Advance) → Goes m s t → (a ≢ advance.Went → m < 1) → a ≢ advance.Went → t ≡ s
unfolding Goes
one-kept zero s t a g fewer other = sym g
one-kept (suc m) s t a g fewer other = absurd (omega (arith, fewer other))

went-once : (m : ℕ) (s t : State) → Goes m s t → m ≡ 1 → (advance.Went, t) ≡ advanced s (step s)
unfolding Goes
went-once zero s t g e = absurd (cc)
went-once (suc zero) s t g e = sym (pairs (advanced s (step s)) t g.1 g.2)
  where
    pairs : (p : Advance × State) (t : State) → p.0 ≡ advance.Went → p.1 ≡ t → p ≡ (advance.Went, t)
    pairs p t e f = rw (sym e, sym f) refl
went-once (suc (suc m)) s t g e = absurd (omega arith)

pub one-step : (m : ℕ) (s t : State) (a : Advance) → Goes m s t → (a ≡ advance.Went → m ≡ 1) → (a ≢ advance.Went → m < 1) →
    (a ≢ advance.Went → a ≢ advance.OutOfMemory → (a, t) ≡ advanced t (step t)) → a ≢ advance.OutOfMemory → (a, t) ≡ advanced s (step s)
one-step m s t advance.Went g all fewer last some = went-once m s t g (all refl)
one-step m s t advance.Trap g all fewer last some = let e = one-kept m s t advance.Trap g fewer (λ x. cc) in subst (λ u. (advance.Trap, t) ≡ advanced u (step u)) e (last (λ x. cc) some)
one-step m s t (advance.Stopped r) g all fewer last some = let e = one-kept m s t (advance.Stopped r) g fewer (λ x. cc) in subst (λ u. (advance.Stopped r, t) ≡ advanced u (step u)) e (last (λ x. cc) some)
one-step m s t advance.OutOfMemory g all fewer last some = absurd (some refl)
