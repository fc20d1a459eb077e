-- Lists of items that fit.
use Rattle.std.proofs.Common.{◌≢◌, ◌<◌, ◌≤◌, ℕ, ◌^◌, List, [], ◌∷◌, ◌++◌, length, ◌-◌, Some, refl, sym, subst, arith, append_assoc, append-nil, codes}
use Rattle.mx_asm.proofs.Words.{append_cancel_left, all-both, AreOctas, Item, File, Pre, Post, Fits, AreFit, GrowsFit, IsFront, GrowsAlike, nat_tests, common_steps}

pub fit-none : AreFit []
unfolding AreFit
fit-none = tt

pub fit-one : (i : Item) → Fits i → AreFit (i ∷ [])
unfolding AreFit
fit-one i h = (h, tt)

pub fit-both : (xs ys : List Item) → AreFit xs → AreFit ys → AreFit (xs ++ ys)
unfolding AreFit
fit-both xs ys h g = all-both Fits xs ys h g

pub fit-push : (xs : List Item) (i : Item) → AreFit xs → Fits i → AreFit (xs ++ i ∷ [])
fit-push xs i h g = fit-both xs (i ∷ []) h (fit-one i g)

pub octas-push : (xs : List ℕ) (x : ℕ) → AreOctas xs → x < 2 ^ 64 → AreOctas (xs ++ x ∷ [])
octas-push xs x h g = all-both (λ x. x < 2 ^ 64) xs (x ∷ []) h (g, tt)

no-zero : (front : List ℕ) → codes ".mms" ≢ front ++ 0 ∷ []
no-zero [] is = cc
no-zero (a ∷ []) is = cc
no-zero (a ∷ b ∷ []) is = cc
no-zero (a ∷ b ∷ c ∷ []) is = cc
no-zero (a ∷ b ∷ c ∷ d ∷ []) is = cc
no-zero (a ∷ b ∷ c ∷ d ∷ e ∷ front) is = cc

pub fit-time : Fits (Pre (0 ∷ []))
fit-time = (omega arith, (omega arith, tt))

pub fit-file : Fits (File 0 (Some (codes ".mms")))
fit-file = (omega arith, record { bytes = (omega arith, (omega arith, (omega arith, (omega arith, tt)))); least = omega arith; most = omega arith; last = no-zero })

pub fit-registers : (gregs : List ℕ) (main : ℕ) → length gregs ≤ 223 → AreOctas gregs → main < 2 ^ 64 → Fits (Post (255 - length gregs) (gregs ++ main ∷ []))
fit-registers gregs main few octas low = grind (arith, common_steps, nat_tests)

-- ---- lists that grow by items that fit

pub grows-by : (xs ys : List Item) → AreFit ys → GrowsFit xs (xs ++ ys)
grows-by xs ys h = record { items = ys; added = refl; fit = h }

pub grows-none : (xs : List Item) → GrowsFit xs xs
grows-none xs = record { items = []; added = sym (append-nil xs); fit = fit-none }

pub grows-on : (xs ys zs : List Item) → GrowsFit xs ys → GrowsFit ys zs → GrowsFit xs zs
grows-on xs ys zs h g = grind (arith, append_assoc, fit-both)

pub grows-one : (xs : List Item) (i : Item) → Fits i → GrowsFit xs (xs ++ i ∷ [])
grows-one xs i h = grows-by xs (i ∷ []) (fit-one i h)

pub grows-two : (xs : List Item) (i j : Item) → Fits i → Fits j → GrowsFit xs ((xs ++ i ∷ []) ++ j ∷ [])
grows-two xs i j h g = grows-on xs (xs ++ i ∷ []) ((xs ++ i ∷ []) ++ j ∷ []) (grows-one xs i h) (grows-one (xs ++ i ∷ []) j g)

pub grows-next : (xs ys rest : List Item) (i : Item) → GrowsFit xs ys → AreFit (i ∷ rest) → GrowsFit xs (ys ++ i ∷ [])
unfolding AreFit
grows-next xs ys rest i h fit = grows-on xs ys (ys ++ i ∷ []) h (grows-one ys i fit.0)

pub fit-rest : (i : Item) (rest : List Item) → AreFit (i ∷ rest) → AreFit rest
unfolding AreFit
fit-rest i rest fit = fit.1

pub grows-fit : (xs ys : List Item) → GrowsFit xs ys → AreFit xs → AreFit ys
grows-fit xs ys h fit = subst AreFit (sym h.added) (fit-both xs h.items fit h.fit)

pub grows-front : (xs ys : List Item) → GrowsFit xs ys → IsFront xs ys
grows-front xs ys h = (h.items, h.added)

-- what is added fits, so the whole does where its front does
pub grows-whole : (front whole old new : List Item) → GrowsAlike front whole old new → GrowsFit old new → AreFit front → AreFit whole
grows-whole front whole old new g h fit = grind (arith, fit-both, append_cancel_left)

pub ruleset fitting = (fit-none, fit-one, fit-both, fit-push, fit-time, fit-file, octas-push)

pub ruleset grown = (grows-fit, grows-front)

pub ruleset growing = (grows-none, grows-one, grows-two, grows-next, fit-rest)
