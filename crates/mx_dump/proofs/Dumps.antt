-- The octas that a dump shows.
use Rattle.std.proofs.Common.{◌≡◌, ◌≢◌, ◌≤◌, ◌<◌, ◌⊎◌, inl, inr, ℕ, ◌%◌, ◌^◌, ◌==◌, ◌&&◌, ◌||◌, not, Bool, true, false, cond, List, [], ◌∷◌, Option, None, Some, arith, refl, ap, codes}
use Rattle.std.proofs.lemmas.Bool.{cases_lt}
use Rattle.std.proofs.lemmas.Bool.Decides.{nat_tests}
use Rattle.mx_word.proofs.Comparisons.{other-test}
use Rattle.mx_core.specs.Way.Search.{AreZero, IsNextBetween}
use Rattle.mx_core.specs.State.{State, octa}
use Rattle.mx_ring.specs.Stack.{in_stack_area, stack_address}
use Rattle.mx_text.specs.Numbers.{hex_digits}
use Rattle.mx_dump.specs.Dump.{named_octa, Line, is_address_shown, octa_line}
use Rattle.mx_dump.specs.Shown.{AreHidden, IsNextShown, shown_octa}

-- ---- one octa

pub zero-hidden : (s : State) (q : ℕ) → octa s q ≡ 0 → octa_line s q ≡ []
zero-hidden s q e = rw e refl

both-hidden : (b c : Bool) (xs : List Line) → c ≡ false → cond (b && c) xs [] ≡ []
both-hidden true c xs e = ap (λ d. cond d xs []) e
both-hidden false c xs e = refl

pub address-hidden : (s : State) (q : ℕ) → is_address_shown s q ≡ false → octa_line s q ≡ []
address-hidden s q e = both-hidden (not (octa s q == 0)) (is_address_shown s q) _ e

pub octa-shown : (s : State) (a x : ℕ) → octa s a ≡ x → x ≢ 0 → is_address_shown s a ≡ true → octa_line s a ≡ shown_octa a x ∷ []
octa-shown s a x e n shown = rw (e, other-test x 0 n, shown) refl

-- ---- the next one

zeros-hidden : (s : State) (from to : ℕ) → AreZero (octa s) from to → AreHidden s from to
zeros-hidden s from to h = λ q l e m. zero-hidden s q (h q l e m)

pub next-none : (s : State) (from : ℕ) → IsNextBetween (octa s) from (2 ^ 63) None → IsNextShown s from None
next-none s from h = zeros-hidden s from (2 ^ 63) h

pub next-there : (s : State) (from a x : ℕ) → IsNextBetween (octa s) from (2 ^ 63) (Some (a, x)) → is_address_shown s a ≡ true → IsNextShown s from (Some (a, x))
next-there s from a x h shown = (h.0, h.1, h.2, octa-shown s a x h.3 h.4 shown, zeros-hidden s from a h.5)

-- where the stack area is not shown
untouched : (t : Bool) (b : Bool) → (t || not b) ≡ false → (t ≡ false) × (b ≡ true)
untouched true b e = absurd (cc)
untouched false true e = (refl, refl)
untouched false false e = absurd (cc)

pub inside : (a q : ℕ) → in_stack_area a ≡ true → a ≤ q → q < stack_address (2 ^ 20) → in_stack_area q ≡ true
inside a q h l m = grind (arith, nat_tests)

pub outside : (q : ℕ) → stack_address (2 ^ 20) ≤ q → in_stack_area q ≡ false
outside q l = grind (arith, nat_tests)

pub area-below : (a : ℕ) → in_stack_area a ≡ true → a < stack_address (2 ^ 20)
area-below a h = grind (arith, nat_tests)

area-hidden : (s : State) (a : ℕ) → is_address_shown s a ≡ false → AreHidden s a (stack_address (2 ^ 20))
area-hidden s a h =
    let parts = untouched s.touched (in_stack_area a) h in
    λ q l e m. address-hidden s q (rw (parts.0, inside a q parts.1 l m) refl)

above-shown : (s : State) (q : ℕ) → stack_address (2 ^ 20) ≤ q → is_address_shown s q ≡ true
above-shown s q l = at s.touched (in_stack_area q) (outside q l)
  where
    at : (t b : Bool) → b ≡ false → (t || not b) ≡ true
    at true b e = refl
    at false b e = ap not e

pub hidden-through : (s : State) (a b c : ℕ) → AreHidden s a b → AreHidden s b c → AreHidden s a c
hidden-through s a b c h k = λ q l e m. by q l e m (cases_lt q b)
  where
    by : (q : ℕ) → a ≤ q → q % 8 ≡ 0 → q < c → (q < b) ⊎ (b ≤ q) → octa_line s q ≡ []
    by q l e m (inl n) = h q l e n
    by q l e m (inr n) = k q n e m

over-area : (s : State) (from a x : ℕ) → IsNextBetween (octa s) from (2 ^ 63) (Some (a, x)) → is_address_shown s a ≡ false → AreHidden s from (stack_address (2 ^ 20))
over-area s from a x h hidden = hidden-through s from a (stack_address (2 ^ 20)) (zeros-hidden s from a h.5) (area-hidden s a hidden)

pub next-above : (s : State) (from a x : ℕ) (found : Option (ℕ × ℕ)) → IsNextBetween (octa s) from (2 ^ 63) (Some (a, x)) → is_address_shown s a ≡ false →
    IsNextBetween (octa s) (stack_address (2 ^ 20)) (2 ^ 63) found → IsNextShown s from found
next-above s from a x None h hidden k = hidden-through s from (stack_address (2 ^ 20)) (2 ^ 63) (over-area s from a x h hidden) (zeros-hidden s (stack_address (2 ^ 20)) (2 ^ 63) k)
next-above s from a x (Some (b, y)) h hidden k =
    let below = area-below a (untouched s.touched (in_stack_area a) hidden).1 in (
      omega (arith, h.0, below, k.0),
      k.1,
      k.2,
      octa-shown s b y k.3 k.4 (above-shown s b k.0),
      hidden-through s from (stack_address (2 ^ 20)) b (over-area s from a x h hidden) (zeros-hidden s (stack_address (2 ^ 20)) b k.5),
    )

pub ruleset showing = (next-none, next-there, next-above)

-- lines of a dump
row-register : named_octa (codes "$255") 33923 ≡ codes "$255=#0000000000008483\n"
unfolding hex_digits
row-register = refl

row-octa : shown_octa 0x2000_0000_0000_0000 0xfeed ≡ codes "M#2000000000000000=#000000000000feed\n"
unfolding hex_digits
row-octa = refl
