-- Bytes that are placed below 2^18 touch few pages.
use Rattle.std.proofs.Common.{◌≡◌, ℕ, zero, suc, ◌+◌, ◌^◌, ◌<◌, ◌≤◌, Bool, false, cond, List, [], ◌∷◌, ◌++◌, length, None, refl, arith, rules}
use Rattle.mx_gen.proofs.Words.{AllByRecursion, cases_lt, le-leb, Sight, Piece, outlined, page_refusal_from, accepted}
use Rattle.mx_stmt.specs.Placements.{from_place}
use Rattle.mx_asm.specs.Image.{placements, pages_of, pages_below}
use Rattle.mx_gen.proofs.Refusals.{all-append, IsFine}

-- ---- addresses that are low

abbrev pub IsLowPlace : ℕ × ℕ → Type 0
IsLowPlace p = p.0 < 2 ^ 18

low-from : (start : ℕ) (bytes : List ℕ) → start + length bytes ≤ 2 ^ 18 → AllByRecursion IsLowPlace (from_place start bytes)
low-from start [] h = tt
low-from start (b ∷ bytes) h = (omega (arith, h), low-from (start + 1) bytes (omega (arith, h)))

after-front : (front old new : List (ℕ × ℕ)) → (AllByRecursion IsLowPlace old → AllByRecursion IsLowPlace new) → AllByRecursion IsLowPlace (front ++ old) → AllByRecursion IsLowPlace (front ++ new)
after-front [] old new f h = f h
after-front (x ∷ xs) old new f h = (h.0, after-front xs old new f h.1)

placements-append : (ps qs : List Piece) → AllByRecursion IsLowPlace (placements ps) → AllByRecursion IsLowPlace (placements qs) → AllByRecursion IsLowPlace (placements (ps ++ qs))
unfolding placements
placements-append [] qs h g = g
placements-append (p ∷ ps) qs h g = after-front (from_place p.start p.bytes) (placements ps) (placements (ps ++ qs)) (λ k. placements-append ps qs k g) h

low-outlined : (sights : List Sight) → AllByRecursion IsFine sights → AllByRecursion IsLowPlace (placements (outlined sights))
unfolding outlined placements
low-outlined [] h = tt
low-outlined (s ∷ later) h = search (rules, placements-append, low-outlined later h.1, all-append, low-from)

-- ---- pages

no-page : (ps : List (ℕ × ℕ)) (page : ℕ) → AllByRecursion IsLowPlace ps → 64 ≤ page → pages_of ps page ≡ false
no-page [] page h high = refl
no-page (p ∷ ps) page h high = search (rules, no-page ps page h.1 high)

one-most : (b : Bool) → cond b 1 0 ≤ 1
one-most b = search rules

none-more : (b : Bool) → b ≡ false → cond b 1 0 ≤ 0
none-more b h = search rules

few-below : (n : ℕ) (pages : ℕ → Bool) → pages_below n pages ≤ n
unfolding pages_below
few-below zero pages = omega arith
few-below (suc n) pages = omega (arith, one-most (pages n), few-below n pages)

-- where no page from 64 on is touched, at most 64 are
few-pages : (n : ℕ) (pages : ℕ → Bool) → ((page : ℕ) → 64 ≤ page → pages page ≡ false) → pages_below n pages ≤ 64
unfolding pages_below
few-pages zero pages h = omega arith
few-pages (suc n) pages h = grind (arith, few-below, one-most, none-more, cases_lt, few-pages n pages h)

pub no-page-refused : (earlier later : List Sight) → AllByRecursion IsFine earlier → AllByRecursion IsFine later → page_refusal_from earlier later ≡ None
unfolding page_refusal_from
no-page-refused earlier [] h g = refl
no-page-refused earlier (s ∷ later) h g = search (rules, all-append, no-page-refused (earlier ++ s ∷ []) later, few-pages, no-page, low-outlined, le-leb)

pub fine-accepted : (earlier later : List Sight) → AllByRecursion IsFine later → AllByRecursion IsFine (accepted earlier later)
unfolding accepted
fine-accepted earlier [] h = tt
fine-accepted earlier (s ∷ later) h = grind (arith, fine-accepted (earlier ++ s ∷ []) later h.1)
