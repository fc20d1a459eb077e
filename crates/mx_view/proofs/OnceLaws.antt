-- A line shows each tetra that it loads once.
use Rattle.std.proofs.Common.{◌≡◌, ◌≢◌, ℕ, zero, suc, List, [], ◌∷◌, ◌++◌, map, fold, Bool, true, false, cond, ◌==◌, ◌||◌, arith, refl, ap, ◌∙◌}
use Rattle.std.specs.List.{All, AllPairs}
use Rattle.std.proofs.lemmas.Bool.{cond_both}
use Rattle.std.proofs.lemmas.Bool.Decides.{nat_tests}
use Rattle.std.proofs.lemmas.List.Folds.{list_any-append}
use Rattle.std.proofs.lemmas.List.Kept.{AllPairs-cons}
use Rattle.mx_view.specs.declared.cells.Cell.{Cell}
use Rattle.mx_view.specs.Rows.{Meaning, is_loaded_at, joined_with, listed_line, shown_cell, with_cell}
unfoldable use Rattle.mx_view.specs.Rows.{once}

-- ---- where tetras are

pub joined-stays : (c d : Cell) → (joined_with c d).address ≡ d.address
joined-stays c d = cond_both (d.address == c.address) _ d (λ (x : Cell). x.address ≡ d.address) (λ e. refl) (λ e. refl)

loaded-joined : (c : Cell) (cells : List Cell) (a : ℕ) → is_loaded_at (map (joined_with c) cells) a ≡ is_loaded_at cells a
loaded-joined c [] a = refl
loaded-joined c (d ∷ cells) a = λ i. joined-stays c d i == a || loaded-joined c cells a i

pub loaded-shown : (m : Meaning) (cells : List Cell) (a : ℕ) → is_loaded_at (map (shown_cell m) cells) a ≡ is_loaded_at cells a
loaded-shown m [] a = refl
loaded-shown m (c ∷ cells) a = ap (λ b. c.address == a || b) (loaded-shown m cells a)

-- an address that is there already adds nothing
held : (cells : List Cell) (b a : ℕ) → is_loaded_at cells b ≡ true → is_loaded_at cells a ≡ (is_loaded_at cells a || b == a)
held [] b a e = absurd (cc)
held (c ∷ cells) b a e = grind (arith, nat_tests, held cells b a)

loaded-with : (cells : List Cell) (c : Cell) (a : ℕ) → is_loaded_at (with_cell cells c) a ≡ (is_loaded_at cells a || c.address == a)
loaded-with cells c a = by (is_loaded_at cells c.address) refl
  where
    or-false : (b : Bool) → (b || false) ≡ b
    or-false true = refl
    or-false false = refl

    by : (b : Bool) → is_loaded_at cells c.address ≡ b → is_loaded_at (cond b (map (joined_with c) cells) (cells ++ c ∷ [])) a ≡ (is_loaded_at cells a || c.address == a)
    by true e = loaded-joined c cells a ∙ held cells c.address a e
    by false e = list_any-append (λ (d : Cell). d.address == a) cells (c ∷ []) ∙ ap (λ b. is_loaded_at cells a || b) (or-false (c.address == a))

grouped : (a b c : Bool) → ((a || b) || c) ≡ (a || (b || c))
grouped true b c = refl
grouped false b c = refl

loaded-fold : (cells front : List Cell) (a : ℕ) → is_loaded_at (fold with_cell front cells) a ≡ (is_loaded_at front a || is_loaded_at cells a)
loaded-fold [] front a = or-none (is_loaded_at front a)
  where
    or-none : (b : Bool) → b ≡ (b || false)
    or-none true = refl
    or-none false = refl
loaded-fold (c ∷ cells) front a =
    loaded-fold cells (with_cell front c) a ∙ ap (λ b. b || is_loaded_at cells a) (loaded-with front c a) ∙ grouped (is_loaded_at front a) (c.address == a) (is_loaded_at cells a)

pub loaded-once : (cells : List Cell) (a : ℕ) → is_loaded_at (once cells) a ≡ is_loaded_at cells a
unfolding once
loaded-once cells a = loaded-fold cells [] a

-- ---- tetras of different addresses

abbrev AreApart : List Cell → Type 0
AreApart [] = Unit {0}
AreApart (c ∷ cells) = (is_loaded_at cells c.address ≡ false) × AreApart cells

apart-joined : (c : Cell) (cells : List Cell) → AreApart cells → AreApart (map (joined_with c) cells)
apart-joined c [] h = tt
apart-joined c (d ∷ cells) h =
    (loaded-joined c cells (joined_with c d).address ∙ ap (is_loaded_at cells) (joined-stays c d) ∙ h.0, apart-joined c cells h.1)

apart-pushed : (cells : List Cell) (c : Cell) → AreApart cells → is_loaded_at cells c.address ≡ false → AreApart (cells ++ c ∷ [])
apart-pushed [] c h e = (refl, tt)
apart-pushed (d ∷ cells) c h e = (first, apart-pushed cells c h.1 (following (d.address == c.address) e))
  where
    following : (b : Bool) → (b || is_loaded_at cells c.address) ≡ false → is_loaded_at cells c.address ≡ false
    following true f = absurd (cc)
    following false f = f

    apart : (c.address == d.address) ≡ false
    apart = grind (arith, nat_tests)

    first : is_loaded_at (cells ++ c ∷ []) d.address ≡ false
    first = list_any-append (λ (x : Cell). x.address == d.address) cells (c ∷ []) ∙ (λ i. h.0 i || (apart i || false))

apart-with : (cells : List Cell) (c : Cell) → AreApart cells → AreApart (with_cell cells c)
apart-with cells c h =
    cond_both (is_loaded_at cells c.address) (map (joined_with c) cells) (cells ++ c ∷ []) AreApart (λ e. apart-joined c cells h) (λ e. apart-pushed cells c h e)

apart-fold : (cells front : List Cell) → AreApart front → AreApart (fold with_cell front cells)
apart-fold [] front h = h
apart-fold (c ∷ cells) front h = apart-fold cells (with_cell front c) (apart-with front c h)

apart-shown : (m : Meaning) (cells : List Cell) → AreApart cells → AreApart (map (shown_cell m) cells)
apart-shown m [] h = tt
apart-shown m (c ∷ cells) h = (loaded-shown m cells c.address ∙ h.0, apart-shown m cells h.1)

elsewhere : (cells : List Cell) (a : ℕ) → is_loaded_at cells a ≡ false → All (λ (d : Cell). a ≢ d.address) cells
elsewhere [] a e k d within = absurd (omega (arith, within))
elsewhere (c ∷ cells) a e zero d within = λ same. absurd (grind (arith, nat_tests))
elsewhere (c ∷ cells) a e (suc k) d within = elsewhere cells a (grind (arith, nat_tests)) k d (omega (arith, within))

apart-pairs : (cells : List Cell) → AreApart cells → AllPairs (λ (c d : Cell). c.address ≢ d.address) cells
apart-pairs [] h = λ i j d lt within. absurd (omega (arith, within))
apart-pairs (c ∷ cells) h = AllPairs-cons (λ (c d : Cell). c.address ≢ d.address) c cells (elsewhere cells c.address h.0) (apart-pairs cells h.1)

-- ---- the law

pub shown-once : (m : Meaning) (number : ℕ) (line : List ℕ) (cells : List Cell) → AllPairs (λ (c d : Cell). c.address ≢ d.address) (listed_line m number line cells).cells
unfolding once
shown-once m number line cells = apart-pairs (map (shown_cell m) (once cells)) (apart-shown m (once cells) (apart-fold cells [] tt))

pub shown-all : (m : Meaning) (number : ℕ) (line : List ℕ) (cells : List Cell) (a : ℕ) → is_loaded_at (listed_line m number line cells).cells a ≡ is_loaded_at cells a
shown-all m number line cells a = loaded-shown m (once cells) a ∙ loaded-once cells a
