-- The parts of a text: before its blank, and between its commas.
use Rattle.std.proofs.Common.{◌≡◌, ℕ, Bool, true, false, not, ◌&&◌, eqb, List, [], ◌∷◌, ◌++◌, refl, sym, ◌∙◌, ap, arith, drop, get_or}
use Rattle.mx_text.proofs.Words.{join_with_byte, and_parts, not-true, false≢true}

-- no byte is c
abbrev pub lacks : ℕ → List ℕ → Bool
lacks c [] = true
lacks c (b ∷ bs) = not (eqb b c) && lacks c bs

abbrev pub each-lacks : ℕ → List (List ℕ) → Bool
each-lacks c [] = true
each-lacks c (p ∷ ps) = lacks c p && each-lacks c ps

-- what lacks c does not begin with it
other : (c : ℕ) (b : ℕ) (bs : List ℕ) → lacks c (b ∷ bs) ≡ true → b ≡ c → false ≡ true
other c b bs l is =
    let tested : eqb b c ≡ false = not-true _ (and_parts _ _ l).0 in
    sym tested ∙ ap (λ d. eqb d c) is ∙ (grind (arith))

head-of : (a b : ℕ) (xs ys : List ℕ) → a ∷ xs ≡ b ∷ ys → a ≡ b
head-of a b xs ys is = ap (λ l. get_or l 0 0) is

tail-of : (a b : ℕ) (xs ys : List ℕ) → a ∷ xs ≡ b ∷ ys → xs ≡ ys
tail-of a b xs ys is = ap (drop 1) is

-- two texts that are cut at their first c
pub cut-first : (c : ℕ) (xs ys us vs : List ℕ) → lacks c xs ≡ true → lacks c us ≡ true → xs ++ c ∷ ys ≡ us ++ c ∷ vs → (xs ≡ us) × (ys ≡ vs)
cut-first c [] ys [] vs lx lu same = (refl, tail-of c c ys vs same)
cut-first c [] ys (u ∷ us) vs lx lu same = absurd (false≢true (other c u us lu (sym (head-of c u ys (us ++ c ∷ vs) same))))
cut-first c (x ∷ xs) ys [] vs lx lu same = absurd (false≢true (other c x xs lx (head-of x c (xs ++ c ∷ ys) vs same)))
cut-first c (x ∷ xs) ys (u ∷ us) vs lx lu same =
    let rest : (xs ≡ us) × (ys ≡ vs) = cut-first c xs ys us vs (and_parts (not (eqb x c)) (lacks c xs) lx).1 (and_parts (not (eqb u c)) (lacks c us) lu).1 (tail-of x u (xs ++ c ∷ ys) (us ++ c ∷ vs) same) in
    (cc (head-of x u (xs ++ c ∷ ys) (us ++ c ∷ vs) same, rest.0), rest.1)

-- a text with c does not lack it
has : (c : ℕ) (xs us vs : List ℕ) → lacks c xs ≡ true → xs ≡ us ++ c ∷ vs → false ≡ true
has c [] [] vs l is = cc is
has c [] (u ∷ us) vs l is = cc is
has c (x ∷ xs) [] vs l is = other c x xs l (head-of x c xs vs is)
has c (x ∷ xs) (u ∷ us) vs l is = has c xs us vs (and_parts _ _ l).1 (tail-of x u xs (us ++ c ∷ vs) is)

-- joined parts that lack the byte between them
pub same-parts : (c : ℕ) (p : List ℕ) (ps : List (List ℕ)) (q : List ℕ) (qs : List (List ℕ)) → each-lacks c (p ∷ ps) ≡ true → each-lacks c (q ∷ qs) ≡ true →
    join_with_byte c (p ∷ ps) ≡ join_with_byte c (q ∷ qs) → p ∷ ps ≡ q ∷ qs
same-parts c p [] q [] lp lq same = ap (λ t. t ∷ []) same
same-parts c p [] q (q' ∷ qs) lp lq same = absurd (false≢true (has c p q _ (and_parts _ _ lp).0 same))
same-parts c p (p' ∷ ps) q [] lp lq same = absurd (false≢true (has c q p _ (and_parts _ _ lq).0 (sym same)))
same-parts c p (p' ∷ ps) q (q' ∷ qs) lp lq same =
    let both : (p ≡ q) × (join_with_byte c (p' ∷ ps) ≡ join_with_byte c (q' ∷ qs)) = cut-first c p _ q _ (and_parts _ _ lp).0 (and_parts _ _ lq).0 same in
    let rest : p' ∷ ps ≡ q' ∷ qs = same-parts c p' ps q' qs (and_parts (lacks c p) (each-lacks c (p' ∷ ps)) lp).1 (and_parts (lacks c q) (each-lacks c (q' ∷ qs)) lq).1 both.1 in
    cc (both.0, rest)
