-- The best of a list: what one of its elements gives that nothing else beats; of several such, the first.
use Rattle.std.proofs.Common.{◌≡◌, ℕ, ◌<◌, ◌≤◌, ◌+◌, List, [], ◌∷◌, ◌++◌, length, get_or, drop, Bool, true, false, cond, Option, None, Some, refl, sym, ap, subst, ◌∙◌}
use Rattle.std.proofs.lemmas.List.{at_drop_all, at_drop_more}

-- Nothing beats itself; what beats the one that beats another one beats that too; and what beats another one beats each that does not.
pub record IsRanking {P : Type 0} (beats : P → P → Bool) : Type 0 where
  pub never : (p : P) → beats p p ≡ false
  pub through : (p q r : P) → beats q p ≡ true → beats r q ≡ true → beats r p ≡ true
  pub between : (p q r : P) → beats q p ≡ false → beats r p ≡ true → beats r q ≡ true

-- the better of two, and the best of what the elements of a list give
pub record IsBest {A P : Type 0} (beats : P → P → Bool) (of : A → Option P) (better : Option P → Option P → Option P) (best : List A → Option P) : Type 0 where
  pub ranking : IsRanking beats
  pub none : (q : Option P) → better None q ≡ q
  pub alone : (p : P) → better (Some p) None ≡ Some p
  pub both : (p q : P) → better (Some p) (Some q) ≡ cond (beats q p) (Some q) (Some p)
  pub empty : best [] ≡ None
  pub more : (x : A) (xs : List A) → best (x ∷ xs) ≡ better (of x) (best xs)

-- one is not beaten by another, if there is one
abbrev pub AsGood : {P : Type 0} → (P → P → Bool) → Option P → Option P → Type 0
AsGood beats p None = Unit {0}
AsGood beats None (Some r) = ⊥
AsGood beats (Some p) (Some r) = beats r p ≡ false

module _ {A P : Type 0} (beats : P → P → Bool) (of : A → Option P) (better : Option P → Option P → Option P) (best : List A → Option P) (h : IsBest beats of better best) where
  unbeaten : (p q r : P) → beats q p ≡ false → beats r q ≡ false → beats r p ≡ false
  unbeaten p q r e f = by (beats r p) refl
    where
      by : (b : Bool) → beats r p ≡ b → b ≡ false
      by true g = sym (h.ranking.between p q r e g) ∙ f
      by false g = refl

  still-unbeaten : (p q r : P) → beats q p ≡ true → beats r p ≡ false → beats r q ≡ false
  still-unbeaten p q r e f = by (beats r q) refl
    where
      by : (b : Bool) → beats r q ≡ b → b ≡ false
      by true g = sym (h.ranking.through p q r e g) ∙ f
      by false g = refl

  -- ---- in turn

  right-none : (p : Option P) → better p None ≡ p
  right-none None = h.none None
  right-none (Some p) = h.alone p

  picked : (p q : P) (b : Bool) → beats q p ≡ b → better (Some p) (Some q) ≡ cond b (Some q) (Some p)
  picked p q b e = h.both p q ∙ ap (λ t. cond t (Some q) (Some p)) e

  some-grouped : (p q r : P) → better (better (Some p) (Some q)) (Some r) ≡ better (Some p) (better (Some q) (Some r))
  some-grouped p q r = by (beats q p) (beats r q) refl refl
    where
      left : (b : Bool) → beats q p ≡ b → better (better (Some p) (Some q)) (Some r) ≡ better (cond b (Some q) (Some p)) (Some r)
      left b e = ap (λ t. better t (Some r)) (picked p q b e)

      right : (c : Bool) → beats r q ≡ c → better (Some p) (better (Some q) (Some r)) ≡ better (Some p) (cond c (Some r) (Some q))
      right c f = ap (better (Some p)) (picked q r c f)

      by : (b c : Bool) → beats q p ≡ b → beats r q ≡ c → better (better (Some p) (Some q)) (Some r) ≡ better (Some p) (better (Some q) (Some r))
      by true true e f = left true e ∙ picked q r true f ∙ sym (right true f ∙ picked p r true (h.ranking.through p q r e f))
      by true false e f = left true e ∙ picked q r false f ∙ sym (right false f ∙ picked p q true e)
      by false true e f = left false e ∙ sym (right true f)
      by false false e f = left false e ∙ picked p r false (unbeaten p q r e f) ∙ sym (right false f ∙ picked p q false e)

  grouped : (p q r : Option P) → better (better p q) r ≡ better p (better q r)
  grouped None q r = ap (λ t. better t r) (h.none q) ∙ sym (h.none (better q r))
  grouped (Some p) None r = ap (λ t. better t r) (h.alone p) ∙ ap (better (Some p)) (sym (h.none r))
  grouped (Some p) (Some q) None = right-none (better (Some p) (Some q)) ∙ ap (better (Some p)) (sym (h.alone q))
  grouped (Some p) (Some q) (Some r) = some-grouped p q r

  pub best-next : (xs : List A) (i : ℕ) (x : A) (so_far place new whole : Option P) → i < length xs → place ≡ of (get_or xs i x) →
      new ≡ better so_far place → whole ≡ better so_far (best (drop i xs)) → whole ≡ better new (best (drop (i + 1) xs))
  best-next xs i x so_far place new whole inside is made so =
      so ∙ at_drop_more (λ ys. better so_far (best ys)) xs i x inside
      ∙ ap (better so_far) (h.more (get_or xs i x) (drop (i + 1) xs))
      ∙ sym (grouped so_far (of (get_or xs i x)) (best (drop (i + 1) xs)))
      ∙ ap (λ p. better p (best (drop (i + 1) xs))) (ap (better so_far) (sym is) ∙ sym made)

  pub best-all : (xs : List A) (i : ℕ) (so_far whole : Option P) → length xs ≤ i → whole ≡ better so_far (best (drop i xs)) → so_far ≡ whole
  best-all xs i so_far whole end so =
      sym (so ∙ at_drop_all (λ ys. better so_far (best ys)) xs i end ∙ ap (better so_far) h.empty ∙ right-none so_far)

  -- ---- none is better

  left-good : (p q r : Option P) → AsGood beats p r → AsGood beats (better p q) r
  left-good p q None x = tt
  left-good None q (Some r) x = absurd x
  left-good (Some p) None (Some r) x = subst (λ t. AsGood beats t (Some r)) (sym (h.alone p)) x
  left-good (Some p) (Some q) (Some r) x = by (beats q p) refl
    where
      by : (b : Bool) → beats q p ≡ b → AsGood beats (better (Some p) (Some q)) (Some r)
      by true e = subst (λ t. AsGood beats t (Some r)) (sym (picked p q true e)) (still-unbeaten p q r e x)
      by false e = subst (λ t. AsGood beats t (Some r)) (sym (picked p q false e)) x

  right-good : (p q r : Option P) → AsGood beats q r → AsGood beats (better p q) r
  right-good p q None x = tt
  right-good None q (Some r) x = subst (λ t. AsGood beats t (Some r)) (sym (h.none q)) x
  right-good (Some p) None (Some r) x = absurd x
  right-good (Some p) (Some q) (Some r) x = by (beats q p) refl
    where
      by : (b : Bool) → beats q p ≡ b → AsGood beats (better (Some p) (Some q)) (Some r)
      by true e = subst (λ t. AsGood beats t (Some r)) (sym (picked p q true e)) x
      by false e = subst (λ t. AsGood beats t (Some r)) (sym (picked p q false e)) (unbeaten p q r e x)

  itself-good : (p : Option P) → AsGood beats p p
  itself-good None = tt
  itself-good (Some p) = h.ranking.never p

  pub none-better : (front later : List A) (x : A) → AsGood beats (best (front ++ x ∷ later)) (of x)
  none-better [] later x = subst (λ t. AsGood beats t (of x)) (sym (h.more x later)) (left-good (of x) (best later) (of x) (itself-good (of x)))
  none-better (y ∷ front) later x =
      subst (λ t. AsGood beats t (of x)) (sym (h.more y (front ++ x ∷ later))) (right-good (of y) (best (front ++ x ∷ later)) (of x) (none-better front later x))
