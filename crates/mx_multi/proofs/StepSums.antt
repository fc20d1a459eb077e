-- How many steps were made in all, turn by turn.
use Rattle.std.proofs.Common.{◌≡◌, ◌≤◌, ℕ, zero, suc, ◌+◌, ◌%◌, ◌^◌, true, false, cond, ◌==◌, List, length, get_or, arith, refl, sym, subst, ap, ◌∙◌, ⊎_elim}
use Rattle.std.proofs.lemmas.Bool.{cases_eq}
use Rattle.std.proofs.lemmas.Bool.Decides.{nat_tests}
use Rattle.std.proofs.lemmas.List.{get_or-set_other, length-set}
use Rattle.mx_core.specs.State.{State}
use Rattle.mx_multi.specs.Clauses.{MakesAtMost, sum_below}
use Rattle.mx_multi.specs.Joint.{Joint, processor, no_processor}
use Rattle.mx_multi.specs.JointTurns.{MakesOne}

-- ---- sums

-- one value more
abbrev more-at : ℕ → ℕ → (ℕ → ℕ) → ℕ → ℕ
more-at who x f k = cond (k == who) (f k + x) (f k)

at-it : (who x : ℕ) (f : ℕ → ℕ) (k : ℕ) → k ≡ who → more-at who x f k ≡ f k + x
at-it who x f k e = let same : (k == who) ≡ true = grind (arith, nat_tests) in rw same refl

beside-it : (who x : ℕ) (f : ℕ → ℕ) (k : ℕ) → (k ≡ who → ⊥) → more-at who x f k ≡ f k
beside-it who x f k ne = let other : (k == who) ≡ false = grind (arith, nat_tests) in rw other refl

sum-below-it : (who x : ℕ) (f : ℕ → ℕ) (n : ℕ) → n ≤ who → sum_below n (more-at who x f) ≡ sum_below n f
sum-below-it who x f zero l = refl
sum-below-it who x f (suc n) l =
    let first : sum_below n (more-at who x f) ≡ sum_below n f = sum-below-it who x f n (omega (arith, l)) in
    let last : more-at who x f n ≡ f n = beside-it who x f n (λ e. omega (arith, l, e)) in
    omega (arith, first, last)

sum-by : (who x : ℕ) (f : ℕ → ℕ) (n : ℕ) → sum_below n (more-at who x f) ≤ sum_below n f + x → sum_below (suc n) (more-at who x f) ≤ sum_below (suc n) f + x
sum-by who x f n more = ⊎_elim here there (cases_eq n who)
  where
    here : n ≡ who → sum_below (suc n) (more-at who x f) ≤ sum_below (suc n) f + x
    here e =
        let first : sum_below n (more-at who x f) ≡ sum_below n f = sum-below-it who x f n (omega (arith, e)) in
        let last : more-at who x f n ≡ f n + x = at-it who x f n e in
        omega (arith, first, last)

    there : (n ≡ who → ⊥) → sum_below (suc n) (more-at who x f) ≤ sum_below (suc n) f + x
    there ne =
        let last : more-at who x f n ≡ f n = beside-it who x f n ne in
        omega (arith, more, last)

sum-more : (who x : ℕ) (f : ℕ → ℕ) (n : ℕ) → sum_below n (more-at who x f) ≤ sum_below n f + x
sum-more who x f zero = omega arith
sum-more who x f (suc n) = sum-by who x f n (sum-more who x f n)

sum-none : (n : ℕ) → sum_below n (λ _. 0) ≡ 0
sum-none zero = refl
sum-none (suc n) = let first : sum_below n (λ _. 0) ≡ 0 = sum-none n in omega (arith, first)

-- ---- steps

pub none-made : (j : Joint) → MakesAtMost 0 j j
none-made j = record { same = refl; made = λ _. 0; few = (let none : sum_below (length j.processors) (λ _. 0) ≡ 0 = sum-none (length j.processors) in omega (arith, none)); counted = λ who. omega arith }

pub few-made : (n k : ℕ) (j i : Joint) → k ≤ n → MakesAtMost k j i → MakesAtMost n j i
few-made n k j i l h = record { same = h.same; made = h.made; few = omega (arith, h.few, l); counted = h.counted }

other-stays : (j i : Joint) (who k : ℕ) → MakesOne who j i → (k ≡ who → ⊥) → processor i k ≡ processor j k
other-stays j i who k h ne = ap (λ ss. get_or ss k no_processor) h.others ∙ get_or-set_other j.processors who k (processor i who) no_processor ne

pub one-made : (who : ℕ) (j i : Joint) → MakesOne who j i → MakesAtMost 1 j i
one-made who j i g = record {
  same = ap (λ (ss : List State). length ss) g.others ∙ length-set j.processors who (processor i who);
  made = more-at who g.one.made (λ _. 0);
  few = (let sum : sum_below (length j.processors) (more-at who g.one.made (λ _. 0)) ≤ sum_below (length j.processors) (λ _. 0) + g.one.made = sum-more who g.one.made (λ _. 0) (length j.processors) in
      let none : sum_below (length j.processors) (λ _. 0) ≡ 0 = sum-none (length j.processors) in
      omega (arith, sum, none, g.one.few));
  counted = λ k. ⊎_elim (λ e. here k e) (λ ne. there k ne) (cases_eq k who);
}
  where
    here : (k : ℕ) → k ≡ who → (processor i k).steps % 2 ^ 64 ≡ ((processor j k).steps + more-at who g.one.made (λ _. 0) k) % 2 ^ 64
    here k e =
        let made : more-at who g.one.made (λ _. 0) k ≡ 0 + g.one.made = at-it who g.one.made (λ _. 0) k e in
        let now : (processor i k).steps % 2 ^ 64 ≡ ((processor j k).steps + g.one.made) % 2 ^ 64 = subst (λ q. (processor i q).steps % 2 ^ 64 ≡ ((processor j q).steps + g.one.made) % 2 ^ 64) (sym e) g.one.counted in
        omega (arith, made, now)

    there : (k : ℕ) → (k ≡ who → ⊥) → (processor i k).steps % 2 ^ 64 ≡ ((processor j k).steps + more-at who g.one.made (λ _. 0) k) % 2 ^ 64
    there k ne =
        let made : more-at who g.one.made (λ _. 0) k ≡ 0 = beside-it who g.one.made (λ _. 0) k ne in
        let now : (processor i k).steps % 2 ^ 64 ≡ (processor j k).steps % 2 ^ 64 = ap (λ (s : State). s.steps % 2 ^ 64) (other-stays j i who k g ne) in
        omega (arith, made, now)

sum-both : (f g : ℕ → ℕ) (n : ℕ) → sum_below n (λ k. f k + g k) ≡ sum_below n f + sum_below n g
sum-both f g zero = refl
sum-both f g (suc n) = let first : sum_below n (λ k. f k + g k) ≡ sum_below n f + sum_below n g = sum-both f g n in omega (arith, first)

pub both-made : (n k : ℕ) (a j i : Joint) → MakesAtMost n a j → MakesAtMost k j i → MakesAtMost (n + k) a i
both-made n k a j i h g = record {
  same = g.same ∙ h.same;
  made = λ w. h.made w + g.made w;
  few = (let sum : sum_below (length a.processors) (λ w. h.made w + g.made w) ≡ sum_below (length a.processors) h.made + sum_below (length a.processors) g.made = sum-both h.made g.made (length a.processors) in
      let rest : sum_below (length a.processors) g.made ≤ k = subst (λ m. sum_below m g.made ≤ k) h.same g.few in
      omega (arith, sum, h.few, rest));
  counted = λ w. (let was = h.counted w in let now = g.counted w in omega (arith, was, now));
}
