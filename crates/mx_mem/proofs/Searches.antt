-- The search for the next octa other than 0.
use Rattle.std.proofs.Common.{◌≡◌, ◌<◌, ◌≤◌, ◌/◌, ◌%◌, ◌*◌, ◌+◌, ◌⊎◌, ℕ, List, get_or, Some, None, arith, ap, sym, ◌∙◌, ⊎_elim}
use Rattle.std.specs.Ordering.{nat_cmp}
use Rattle.std.specs.BTreeMap.{BTreeMap, get}
use Rattle.std.proofs.lemmas.Bool.{cases_lt}
use Rattle.mx_mem.specs.Memory.{Stored, octa_at}
use Rattle.mx_mem.specs.Held.{view_of, octas_in}
use Rattle.mx_mem.proofs.Views.{octa-found}

-- octas from `from` on, below the octa numbered `at`, are 0
abbrev pub ZeroUpTo : Stored → ℕ → ℕ → Type 0
ZeroUpTo m from at = (q : ℕ) → from ≤ q → q % 8 ≡ 0 → q / 8 < at → octa_at m q ≡ 0

octa-zero : (pages : List (ℕ × List ℕ)) (places : BTreeMap ℕ ℕ) (m : Stored) (q : ℕ) → view_of pages places.entries ≡ m.pages → get nat_cmp places (q / 4096) ≡ None → octa_at m q ≡ 0
octa-zero pages places m q v e = octa-found pages places m q None v (sym e)

pub octa-on : (pages : List (ℕ × List ℕ)) (places : BTreeMap ℕ ℕ) (m : Stored) (q n place : ℕ) → view_of pages places.entries ≡ m.pages → get nat_cmp places n ≡ Some place → q / 4096 ≡ n → octa_at m q ≡ get_or (octas_in pages place) (q / 8 % 512) 0
octa-on pages places m q n place v e f = octa-found pages places m q (Some place) v (sym e ∙ ap (get nat_cmp places) (sym f))

-- where an octa on the page is from which on the page was searched
module _ (pages : List (ℕ × List ℕ)) (places : BTreeMap ℕ ℕ) (m : Stored) (from at number place start : ℕ) (v : view_of pages places.entries ≡ m.pages) (zeros : ZeroUpTo m from at)
    (found : get nat_cmp places number ≡ Some place) (later : at / 512 ≤ number) (between : (p : ℕ) → at / 512 ≤ p → p < number → get nat_cmp places p ≡ None)
    (low : at ≤ start) (first : 512 * number ≤ start) (least : (start ≡ at) ⊎ (start ≡ 512 * number)) where
  pub zero-before : ZeroUpTo m from (512 * number)
  zero-before q f w l = ⊎_elim (λ s. zeros q f w s) (λ s. octa-zero pages places m q v (between (q / 4096) (omega arith) (omega arith))) (cases_lt (q / 8) at)

  pub zero-on : (stop : ℕ) → stop ≤ 512 → ((k : ℕ) → start % 512 ≤ k → k < stop → get_or (octas_in pages place) k 0 ≡ 0) → ZeroUpTo m from (512 * number + stop)
  zero-on stop most none q f w l = ⊎_elim (λ s. zero-before q f w s) (λ s. on-page s) (cases_lt (q / 8) (512 * number))
    where
      page : 512 * number ≤ q / 8 → q / 4096 ≡ number
      page s = omega arith

      reached : 512 * number ≤ q / 8 → at ≤ q / 8 → start % 512 ≤ q / 8 % 512
      reached s t = ⊎_elim (λ e. omega arith) (λ e. omega arith) least

      on-page : 512 * number ≤ q / 8 → octa_at m q ≡ 0
      on-page s = ⊎_elim (λ t. zeros q f w t)
          (λ t. octa-on pages places m q number place v found (page s) ∙ none (q / 8 % 512) (reached s t) (omega arith)) (cases_lt (q / 8) at)

pub zero-after : (pages : List (ℕ × List ℕ)) (places : BTreeMap ℕ ℕ) (m : Stored) (from at : ℕ) → view_of pages places.entries ≡ m.pages → ZeroUpTo m from at → ((p : ℕ) → at / 512 ≤ p → get nat_cmp places p ≡ None) →
    (q : ℕ) → from ≤ q → q % 8 ≡ 0 → octa_at m q ≡ 0
zero-after pages places m from at v zeros none q f w = ⊎_elim (λ s. zeros q f w s) (λ s. octa-zero pages places m q v (none (q / 4096) (omega arith))) (cases_lt (q / 8) at)
