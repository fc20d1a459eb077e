-- Where texts in the pool end, and what is there.
use Rattle.std.proofs.Common.{◌≡◌, ◌≤◌, ◌<◌, ℕ, ◌+◌, ◌^◌, List, [], ◌∷◌, ◌++◌, length, get_or, Option, None, Some, arith, append_assoc, sym, ap, ◌∙◌}
use Rattle.std.proofs.lemmas.Bool.Decides.{nat_tests}
use Rattle.mx_start.specs.Pool.{as_octa}
use Rattle.std.specs.List.{flat_map}
use Rattle.mx_start.specs.Start.{text_size, text_octas, texts_end, text_addresses, first_text, pool_octas}

pub ends-above : (at : ℕ) (texts : List (List ℕ)) → at ≤ texts_end at texts
ends-above at [] = omega arith
ends-above at (t ∷ ts) = omega (arith, ends-above (at + text_size t) ts)

pub item-end : (at : ℕ) (r : List (List ℕ)) (t : List ℕ) → 1 ≤ length r → t ≡ get_or r 0 t → at + text_size t ≤ texts_end at r
item-end at [] t l e = absurd (omega arith)
item-end at (u ∷ us) t l e = rw e (ends-above (at + text_size u) us)

low-octa : (n : ℕ) → n < 2 ^ 64 → as_octa n ≡ Some n
low-octa n l = grind (arith, nat_tests)

high-octa : (n : ℕ) → 2 ^ 64 ≤ n → as_octa n ≡ None
high-octa n l = grind (arith, nat_tests)

pub ends-done : (at n : ℕ) (r : List (List ℕ)) → length r < 1 → at < 2 ^ 64 → texts_end at r ≡ n → Some at ≡ as_octa n
ends-done at n [] l f e = sym (ap as_octa (sym e) ∙ low-octa at f)
ends-done at n (u ∷ us) l f e = absurd (omega arith)

pub ends-past : (at n : ℕ) (r : List (List ℕ)) (t : List ℕ) → 1 ≤ length r → t ≡ get_or r 0 t → 2 ^ 64 ≤ at + text_size t → texts_end at r ≡ n → ◌≡◌ {A = Option ℕ} None (as_octa n)
ends-past at n r t l e f g = sym (high-octa n (omega (arith, item-end at r t l e, g)))

-- the octas of the pool, put together in turn
pub pool-built : (texts : List (List ℕ)) (first end : ℕ) (a b c d : List ℕ) → first ≡ first_text texts → end ≡ texts_end first texts →
    a ≡ end ∷ [] → b ≡ a ++ text_addresses first texts → c ≡ b ++ 0 ∷ [] → d ≡ c ++ flat_map text_octas texts → d ≡ pool_octas texts
unfolding pool_octas
pool-built texts first end a b c d e f g h i j =
    j ∙ ap (λ l. l ++ flat_map text_octas texts) (i ∙ ap (λ l. l ++ 0 ∷ []) (h ∙ ap (λ l. l ++ text_addresses first texts) (g ∙ ap (λ n. n ∷ []) f)))
    ∙ ap (λ n. (texts_end n texts ∷ text_addresses n texts ++ 0 ∷ []) ++ flat_map text_octas texts) e
    ∙ append_assoc (texts_end (first_text texts) texts ∷ text_addresses (first_text texts) texts) (0 ∷ []) (flat_map text_octas texts)
