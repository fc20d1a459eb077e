-- The processors at the start, one after another.
use Rattle.std.proofs.Common.{◌≡◌, ℕ, zero, suc, ◌+◌, Bool, false, List, [], ◌∷◌, ◌++◌, length, map, replicate, arith, sym, subst, ap, ◌∙◌}
use Rattle.std.specs.List.{range_with_len}
use Rattle.std.proofs.lemmas.List.{map-append, length-map, length-replicate, replicate-append-replicate}
use Rattle.std.proofs.lemmas.List.FromFn.{map-range_with_len_more, length-map-range_with_len}
use Rattle.mx_core.specs.Bare.{nothing_shared, shared_of}
use Rattle.mx_core.specs.Kept.{Kept, state_of}
use Rattle.mx_core.specs.State.{State}
use Rattle.mx_multi.specs.Joint.{AllAlone}

-- machines
pub machines-more : (f : ℕ → State) (n : ℕ) (ks : List Kept) (k : Kept) → map state_of ks ≡ map f (range_with_len 0 n) → state_of k ≡ f n → map state_of (ks ++ k ∷ []) ≡ map f (range_with_len 0 (n + 1))
machines-more f n ks k e v =
    let last : 0 + n ≡ n = omega arith in
    map-append state_of ks (k ∷ []) ∙ ap (λ ss. ss ++ state_of k ∷ []) e ∙ ap (λ s. map f (range_with_len 0 n) ++ s ∷ []) v ∙ sym (map-range_with_len_more f 0 n n last)

-- flags
pub flags-more : (n : ℕ) (bs : List Bool) → bs ≡ replicate n false → bs ++ false ∷ [] ≡ replicate (n + 1) false
flags-more n bs e = ap (λ xs. xs ++ false ∷ []) e ∙ replicate-append-replicate n 1 false

pub ruleset growing = (machines-more, flags-more)

-- WHAT HOLDS

alone-from : (f : ℕ → State) (a n : ℕ) → ((k : ℕ) → shared_of (f k) ≡ nothing_shared) → AllAlone (map f (range_with_len a n))
alone-from f a zero h = tt
alone-from f a (suc n) h = (h a, alone-from f (a + 1) n h)

pub start-alone : (f : ℕ → State) (n : ℕ) (ss : List State) → ((k : ℕ) → shared_of (f k) ≡ nothing_shared) → ss ≡ map f (range_with_len 0 n) → AllAlone ss
start-alone f n ss h e = subst AllAlone (sym e) (alone-from f 0 n h)

pub start-count : (f : ℕ → State) (n : ℕ) (ks : List Kept) (bs : List Bool) → map state_of ks ≡ map f (range_with_len 0 n) → bs ≡ replicate n false → length bs ≡ length ks
start-count f n ks bs e h =
    ap (λ (xs : List Bool). length xs) h ∙ length-replicate n false ∙ sym (length-map-range_with_len f 0 n) ∙ ap (λ (ss : List State). length ss) (sym e) ∙ length-map ks state_of

pub machine-count : (f : ℕ → State) (n : ℕ) (ks : List Kept) → map state_of ks ≡ map f (range_with_len 0 n) → length ks ≡ n
machine-count f n ks e = sym (length-map ks state_of) ∙ ap (λ (ss : List State). length ss) e ∙ length-map-range_with_len f 0 n
