-- What arguments take in the pool.
use Rattle.std.proofs.Common.{◌≡◌, ◌≤◌, ◌<◌, ℕ, suc, ◌+◌, ◌-◌, ◌*◌, ◌^◌, true, nat_lt, List, [], ◌∷◌, ◌++◌, length, map, get_or, take, drop, replicate, slice_get, unwrap_or, codes, arith, length-append, refl, sym, subst, ap, ◌∙◌}
use Rattle.std.specs.List.{flat_map, sum_by}
use Rattle.std.proofs.lemmas.List.{length-replicate}
use Rattle.std.proofs.lemmas.List.Concat.{flat_map-cons}
use Rattle.std.proofs.lemmas.List.Sums.{sum_by-cons, sum_by_more}
use Rattle.std.proofs.lemmas.Bool.{ltb-true}
use Rattle.std.proofs.lemmas.Option.{slice_get-map, slice_get-get_or}
use Rattle.std.specs.Option.{option_map}
use Rattle.std.proofs.lemmas.List.{drop-map}
use Rattle.std.proofs.lemmas.List.{take_all}
use Rattle.mx_begin.specs.Arguments.{program_name}
use Rattle.mx_start.specs.Start.{pool, text_size, text_octas, text_addresses, first_text, pool_octas}
use Rattle.mx_mmo.specs.Reading.{octas_of}
use Rattle.mx_ring.specs.Stack.{stack_address}

-- what a text and its pointer take at most
abbrev pub room : List ℕ → ℕ
room text = 16 + length text

octas-fit : (bytes : List ℕ) → 8 * length (octas_of bytes) ≤ length bytes
octas-fit (a ∷ b ∷ c ∷ d ∷ e ∷ f ∷ g ∷ h ∷ more) = omega (arith, octas-fit more)
octas-fit (a ∷ b ∷ c ∷ d ∷ e ∷ f ∷ g ∷ []) = omega arith
octas-fit (a ∷ b ∷ c ∷ d ∷ e ∷ f ∷ []) = omega arith
octas-fit (a ∷ b ∷ c ∷ d ∷ e ∷ []) = omega arith
octas-fit (a ∷ b ∷ c ∷ d ∷ []) = omega arith
octas-fit (a ∷ b ∷ c ∷ []) = omega arith
octas-fit (a ∷ b ∷ []) = omega arith
octas-fit (a ∷ []) = omega arith
octas-fit [] = omega arith

text-fits : (text : List ℕ) → 8 * length (text_octas text) + 8 ≤ room text
text-fits text =
    let padding : length (replicate {A = ℕ} (text_size text - length text) 0) ≡ text_size text - length text = length-replicate (text_size text - length text) 0 in
    let whole = length-append text (replicate (text_size text - length text) 0) in
    omega (arith, octas-fit (text ++ replicate (text_size text - length text) 0), whole, padding)

addresses-length : (at : ℕ) (texts : List (List ℕ)) → length (text_addresses at texts) ≡ length texts
addresses-length at [] = refl
addresses-length at (text ∷ texts) = ap suc (addresses-length (at + text_size text) texts)

texts-fit : (texts : List (List ℕ)) → 8 * (length texts + length (flat_map text_octas texts)) ≤ sum_by room texts
texts-fit [] = omega arith
texts-fit (text ∷ texts) =
    let octas = ap (λ l. length l) (flat_map-cons text_octas text texts) ∙ length-append (text_octas text) (flat_map text_octas texts) in
    omega (arith, octas, sum_by-cons room text texts, texts-fit texts, text-fits text)

pool-fits : (texts : List (List ℕ)) → 8 * length (pool_octas texts) ≤ 16 + sum_by room texts
unfolding pool_octas
pool-fits texts =
    let all = length-append (text_addresses (first_text texts) texts) (0 ∷ flat_map text_octas texts) in
    omega (arith, all, addresses-length (first_text texts) texts, texts-fit texts)

pool-below : (texts : List (List ℕ)) (size : ℕ) → size < 2 ^ 60 → 16 + sum_by room texts ≤ size → pool + 8 * length (pool_octas texts) ≤ stack_address 0
pool-below texts size l h = omega (arith, l, h, pool-fits texts)

pub pool-done : (texts : List (List ℕ)) (i size : ℕ) → length texts ≤ i → (size < 2 ^ 60 → 16 + sum_by room (take i texts) ≤ size) →
    nat_lt size (2 ^ 60) ≡ true → pool + 8 * length (pool_octas texts) ≤ stack_address 0
pool-done texts i size l h t =
    let below = ltb-true size (2 ^ 60) t in pool-below texts size below (subst (λ xs. 16 + sum_by room xs ≤ size) (take_all i texts l) (h below))

pub room-more : (texts : List (List ℕ)) (i : ℕ) (d : List ℕ) → i < length texts →
    sum_by room (take (i + 1) texts) ≡ sum_by room (take i texts) + (16 + length (get_or texts i d))
room-more texts i d l = sum_by_more room texts i d l

-- the words after the file, and the word that names it
module _ {W : Type 0} (f : W → List ℕ) where
  pub word-there : (words : List W) (i : ℕ) (w : W) → i < length words → w ≡ get_or words i w → unwrap_or (slice_get (map f words) i) [] ≡ f w
  word-there words i w l e =
      ap (λ o. unwrap_or o []) (slice_get-map f words i ∙ ap (option_map f) (slice_get-get_or words i w l)) ∙ ap f (sym e)

  pub arguments-there : (words rest : List W) (i n : ℕ) (w : W) (items : List (List ℕ)) → i < length words → w ≡ get_or words i w → rest ≡ drop n words →
      items ≡ program_name (f w) ∷ map f rest → items ≡ program_name (unwrap_or (slice_get (map f words) i) []) ∷ drop n (map f words)
  arguments-there words rest i n w items l e d h =
      h ∙ ap (λ r. program_name (f w) ∷ map f r) d ∙ ap (λ r. program_name (f w) ∷ r) (sym (drop-map f n words))
      ∙ ap (λ x. program_name x ∷ drop n (map f words)) (sym (word-there words i w l e))

-- names of files, and argument 0
row-source : program_name (codes "dir/a.mms") ≡ codes "dir/a"
row-source = refl

row-object : program_name (codes "a.mms.mmo") ≡ codes "a.mms"
row-object = refl

row-other : program_name (codes "a.mmx") ≡ codes "a.mmx"
row-other = refl

row-short : program_name (codes "mms") ≡ codes "mms"
row-short = refl

pub ruleset pooling = (pool-done, room-more)
