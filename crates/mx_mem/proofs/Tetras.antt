-- The octas of a page of tetras.
use Rattle.std.proofs.Common.{◌≡◌, ◌≢◌, ◌<◌, ◌≤◌, ◌+◌, ◌*◌, ◌/◌, ◌%◌, ◌^◌, ℕ, List, length, get_or, replicate, refl, sym, ap, ◌∙◌, arith, true, false, ◌⊎◌, inl, inr, ⊎_elim}
use Rattle.std.proofs.Math.ListN.{set}
use Rattle.std.proofs.Math.Dec.{eqb}
use Rattle.std.proofs.lemmas.Bool.Decides.{eqb_tells, nat_tests}
use Rattle.std.proofs.lemmas.List.{ext_get_or, length-set, length-replicate, get_or-replicate, get_or-set_same, get_or-set_other, get_or_past, set-get_or}
use Rattle.std.proofs.lemmas.List.FromFn.{get_or-map-range_with_len, length-map-range_with_len}
use Rattle.std.proofs.lemmas.Bool.{cases_lt}
use Rattle.mx_mem.specs.Count.{AreAtMost}
use Rattle.mx_mem.specs.Memory.{tetra_of}
use Rattle.mx_mem.specs.Parts.{with_part}
use Rattle.mx_mem.specs.declared.part.Part.TheVariants.{Tetra}
use Rattle.mx_mem.specs.Tetras.{octas_of, two_at}

pub octas-length : (ts : List ℕ) → length (octas_of ts) ≡ 512
unfolding octas_of
octas-length ts = length-map-range_with_len (two_at ts) 0 512

pub octas-read : (ts : List ℕ) (i : ℕ) → i < 512 → get_or (octas_of ts) i 0 ≡ get_or ts (2 * i) 0 * 2 ^ 32 + get_or ts (2 * i + 1) 0
unfolding octas_of
octas-read ts i h = get_or-map-range_with_len (two_at ts) 0 512 i i 0 h (omega arith)

zero-at : (i : ℕ) → i < 512 → get_or (octas_of (replicate 1025 0)) i 0 ≡ get_or (replicate 512 0) i 0
zero-at i h =
    octas-read (replicate 1025 0) i h
    ∙ ap (λ n. n * 2 ^ 32 + get_or (replicate 1025 0) (2 * i + 1) 0) (get_or-replicate 1025 (2 * i) 0 0 (omega arith))
    ∙ ap (λ n. 0 * 2 ^ 32 + n) (get_or-replicate 1025 (2 * i + 1) 0 0 (omega arith))
    ∙ sym (get_or-replicate 512 i 0 0 h)

pub octas-zeros : octas_of (replicate 1025 0) ≡ replicate 512 0
octas-zeros = ext_get_or 0 (octas_of (replicate 1025 0)) (replicate 512 0) (octas-length (replicate 1025 0) ∙ sym (length-replicate {A = ℕ} 512 0))
    (λ i l. let h : i < 512 = omega (arith, octas-length (replicate 1025 0)) in zero-at i h)

-- two tetras in place of those of an octa
abbrev pub with_two : List ℕ → ℕ → ℕ → List ℕ
with_two ts i x = set (set ts (2 * i) (x / 2 ^ 32)) (2 * i + 1) (x % 2 ^ 32)

set-same : (ts : List ℕ) (i x : ℕ) → length ts ≡ 1025 → i < 512 → get_or (octas_of (with_two ts i x)) i 0 ≡ x
set-same ts i x long h =
    let high : get_or (with_two ts i x) (2 * i) 0 ≡ x / 2 ^ 32 =
    get_or-set_other (set ts (2 * i) (x / 2 ^ 32)) (2 * i + 1) (2 * i) (x % 2 ^ 32) 0 (omega arith) ∙ get_or-set_same ts (2 * i) (x / 2 ^ 32) 0 (omega arith) in
    let low : get_or (with_two ts i x) (2 * i + 1) 0 ≡ x % 2 ^ 32 =
    get_or-set_same (set ts (2 * i) (x / 2 ^ 32)) (2 * i + 1) (x % 2 ^ 32) 0 (omega (arith, length-set ts (2 * i) (x / 2 ^ 32))) in
    let read = octas-read (with_two ts i x) i h in
    omega arith

set-other : (ts : List ℕ) (i x j : ℕ) → j < 512 → j ≢ i → get_or (octas_of (with_two ts i x)) j 0 ≡ get_or (octas_of ts) j 0
set-other ts i x j l apart =
    let high : get_or (with_two ts i x) (2 * j) 0 ≡ get_or ts (2 * j) 0 =
    get_or-set_other (set ts (2 * i) (x / 2 ^ 32)) (2 * i + 1) (2 * j) (x % 2 ^ 32) 0 (omega arith) ∙ get_or-set_other ts (2 * i) (2 * j) (x / 2 ^ 32) 0 (omega arith) in
    let low : get_or (with_two ts i x) (2 * j + 1) 0 ≡ get_or ts (2 * j + 1) 0 =
    get_or-set_other (set ts (2 * i) (x / 2 ^ 32)) (2 * i + 1) (2 * j + 1) (x % 2 ^ 32) 0 (omega arith) ∙ get_or-set_other ts (2 * i) (2 * j + 1) (x / 2 ^ 32) 0 (omega arith) in
    octas-read (with_two ts i x) j l ∙ ap (λ n. n * 2 ^ 32 + get_or (with_two ts i x) (2 * j + 1) 0) high ∙ ap (λ n. get_or ts (2 * j) 0 * 2 ^ 32 + n) low ∙ sym (octas-read ts j l)

by-case : (ts : List ℕ) (i x j : ℕ) → length ts ≡ 1025 → i < 512 → j < 512 → ((eqb j i ≡ true) × (j ≡ i)) ⊎ ((eqb j i ≡ false) × (j ≢ i)) → get_or (octas_of (with_two ts i x)) j 0 ≡ get_or (set (octas_of ts) i x) j 0
by-case ts i x j long h l (inl e) =
    let read = set-same ts i x long h ∙ sym (get_or-set_same (octas_of ts) i x 0 (omega (arith, octas-length ts))) in
    ap (λ k. get_or (octas_of (with_two ts i x)) k 0) e.1 ∙ read ∙ ap (λ k. get_or (set (octas_of ts) i x) k 0) (sym e.1)
by-case ts i x j long h l (inr e) = set-other ts i x j l e.1 ∙ sym (get_or-set_other (octas_of ts) i j x 0 e.1)

set-at : (ts : List ℕ) (i x j : ℕ) → length ts ≡ 1025 → i < 512 → j < 512 → get_or (octas_of (with_two ts i x)) j 0 ≡ get_or (set (octas_of ts) i x) j 0
set-at ts i x j long h l = by-case ts i x j long h l (eqb_tells j i)

pub octas-set : (ts : List ℕ) (i x : ℕ) → length ts ≡ 1025 → i < 512 → octas_of (with_two ts i x) ≡ set (octas_of ts) i x
octas-set ts i x long h = ext_get_or 0 _ _ (octas-length (with_two ts i x) ∙ sym (length-set (octas_of ts) i x ∙ octas-length ts))
    (λ j l. let k : j < 512 = omega (arith, octas-length (with_two ts i x)) in set-at ts i x j long h k)

-- one of the two tetras of an octa
tetra-in-half : (ts : List ℕ) (i a o : ℕ) → get_or ts (2 * i + 1) 0 < 2 ^ 32 → o ≡ get_or ts (2 * i) 0 * 2 ^ 32 + get_or ts (2 * i + 1) 0 → a / 8 % 512 ≡ i → get_or ts (a / 4 % 1024) 0 ≡ tetra_of o a
tetra-in-half ts i a o fits e at = by-half (cases_lt (a % 8) 4)
  where
    by-half : (a % 8 < 4) ⊎ (4 ≤ a % 8) → get_or ts (a / 4 % 1024) 0 ≡ tetra_of o a
    by-half (inl h) =
        let place : a / 4 % 1024 ≡ 2 * i = omega arith in
        let high : o / 2 ^ 32 ≡ get_or ts (2 * i) 0 = omega arith in
        rw place (grind (arith, nat_tests))
    by-half (inr h) =
        let place : a / 4 % 1024 ≡ 2 * i + 1 = omega arith in
        let low : o % 2 ^ 32 ≡ get_or ts (2 * i + 1) 0 = omega arith in
        rw place (grind (arith, nat_tests))

pub tetra-read : (ts : List ℕ) (a : ℕ) → get_or ts (2 * (a / 8 % 512) + 1) 0 < 2 ^ 32 → get_or ts (a / 4 % 1024) 0 ≡ tetra_of (get_or (octas_of ts) (a / 8 % 512) 0) a
tetra-read ts a fits = tetra-in-half ts (a / 8 % 512) a _ fits (octas-read ts (a / 8 % 512) (omega arith)) refl

-- one of the two tetras of an octa, in place of the one that an address tells
high-part : (h l t a : ℕ) → l < 2 ^ 32 → h < 2 ^ 32 → t < 2 ^ 32 → a % 8 < 4 → with_part Tetra (h * 2 ^ 32 + l) a t ≡ t * 2 ^ 32 + l
high-part h l t a fl fh ft m =
    let z : a % 8 / 4 ≡ 0 = omega arith in
    rw z (omega arith)

low-part : (h l t a : ℕ) → l < 2 ^ 32 → h < 2 ^ 32 → t < 2 ^ 32 → 4 ≤ a % 8 → with_part Tetra (h * 2 ^ 32 + l) a t ≡ h * 2 ^ 32 + t
low-part h l t a fl fh ft m =
    let z : a % 8 / 4 ≡ 1 = omega arith in
    rw z (omega arith)

-- the octa with a tetra in place of one
abbrev pub octa_with : List ℕ → ℕ → ℕ → ℕ
octa_with ts a t = with_part Tetra (get_or (octas_of ts) (a / 8 % 512) 0) a t

pub tetra-set : (ts : List ℕ) (a t : ℕ) → length ts ≡ 1025 → ((i : ℕ) → get_or ts i 0 < 2 ^ 32) → t < 2 ^ 32 → octas_of (set ts (a / 4 % 1024) t) ≡ set (octas_of ts) (a / 8 % 512) (octa_with ts a t)
tetra-set ts a t long fits ft = by-half (cases_lt (a % 8) 4)
  where
    i : ℕ
    i = a / 8 % 512

    h : ℕ
    h = get_or ts (2 * i) 0

    l : ℕ
    l = get_or ts (2 * i + 1) 0

    new : octas_of (with_two ts i (octa_with ts a t)) ≡ set (octas_of ts) i (octa_with ts a t)
    new = octas-set ts i (octa_with ts a t) long (omega arith)

    read : get_or (octas_of ts) i 0 ≡ h * 2 ^ 32 + l
    read = octas-read ts i (omega arith)

    by-half : (a % 8 < 4) ⊎ (4 ≤ a % 8) → octas_of (set ts (a / 4 % 1024) t) ≡ set (octas_of ts) i (octa_with ts a t)
    by-half (inl m) =
        let place : a / 4 % 1024 ≡ 2 * i = omega arith in
        let made : octa_with ts a t ≡ t * 2 ^ 32 + l = ap (λ o. with_part Tetra o a t) read ∙ high-part h l t a (fits (2 * i + 1)) (fits (2 * i)) ft m in
        let high : octa_with ts a t / 2 ^ 32 ≡ t = omega (arith, made, fits (2 * i + 1)) in
        let low : octa_with ts a t % 2 ^ 32 ≡ l = omega (arith, made, fits (2 * i + 1)) in
        let kept : get_or (set ts (2 * i) t) (2 * i + 1) 0 ≡ l = get_or-set_other ts (2 * i) (2 * i + 1) t 0 (omega arith) in
        let two : with_two ts i (octa_with ts a t) ≡ set ts (2 * i) t =
        ap (λ x. set (set ts (2 * i) x) (2 * i + 1) (octa_with ts a t % 2 ^ 32)) high ∙ ap (set (set ts (2 * i) t) (2 * i + 1)) (low ∙ sym kept) ∙ set-get_or (set ts (2 * i) t) (2 * i + 1) 0 in
        ap (λ k. octas_of (set ts k t)) place ∙ ap octas_of (sym two) ∙ new
    by-half (inr m) =
        let place : a / 4 % 1024 ≡ 2 * i + 1 = omega arith in
        let made : octa_with ts a t ≡ h * 2 ^ 32 + t = ap (λ o. with_part Tetra o a t) read ∙ low-part h l t a (fits (2 * i + 1)) (fits (2 * i)) ft m in
        let high : octa_with ts a t / 2 ^ 32 ≡ h = omega (arith, made, ft) in
        let low : octa_with ts a t % 2 ^ 32 ≡ t = omega (arith, made, ft) in
        let two : with_two ts i (octa_with ts a t) ≡ set ts (2 * i + 1) t =
        ap (λ x. set (set ts (2 * i) x) (2 * i + 1) (octa_with ts a t % 2 ^ 32)) high ∙ ap (λ xs. set xs (2 * i + 1) (octa_with ts a t % 2 ^ 32)) (set-get_or ts (2 * i) 0) ∙ ap (set ts (2 * i + 1)) low in
        ap (λ k. octas_of (set ts k t)) place ∙ ap octas_of (sym two) ∙ new

-- each octa of tetras is below 2^64
pub octas-most : (ts : List ℕ) → ((i : ℕ) → get_or ts i 0 < 2 ^ 32) → AreAtMost 18446744073709551615 (octas_of ts)
octas-most ts fits = λ k. ⊎_elim (λ l. within k l) (λ m. past k m) (cases_lt k 512)
  where
    within : (k : ℕ) → k < 512 → get_or (octas_of ts) k 0 ≤ 18446744073709551615
    within k l = omega (arith, octas-read ts k l, fits (2 * k), fits (2 * k + 1))

    past : (k : ℕ) → 512 ≤ k → get_or (octas_of ts) k 0 ≤ 18446744073709551615
    past k m = omega (arith, get_or_past (octas_of ts) k 0 (omega (arith, octas-length ts)))

-- the last tetra, which is in no octa, stays
pub last-set : (ts : List ℕ) (a t : ℕ) → get_or (set ts (a / 4 % 1024) t) 1024 0 ≡ get_or ts 1024 0
last-set ts a t = get_or-set_other ts (a / 4 % 1024) 1024 t 0 (omega arith)

pub last-set-two : (ts : List ℕ) (i x : ℕ) → i < 512 → get_or (with_two ts i x) 1024 0 ≡ get_or ts 1024 0
last-set-two ts i x h =
    get_or-set_other (set ts (2 * i) (x / 2 ^ 32)) (2 * i + 1) 1024 (x % 2 ^ 32) 0 (omega arith) ∙ get_or-set_other ts (2 * i) 1024 (x / 2 ^ 32) 0 (omega arith)

-- the tetra with a number of a page
pub tetra-numbered : (ts : List ℕ) (k : ℕ) → k < 1024 → get_or ts (2 * (4 * k / 8 % 512) + 1) 0 < 2 ^ 32 → get_or ts k 0 ≡ tetra_of (get_or (octas_of ts) (4 * k / 8 % 512) 0) (4 * k)
tetra-numbered ts k h fits = let at : 4 * k / 4 % 1024 ≡ k = omega arith in ap (λ i. get_or ts i 0) (sym at) ∙ tetra-read ts (4 * k) fits

pub ruleset tetras = (octas-length, octas-read, octas-zeros, octas-set)
