-- What there is once items were loaded, by the bytes that they placed, and one tetra more.
use Rattle.std.proofs.Common.{◌≡◌, ℕ, zero, suc, ◌+◌, ◌*◌, ◌/◌, ◌%◌, ◌^◌, ◌<◌, ◌≤◌, List, [], ◌∷◌, ◌++◌, length, map, true, false, not, cond, arith, refl, sym, ◌∙◌, ap, bit_xor, subst, Result, Ok, Err, append_assoc, ◌==◌, nat_le}
use Rattle.mx_asm.proofs.Words.{cond_both, xor_of_8, nat_tests, tetra_from_bytes, with_tetra, AreBytes, four-fit, Image, tetras_of, Loading, Meaningless, BadPlace, paged, image_with_tetra, join, next_line, after_load, with_name, take_item, take_items, Item, Load, from_place, placed, placed-append, from-append, octa_in, pages_of, pages_below, common_steps}
use Rattle.mx_word.specs.Octas.{with_page}
use Rattle.mx_mmo.specs.Meaning.{lined}
use Rattle.mx_asm.proofs.MeaningMemory.{four, tetra-placed, HaveBytes, octas-joined, AreMore, more-count, append-more, unless_full, paged-is, same-numbers}

-- ---- states

-- the bytes that were placed, the lines of tetras, lambda, and the line in force
pub record State : Type 0 where
  pub placements : List (ℕ × ℕ)
  pub lines : ℕ → ℕ
  pub lambda : ℕ
  pub line : ℕ

abbrev pub image_at : ℕ → List (ℕ × ℕ) → (ℕ → ℕ) → Image
image_at n ps lines = record {
  memory = octa_in (placed ps);
  pages = pages_of ps;
  page_count = pages_below n (pages_of ps);
  line_of = lines;
  g = 255;
  global = λ k. 0;
}

abbrev pub loading_at : ℕ → State → Loading
loading_at n s = record { image = image_at n s.placements s.lines; lambda = s.lambda; line = s.line; selected = true; named = with_name (λ k. false) 0 }

abbrev pub count_of : ℕ → State → ℕ
count_of n s = pages_below n (pages_of s.placements)

-- what is loaded, unless there are too many pages
abbrev pub limited : ℕ → State → Result Loading Meaningless
limited n s = unless_full (count_of n s) (loading_at n s)

-- items lead from one state to another
pub record Takes (n : ℕ) (items : List Item) (s t : State) : Type 0 where
  pub taken : take_items items (limited n s) ≡ limited n t

-- ---- items one after another

pub take-none : (r : Result Loading Meaningless) → take_items [] r ≡ r
take-none r = grind (arith, nat_tests)

pub take-failed : (items : List Item) (e : Meaningless) → take_items items (Err e) ≡ Err e
take-failed items e = grind (arith, nat_tests)

pub take-append : (xs ys : List Item) (r : Result Loading Meaningless) → take_items (xs ++ ys) r ≡ take_items ys (take_items xs r)
take-append [] ys (Ok s) = refl
take-append (x ∷ xs) ys (Ok s) = take-append xs ys (take_item s x)
take-append [] ys (Err e) = refl
take-append (x ∷ xs) ys (Err e) = sym (take-failed ys e)

pub takes-both : (n : ℕ) (xs ys : List Item) (s t u : State) → Takes n xs s t → Takes n ys t u → Takes n (xs ++ ys) s u
takes-both n xs ys s t u first second = record { taken = take-append xs ys (limited n s) ∙ ap (take_items ys) first.taken ∙ second.taken }

pub takes-none : (n : ℕ) (s : State) → Takes n [] s s
takes-none n s = record { taken = take-none (limited n s) }

-- where there is room, what the items do counts
pub takes-few : (n : ℕ) (items : List Item) (s t : State) → AreMore (pages_of t.placements) (pages_of s.placements) →
    (count_of n s ≤ 65536 → take_items items (Ok (loading_at n s)) ≡ limited n t) → Takes n items s t
takes-few n items s t more h = grind (arith, nat_tests, more-count)

-- ---- one tetra

with-tetra-unless : (a t count : ℕ) (m : Image) → image_with_tetra a t (unless_full count m) ≡ unless_full count (record m { memory = with_tetra m.memory a t })
with-tetra-unless a t count m = grind (arith, nat_tests)

-- the page of a tetra
tetra-on-page : (ps : List (ℕ × ℕ)) (a b c d e : ℕ) → a % 4 ≡ 0 → with_page (pages_of ps) (a / 4096) ≡ pages_of (ps ++ four a b c d e)
tetra-on-page ps a b c d e m = grind (arith, common_steps, nat_tests)

pub tetra-joined : (n a b c d e : ℕ) (ps : List (ℕ × ℕ)) (lines : ℕ → ℕ) → 2 ^ 51 ≤ n → a % 4 ≡ 0 → a < 0x6000_0000_0000_0000 → AreBytes (b ∷ c ∷ d ∷ e ∷ []) → HaveBytes (placed ps) → pages_below n (pages_of ps) ≤ 65536 →
    join (image_at n ps lines) a (tetra_from_bytes (b ∷ c ∷ d ∷ e ∷ [])) ≡ unless_full (pages_below n (pages_of (ps ++ four a b c d e))) (image_at n (ps ++ four a b c d e) lines)
tetra-joined n a b c d e ps lines big m l are have few =
    let t : ℕ = tetra_from_bytes (b ∷ c ∷ d ∷ e ∷ []) in
    let below : nat_le 0x6000_0000_0000_0000 a ≡ false = grind (arith, nat_tests) in
    let pages = tetra-on-page ps a b c d e m in
    let memory : with_tetra (octa_in (placed ps)) a t ≡ octa_in (placed (ps ++ four a b c d e)) =
    octas-joined (placed ps) a t have (four-fit b c d e are.0 are.1.0 are.1.1.0 are.1.1.1.0)
    ∙ ap octa_in (same-numbers _ _ (λ q. ap (bit_xor (placed ps q)) (tetra-placed a b c d e q m are.0 are.1.0 are.1.1.0 are.1.1.1.0) ∙ sym (placed-append ps (four a b c d e) q))) in
    ap (λ t. cond (not t) (image_with_tetra a (tetra_from_bytes (b ∷ c ∷ d ∷ e ∷ [])) (paged (image_at n ps lines) (a / 4096))) (Err BadPlace)) below
    ∙ ap (image_with_tetra a t) (paged-is n (image_at n ps lines) (a / 4096) (omega (arith, big, l)) refl few)
    ∙ with-tetra-unless a t (pages_below n (with_page (pages_of ps) (a / 4096))) _
    ∙ (λ i. unless_full (pages_below n (pages i)) (record { memory = memory i; pages = pages i; page_count = pages_below n (pages i); line_of = lines; g = 255; global = λ k. 0 }))

-- ---- a tetra that is loaded

abbrev pub noted_lines : (ℕ → ℕ) → ℕ → ℕ → ℕ → ℕ
noted_lines lines a line = cond (line == 0) lines (lined lines a line)

abbrev pub after_tetra : State → ℕ → ℕ → ℕ → ℕ → State
after_tetra s b c d e = record {
  placements = s.placements ++ four s.lambda b c d e;
  lines = noted_lines s.lines s.lambda s.line;
  lambda = s.lambda + 4;
  line = next_line s.line;
}

after-unless : (n : ℕ) (s t : State) → t.lambda ≡ (4 * (s.lambda / 4) + 4) % 2 ^ 64 → t.line ≡ next_line s.line → t.lines ≡ noted_lines s.lines s.lambda s.line →
    after_load (loading_at n s) (unless_full (count_of n t) (image_at n t.placements s.lines)) ≡ limited n t
after-unless n s t lambda line lines = grind (arith, nat_tests)

pub takes-tetra : (n b c d e : ℕ) (s : State) → 2 ^ 51 ≤ n → s.lambda % 4 ≡ 0 → s.lambda < 0x6000_0000_0000_0000 → AreBytes (b ∷ c ∷ d ∷ e ∷ []) → HaveBytes (placed s.placements) →
    Takes n (Load (tetra_from_bytes (b ∷ c ∷ d ∷ e ∷ [])) ∷ []) s (after_tetra s b c d e)
takes-tetra n b c d e s big m l are have =
    takes-few n _ s (after_tetra s b c d e) (append-more s.placements (four s.lambda b c d e)) (λ few.
    take-none _
    ∙ ap (after_load (loading_at n s)) (tetra-joined n s.lambda b c d e s.placements s.lines big m l are have few)
    ∙ after-unless n s (after_tetra s b c d e) (omega (arith, m, l)) refl refl)

-- ---- bytes are bytes

placed-byte : (a : ℕ) (bytes : List ℕ) (q : ℕ) → AreBytes bytes → placed (from_place a bytes) q < 2 ^ 8
placed-byte a [] q h = omega arith
placed-byte a (b ∷ bytes) q h = grind (arith, cond_both, xor_of_8, placed-byte (a + 1) bytes q h.1)

pub more-bytes : (ps : List (ℕ × ℕ)) (a : ℕ) (bytes : List ℕ) → HaveBytes (placed ps) → AreBytes bytes → HaveBytes (placed (ps ++ from_place a bytes))
more-bytes ps a bytes have are = λ q. subst (λ n. n < 2 ^ 8) (sym (placed-append ps (from_place a bytes) q)) (xor_of_8 (placed ps q) (placed (from_place a bytes) q) (have q) (placed-byte a bytes q are))

-- ---- tetras one after another

abbrev pub lines_with : (ℕ → ℕ) → ℕ → ℕ → ℕ → ℕ → ℕ
lines_with lines a line zero = lines
lines_with lines a line (suc k) = lines_with (noted_lines lines a line) (a + 4) (next_line line) k

abbrev pub line_after : ℕ → ℕ → ℕ
line_after line zero = line
line_after line (suc k) = line_after (next_line line) k

abbrev pub after_tetras : State → List ℕ → State
after_tetras s bytes = record {
  placements = s.placements ++ from_place s.lambda bytes;
  lines = lines_with s.lines s.lambda s.line (length (tetras_of bytes));
  lambda = s.lambda + length bytes;
  line = line_after s.line (length (tetras_of bytes));
}

same-state : (s t : State) → s.placements ≡ t.placements → s.lines ≡ t.lines → s.lambda ≡ t.lambda → s.line ≡ t.line → s ≡ t
same-state s t p l a i = λ j. record { placements = p j; lines = l j; lambda = a j; line = i j }

pub takes-equal : (n : ℕ) (items : List Item) (s t u : State) → t ≡ u → Takes n items s t → Takes n items s u
takes-equal n items s t u e h = record { taken = h.taken ∙ ap (limited n) e }

pub takes-tetras : (n : ℕ) (bytes : List ℕ) (s : State) → 2 ^ 51 ≤ n → s.lambda % 4 ≡ 0 → length bytes % 4 ≡ 0 → s.lambda + length bytes ≤ 0x6000_0000_0000_0000 → AreBytes bytes → HaveBytes (placed s.placements) →
    Takes n (map Load (tetras_of bytes)) s (after_tetras s bytes)
takes-tetras n [] s big m l low are have = grind (arith, common_steps, nat_tests)
takes-tetras n (b ∷ c ∷ d ∷ e ∷ more) s big m l low are have =
    let t : State = after_tetra s b c d e in
    let four_are : AreBytes (b ∷ c ∷ d ∷ e ∷ []) = (are.0, (are.1.0, (are.1.1.0, (are.1.1.1.0, tt)))) in
    takes-equal n _ s (after_tetras t more) (after_tetras s (b ∷ c ∷ d ∷ e ∷ more))
    (same-state (after_tetras t more) (after_tetras s (b ∷ c ∷ d ∷ e ∷ more))
    (append_assoc s.placements (four s.lambda b c d e) (from_place (s.lambda + 4) more) ∙ ap (λ ps. s.placements ++ ps) (sym (from-append s.lambda (b ∷ c ∷ d ∷ e ∷ []) more)))
    refl (omega arith) refl)
    (takes-both n (Load (tetra_from_bytes (b ∷ c ∷ d ∷ e ∷ [])) ∷ []) (map Load (tetras_of more)) s t (after_tetras t more)
    (takes-tetra n b c d e s big m (omega (arith, low)) four_are have)
    (takes-tetras n more t big (omega (arith, m)) (omega (arith, l)) (omega (arith, low)) are.1.1.1.1 (more-bytes s.placements s.lambda (b ∷ c ∷ d ∷ e ∷ []) have four_are)))
takes-tetras n bytes s big m l low are have = absurd (omega (arith, l))
