-- The items of bytes that a statement places, and the state after them.
use Rattle.std.proofs.Common.{◌≡◌, ℕ, zero, suc, ◌+◌, ◌-◌, ◌*◌, ◌/◌, ◌%◌, ◌^◌, ◌<◌, ◌≤◌, List, [], ◌∷◌, ◌++◌, length, map, Bool, true, false, cond, arith, refl, sym, ◌∙◌, ap, bit_xor, replicate, min, ◌==◌, ◌&&◌, nat_le, nat_lt, rules, ◌||◌}
use Rattle.mx_asm.proofs.Words.{xor_zero_r, xor_zero_l, length-replicate, cond_both, eqb-true, nat_tests, AreBytes, bytes-append, bytes-zeros, tetras_of, take_item, take_items, Item, Load, from_place, placed, placed-append, from-append, placed-zeros, pages_of, lowered, raised, covered, covering, tetra_count, located, told_line, lined, common_steps, ltb-false, Piece, pages_below, is_covered, with_lines, Head, byte_items}
use Rattle.mx_mmo.specs.Meaning.{lined as lined_with}
use Rattle.mx_asm.specs.Emission.{line_number_after}
use Rattle.mx_asm.proofs.MeaningMemory.{pages-alike, HaveBytes, append-pages, pages-run, tetras-run, many-pages, same-numbers}
use Rattle.mx_asm.proofs.MeaningStates.{State, loading_at, count_of, limited, Takes, lines_with, line_after, takes-both, takes-none, after_tetras, takes-tetras}

-- ---- the items of bytes that a statement places, and what follows them

-- ---- zeros around bytes

placed-two : (a : ℕ) (xs ys : List ℕ) (q : ℕ) → placed (from_place a (xs ++ ys)) q ≡ bit_xor (placed (from_place a xs) q) (placed (from_place (a + length xs) ys) q)
placed-two a xs ys q = ap (λ ps. placed ps q) (from-append a xs ys) ∙ placed-append (from_place a xs) (from_place (a + length xs) ys) q

padded-placed : (m n a start : ℕ) (bytes : List ℕ) (q : ℕ) → a + m ≡ start →
    placed (from_place a (replicate m 0 ++ bytes ++ replicate n 0)) q ≡ placed (from_place start bytes) q
padded-placed m n a start bytes q e = grind (arith, length-replicate, placed-two, placed-zeros, xor_zero_r, xor_zero_l)

pub covered-placed : (start : ℕ) (bytes : List ℕ) (q : ℕ) → placed (from_place (lowered start) (covered start bytes)) q ≡ placed (from_place start bytes) q
covered-placed start bytes q = padded-placed (start % 4) ((4 - (start + length bytes) % 4) % 4) (lowered start) start bytes q (omega arith)

covered-sum : (start : ℕ) (bytes : List ℕ) → length (covered start bytes) ≡ start % 4 + length bytes + (4 - (start + length bytes) % 4) % 4
covered-sum start bytes = grind (arith, common_steps, nat_tests)

pub covered-length : (start : ℕ) (bytes : List ℕ) → lowered start + length (covered start bytes) ≡ raised (start + length bytes)
covered-length start bytes = ap (λ k. lowered start + k) (covered-sum start bytes) ∙ (omega arith)

pub covered-fours : (start : ℕ) (bytes : List ℕ) → length (covered start bytes) % 4 ≡ 0
covered-fours start bytes = let e = covered-length start bytes in omega (arith, e)

pub covered-bytes : (start : ℕ) (bytes : List ℕ) → AreBytes bytes → AreBytes (covered start bytes)
covered-bytes start bytes h = search (rules, bytes-append, bytes-zeros)

pub covered-pages : (start : ℕ) (bytes : List ℕ) (p : ℕ) → 0 < length bytes → pages_of (from_place (lowered start) (covered start bytes)) p ≡ pages_of (from_place start bytes) p
covered-pages start bytes p l =
    let whole = covered-length start bytes in
    let first : lowered start / 4096 ≡ start / 4096 = omega arith in
    let last : (raised (start + length bytes) - 1) / 4096 ≡ (start + length bytes - 1) / 4096 = omega arith in
    pages-alike (lowered start) start (raised (start + length bytes) - 1) (start + length bytes - 1) (covered start bytes) bytes p (omega (arith, whole)) l (omega (arith, whole)) (omega arith) first last

pub tetras-length : (bytes : List ℕ) → length bytes % 4 ≡ 0 → 4 * length (tetras_of bytes) ≡ length bytes
tetras-length [] l = refl
tetras-length (b ∷ c ∷ d ∷ e ∷ more) l = omega (arith, tetras-length more (omega arith))
tetras-length bytes l = absurd (omega arith)

pub covering-length : (start : ℕ) (bytes : List ℕ) → length (covering start bytes) ≡ tetra_count start (length bytes)
covering-length start bytes = search (rules, tetras-length, covered-fours, covered-length)

-- ---- the same state

pub same-limited : (n : ℕ) (t u : State) → ((q : ℕ) → placed t.placements q ≡ placed u.placements q) → ((p : ℕ) → pages_of t.placements p ≡ pages_of u.placements p) →
    t.lambda ≡ u.lambda → t.line ≡ u.line → (count_of n u ≤ 65536 → t.lines ≡ u.lines) → limited n t ≡ limited n u
same-limited n t u placed_same pages_same lambda line lines = grind (arith, nat_tests)

pub takes-same : (n : ℕ) (items : List Item) (s t u : State) → limited n t ≡ limited n u → Takes n items s t → Takes n items s u
takes-same n items s t u e h = record { taken = h.taken ∙ e }

-- ---- where the first tetra is loaded

abbrev pub at_lambda : State → ℕ → State
at_lambda s a = record s { lambda = a }

load-same : (n : ℕ) (s : State) (b t : ℕ) → s.lambda / 4 ≡ b / 4 → take_item (loading_at n s) (Load t) ≡ take_item (loading_at n (at_lambda s b)) (Load t)
load-same n s b t e = grind (arith, nat_tests)

pub loads-same : (n : ℕ) (s : State) (b : ℕ) (ts : List ℕ) → s.lambda / 4 ≡ b / 4 → 0 < length ts → take_items (map Load ts) (limited n s) ≡ take_items (map Load ts) (limited n (at_lambda s b))
loads-same n s b [] e some = absurd (omega (arith, some))
loads-same n s b (t ∷ ts) e some = search (rules, load-same)

-- ---- the place and the line

pub takes-located : (n : ℕ) (s : State) (start : ℕ) → Takes n (located s.lambda start) s (at_lambda s (cond (lowered s.lambda == lowered start) s.lambda (lowered start)))
takes-located n s start = grind (arith, nat_tests)

pub located-at : (s : State) (start : ℕ) → cond (lowered s.lambda == lowered start) s.lambda (lowered start) / 4 ≡ lowered start / 4
located-at s start = grind (arith, nat_tests)

pub takes-lined : (n : ℕ) (s : State) (line : ℕ) → Takes n (lined s.line line) s (record s { line = told_line line })
takes-lined n s line = grind (arith, nat_tests)

-- ---- lines

pub no-lines : (k a q : ℕ) (lines : ℕ → ℕ) → lines_with lines a 0 k q ≡ lines q
no-lines zero a q lines = refl
no-lines (suc k) a q lines = no-lines k (a + 4) q lines

pub lines-are : (k a line q : ℕ) (lines : ℕ → ℕ) → 0 < line → line + k ≤ 2 ^ 32 - 1 →
    lines_with lines a line k q ≡ cond (nat_le (a / 4) (q / 4) && nat_lt (q / 4) (a / 4 + k)) (line + (q / 4 - a / 4)) (lines q)
lines-are zero a line q lines some few = let none : (nat_le (a / 4) (q / 4) && nat_lt (q / 4) (a / 4 + 0)) ≡ false = grind (arith, nat_tests) in sym (ap (λ b. cond b (line + (q / 4 - a / 4)) (lines q)) none)
lines-are (suc k) a line q lines some few = search (rules, lines-are k (a + 4) (line + 1) q (lined_with lines a line) (omega arith) (omega (arith, few)))

pub line-after : (k line : ℕ) → line ≤ 2 ^ 32 - 1 → line_after line k ≡ line_number_after line k
line-after zero line few = cond_both (line == 0) _ _ (λ x. line ≡ x) (λ e. eqb-true line 0 e) (λ _. omega (arith, few))
line-after (suc k) line few = on (line == 0) (line-after k (min (line + 1) (2 ^ 32 - 1)) (omega arith))
  where
    none : (k : ℕ) → line_after 0 k ≡ 0
    none zero = refl
    none (suc k) = none k

    on : (b : Bool) → line_after (min (line + 1) (2 ^ 32 - 1)) k ≡ line_number_after (min (line + 1) (2 ^ 32 - 1)) k → line_after (cond b 0 (min (line + 1) (2 ^ 32 - 1))) k ≡ cond b 0 (min (line + suc k) (2 ^ 32 - 1))
    on true rest = none k
    on false rest =
        let other : (min (line + 1) (2 ^ 32 - 1) == 0) ≡ false = grind (arith, nat_tests) in
        let same : min (min (line + 1) (2 ^ 32 - 1) + k) (2 ^ 32 - 1) ≡ min (line + suc k) (2 ^ 32 - 1) = omega (arith, few) in
        rest ∙ ap (λ b. cond b 0 (min (min (line + 1) (2 ^ 32 - 1) + k) (2 ^ 32 - 1))) other ∙ same

-- ---- the items of bytes that a statement places lead to the state with these bytes

abbrev pub piece_at : ℕ → ℕ → List ℕ → Piece
piece_at line start bytes = record { line = line; start = start; bytes = bytes }

abbrev pub head_of : State → Head
head_of s = record { lambda = s.lambda; line = s.line }

-- what follows bytes of a line that are placed from an address on
abbrev pub after_bytes : State → ℕ → ℕ → List ℕ → State
after_bytes s line start [] = s
after_bytes s line start (b ∷ bytes) = record {
  placements = s.placements ++ from_place start (b ∷ bytes);
  lines = with_lines s.lines (piece_at line start (b ∷ bytes));
  lambda = raised (start + length (b ∷ bytes));
  line = line_number_after (told_line line) (tetra_count start (length (b ∷ bytes)));
}

-- ---- the lines

-- bytes on few pages are few
few-bytes : (n : ℕ) (ps : List (ℕ × ℕ)) (start b : ℕ) (bytes : List ℕ) → 2 ^ 51 ≤ n → start + length (b ∷ bytes) ≤ 0x6000_0000_0000_0000 → pages_below n (pages_of (ps ++ from_place start (b ∷ bytes))) ≤ 65536 → length bytes ≤ 2 ^ 29
few-bytes n ps start b bytes big low few =
    let first : ℕ = start / 4096 in
    let last : ℕ = (start + length bytes) / 4096 in
    let many = many-pages n first (last + 1 - first) (pages_of (ps ++ from_place start (b ∷ bytes))) (omega (arith, big, low)) (λ p l m. there p l m) in
    omega (arith, many, few)
  where
    or-there : (s t : Bool) → t ≡ true → (s || t) ≡ true
    or-there true t e = refl
    or-there false t e = e

    there : (p : ℕ) → start / 4096 ≤ p → p < start / 4096 + ((start + length bytes) / 4096 + 1 - start / 4096) → pages_of (ps ++ from_place start (b ∷ bytes)) p ≡ true
    there p l m =
        let within : (nat_le (start / 4096) p && nat_le p ((start + length bytes) / 4096)) ≡ true = grind (arith, nat_tests) in
        append-pages ps (from_place start (b ∷ bytes)) p ∙ or-there (pages_of ps p) _ (pages-run start b bytes p ∙ within)

told-lines : (high : Bool) (line start b q : ℕ) (bytes : List ℕ) (lines : ℕ → ℕ) → high ≡ nat_lt 65535 line → 0 < line → length bytes ≤ 2 ^ 29 →
    lines_with lines (lowered start) (cond high 0 line) (length (covering start (b ∷ bytes))) q ≡ cond (nat_le line 65535 && is_covered (piece_at line start (b ∷ bytes)) q) (line + (q / 4 - start / 4)) (lines q)
told-lines true line start b q bytes lines high some few = search (rules, no-lines)
told-lines false line start b q bytes lines high some few =
    let below : nat_le line 65535 ≡ true = grind (arith, nat_tests) in
    let small : line ≤ 65535 = grind (arith, nat_tests) in
    let k : ℕ = tetra_count start (length (b ∷ bytes)) in
    let first : lowered start / 4 ≡ start / 4 = omega arith in
    let last : start / 4 + k ≡ (start + length bytes) / 4 + 1 = omega arith in
    ap (λ n. lines_with lines (lowered start) line n q) (covering-length start (b ∷ bytes))
    ∙ lines-are k (lowered start) line q lines some (omega (arith, small, few))
    ∙ ap (λ u. cond (nat_le u (q / 4) && nat_lt (q / 4) (u + k)) (line + (q / 4 - u)) (lines q)) first
    ∙ ap (λ u. cond (nat_le (start / 4) (q / 4) && nat_lt (q / 4) u) (line + (q / 4 - start / 4)) (lines q)) last
    ∙ ap (λ t. cond (nat_le (start / 4) (q / 4) && t) (line + (q / 4 - start / 4)) (lines q)) (grind (arith, nat_tests))
    ∙ sym (ap (λ t. cond (t && is_covered (piece_at line start (b ∷ bytes)) q) (line + (q / 4 - start / 4)) (lines q)) below
    ∙ ap (λ t. cond t (line + (q / 4 - start / 4)) (lines q)) (tetras-run start b bytes (q / 4)))

told-small : (line : ℕ) → told_line line ≤ 2 ^ 32 - 1
told-small line = cond_both (nat_lt 65535 line) _ _ (λ x. x ≤ 2 ^ 32 - 1) (λ _. omega arith) (λ e. let l = ltb-false 65535 line e in omega (arith, l))

-- ---- the bytes

some-tetras : (start b : ℕ) (bytes : List ℕ) → 0 < length (covering start (b ∷ bytes))
some-tetras start b bytes = let e = covering-length start (b ∷ bytes) in omega (arith, e)

abbrev told_at : State → ℕ → ℕ → State
told_at s line start = record s { lambda = lowered start; line = told_line line }

module _ (n : ℕ) (big : 2 ^ 51 ≤ n) where
  covering-taken : (s : State) (line start b : ℕ) (bytes : List ℕ) → start + length (b ∷ bytes) ≤ 0x6000_0000_0000_0000 → AreBytes (b ∷ bytes) → HaveBytes (placed s.placements) → 0 < line →
      Takes n (map Load (covering start (b ∷ bytes))) (told_at s line start) (after_bytes s line start (b ∷ bytes))
  covering-taken s line start b bytes low are have some =
      let u : State = told_at s line start in
      let whole = covered-length start (b ∷ bytes) in
      takes-same n _ u (after_tetras u (covered start (b ∷ bytes))) (after_bytes s line start (b ∷ bytes))
      (same-limited n (after_tetras u (covered start (b ∷ bytes))) (after_bytes s line start (b ∷ bytes))
      (λ q. placed-append s.placements (from_place (lowered start) (covered start (b ∷ bytes))) q ∙ ap (bit_xor (placed s.placements q)) (covered-placed start (b ∷ bytes) q) ∙ sym (placed-append s.placements (from_place start (b ∷ bytes)) q))
      (λ p. append-pages s.placements (from_place (lowered start) (covered start (b ∷ bytes))) p ∙ ap (λ t. pages_of s.placements p || t) (covered-pages start (b ∷ bytes) p (omega arith)) ∙ sym (append-pages s.placements (from_place start (b ∷ bytes)) p))
      whole
      (ap (λ k. line_after (told_line line) k) (covering-length start (b ∷ bytes)) ∙ line-after (tetra_count start (length (b ∷ bytes))) (told_line line) (told-small line))
      (λ few. same-numbers _ _ (λ q. told-lines (nat_lt 65535 line) line start b q bytes s.lines refl some (few-bytes n s.placements start b bytes big low few))))
      (takes-tetras n (covered start (b ∷ bytes)) u big (omega arith) (covered-fours start (b ∷ bytes)) (omega (arith, whole, low)) (covered-bytes start (b ∷ bytes) are) have)

  -- bytes of a line, placed from an address on
  pub takes-bytes : (s : State) (line start : ℕ) (bytes : List ℕ) → (0 < length bytes → start + length bytes ≤ 0x6000_0000_0000_0000) → AreBytes bytes → HaveBytes (placed s.placements) → 0 < line →
      Takes n (byte_items (head_of s) line start bytes) s (after_bytes s line start bytes)
  takes-bytes s line start [] low are have some = takes-none n s
  takes-bytes s line start (b ∷ bytes) low are have some =
      let a : ℕ = cond (lowered s.lambda == lowered start) s.lambda (lowered start) in
      let v : State = record s { lambda = a; line = told_line line } in
      let place = takes-located n s start in
      let told = takes-lined n (at_lambda s a) line in
      let loads = covering-taken s line start b bytes (low (omega arith)) are have some in
      takes-both n (located s.lambda start ++ lined s.line line) (map Load (covering start (b ∷ bytes))) s v (after_bytes s line start (b ∷ bytes))
      (takes-both n (located s.lambda start) (lined s.line line) s (at_lambda s a) v place told)
      (record { taken = loads-same n v (lowered start) (covering start (b ∷ bytes)) (located-at s start) (some-tetras start b bytes) ∙ loads.taken })
