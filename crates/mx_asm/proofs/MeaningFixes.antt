-- A fix record joins what its reference adds to the bytes at its place.
use Rattle.std.proofs.Common.{◌≡◌, ℕ, ◌+◌, ◌-◌, ◌*◌, ◌/◌, ◌%◌, ◌^◌, ◌<◌, ◌≤◌, List, [], ◌∷◌, ◌++◌, false, not, cond, arith, refl, sym, ◌∙◌, ap, Some, Result, Ok, Err, ◌⊎◌, append_assoc, ◌&&◌, nat_le, rules}
use Rattle.mx_asm.proofs.Words.{nat_tests, octa_to_bytes, tetra_to_bytes, AreBytes, tetra-back, Pure, Wait, WaitKind, Octa, Near, Far, BadPlace, is_below, join, then_join, join_octa, tetras_before, tetras_following, with_image, take_item, take_items, Item, relative_word, future_word, near_reach, far_reach, fix_bytes, kind_size, from_place, placed, from-append, AsmFault, pages_of, pages_below, word_fix, relative_fix, pure_fix, fix_of}
use Rattle.mx_asm.proofs.MeaningMemory.{HaveBytes, more-count, append-more, unless_full}
use Rattle.mx_asm.proofs.MeaningStates.{State, image_at, loading_at, count_of, limited, Takes, take-none, takes-few, tetra-joined, more-bytes}

pub word-bytes : (t : ℕ) → AreBytes (tetra_to_bytes t)
word-bytes t = (omega arith, (omega arith, (omega arith, (omega arith, tt))))

-- ---- a word that is joined

word-joined : (n a t : ℕ) (ps : List (ℕ × ℕ)) (lines : ℕ → ℕ) → 2 ^ 51 ≤ n → a % 4 ≡ 0 → a < 0x6000_0000_0000_0000 → t < 2 ^ 32 → HaveBytes (placed ps) → pages_below n (pages_of ps) ≤ 65536 →
    join (image_at n ps lines) a t ≡ unless_full (pages_below n (pages_of (ps ++ from_place a (tetra_to_bytes t)))) (image_at n (ps ++ from_place a (tetra_to_bytes t)) lines)
word-joined n a t ps lines big m l fits have few = grind (arith, nat_tests, tetra-back, tetra-joined)

-- the place of two words that are joined one after another
then-joined : (n a t : ℕ) (ps : List (ℕ × ℕ)) (lines : ℕ → ℕ) → 2 ^ 51 ≤ n → a % 4 ≡ 0 → a < 0x6000_0000_0000_0000 → t < 2 ^ 32 → HaveBytes (placed ps) →
    then_join a t (unless_full (pages_below n (pages_of ps)) (image_at n ps lines)) ≡ unless_full (pages_below n (pages_of (ps ++ from_place a (tetra_to_bytes t)))) (image_at n (ps ++ from_place a (tetra_to_bytes t)) lines)
then-joined n a t ps lines big m l fits have = search (rules, word-joined, more-count, append-more)

with-unless : (n : ℕ) (s : State) (ps : List (ℕ × ℕ)) → with_image (loading_at n s) (unless_full (pages_below n (pages_of ps)) (image_at n ps s.lines)) ≡ limited n (record s { placements = ps })
with-unless n s ps = grind (arith, nat_tests)

-- ---- an octa

octa-halves : (x : ℕ) → octa_to_bytes x ≡ tetra_to_bytes (x / 2 ^ 32) ++ tetra_to_bytes (x % 2 ^ 32)
octa-halves x = grind (arith, nat_tests)

octa-joined : (n a x : ℕ) (ps : List (ℕ × ℕ)) (lines : ℕ → ℕ) → 2 ^ 51 ≤ n → a % 4 ≡ 0 → a + 8 ≤ 0x6000_0000_0000_0000 → x < 2 ^ 64 → HaveBytes (placed ps) → pages_below n (pages_of ps) ≤ 65536 →
    join_octa (image_at n ps lines) a x ≡ unless_full (pages_below n (pages_of (ps ++ from_place a (octa_to_bytes x)))) (image_at n (ps ++ from_place a (octa_to_bytes x)) lines)
octa-joined n a x ps lines big m l fits have few =
    let at_high : 4 * (a / 4) ≡ a = omega (arith, m) in
    let at_low : (a + 4) % 2 ^ 64 ≡ a + 4 = omega (arith, l) in
    let high_below : nat_le 0x6000_0000_0000_0000 a ≡ false = grind (arith, nat_tests) in
    let low_below : nat_le 0x6000_0000_0000_0000 (a + 4) ≡ false = grind (arith, nat_tests) in
    let once : List (ℕ × ℕ) = ps ++ from_place a (tetra_to_bytes (x / 2 ^ 32)) in
    let twice : once ++ from_place (a + 4) (tetra_to_bytes (x % 2 ^ 32)) ≡ ps ++ from_place a (octa_to_bytes x) =
    append_assoc ps (from_place a (tetra_to_bytes (x / 2 ^ 32))) (from_place (a + 4) (tetra_to_bytes (x % 2 ^ 32)))
    ∙ ap (λ qs. ps ++ qs) (sym (from-append a (tetra_to_bytes (x / 2 ^ 32)) (tetra_to_bytes (x % 2 ^ 32))) ∙ ap (from_place a) (sym (octa-halves x))) in
    ap (λ h. cond (is_below h && is_below ((h + 4) % 2 ^ 64)) (then_join ((h + 4) % 2 ^ 64) (x % 2 ^ 32) (join (image_at n ps lines) h (x / 2 ^ 32))) (Err BadPlace)) at_high
    ∙ ap (λ k. cond (is_below a && is_below k) (then_join k (x % 2 ^ 32) (join (image_at n ps lines) a (x / 2 ^ 32))) (Err BadPlace)) at_low
    ∙ ap (λ b. cond (not b && is_below (a + 4)) (then_join (a + 4) (x % 2 ^ 32) (join (image_at n ps lines) a (x / 2 ^ 32))) (Err BadPlace)) high_below
    ∙ ap (λ b. cond (not b) (then_join (a + 4) (x % 2 ^ 32) (join (image_at n ps lines) a (x / 2 ^ 32))) (Err BadPlace)) low_below
    ∙ ap (then_join (a + 4) (x % 2 ^ 32)) (word-joined n a (x / 2 ^ 32) ps lines big m (omega (arith, l)) (omega (arith, fits)) have few)
    ∙ then-joined n (a + 4) (x % 2 ^ 32) once lines big (omega (arith, m)) (omega (arith, l)) (omega arith) (more-bytes ps a (tetra_to_bytes (x / 2 ^ 32)) have (word-bytes (x / 2 ^ 32)))
    ∙ ap (λ qs. unless_full (pages_below n (pages_of qs)) (image_at n qs lines)) twice

-- ---- a relative address

-- how far a target lies from its place: forward by this many tetras, or backward
record IsForward (place value reach word : ℕ) : Type 0 where
  ahead : place + 4 * word ≡ value
  near : word < reach

record IsBackward (place value reach word : ℕ) : Type 0 where
  back : ℕ
  reached : value + 4 * back ≡ place
  some : 0 < back
  near : back ≤ reach
  word_is : word ≡ 2 ^ 24 + (reach - back)

record IsFix (place value bits reach : ℕ) (item : Item) : Type 0 where
  word : ℕ
  added : future_word 0 reach place (Some value) ≡ word
  item_is : item ≡ word_fix bits word
  from : IsForward place value reach word ⊎ IsBackward place value reach word

same-item : (x y : Item) → ◌≡◌ {A = Result Item AsmFault} (Ok x) (Ok y) → x ≡ y
same-item x y h = cc

relative-is : (place value bits reach : ℕ) (item : Item) → relative_fix bits (relative_word 0 reach place value) ≡ Ok item → IsFix place value bits reach item
relative-is place value bits reach item h = grind (arith, nat_tests)

-- where the records join their words
before-is : (place value word : ℕ) → place + 4 * word ≡ value → place < 2 ^ 63 → tetras_before word value ≡ place
before-is place value word h l = omega (arith, h, l)

backward-place : (place value reach back : ℕ) → value + 4 * back ≡ place → 0 < back → back ≤ reach → reach ≤ 2 ^ 24 → place < 2 ^ 63 → tetras_following reach (tetras_before (reach - back) value) ≡ place
backward-place place value reach back h some near small l = omega (arith, h, some, near, small, l)

low-bits : (reach back word : ℕ) → word ≡ 2 ^ 24 + (reach - back) → 0 < back → reach ≤ 2 ^ 24 → word % 2 ^ 24 ≡ reach - back
low-bits reach back word h some small = omega (arith, h, some, small)

module _ (n : ℕ) (big : 2 ^ 51 ≤ n) (s : State) (have : HaveBytes (placed s.placements)) (few : count_of n s ≤ 65536) where
  abbrev with_placed : ℕ → List ℕ → State
  with_placed place bytes = record s { placements = s.placements ++ from_place place bytes }

  at-place : (place word from : ℕ) → from ≡ place → place % 4 ≡ 0 → place + 4 ≤ 0x6000_0000_0000_0000 → word < 2 ^ 32 →
      with_image (loading_at n s) (join (image_at n s.placements s.lines) from word) ≡ limited n (with_placed place (tetra_to_bytes word))
  at-place place word from e m l fits = grind (arith, word-joined, with-unless)

  word-fixed : (place bits reach word : ℕ) → reach ≡ 2 ^ bits → reach ≤ 2 ^ 24 → place % 4 ≡ 0 → place + 4 ≤ 0x6000_0000_0000_0000 →
      IsForward place s.lambda reach word ⊎ IsBackward place s.lambda reach word → take_item (loading_at n s) (word_fix bits word) ≡ limited n (with_placed place (tetra_to_bytes word))
  word-fixed place bits reach word power small m l h = grind (arith, before-is, at-place, low-bits, backward-place)

  relative-fixed : (place bits reach : ℕ) (item : Item) → reach ≡ 2 ^ bits → reach ≤ 2 ^ 24 → place % 4 ≡ 0 → place + 4 ≤ 0x6000_0000_0000_0000 → relative_fix bits (relative_word 0 reach place s.lambda) ≡ Ok item →
      take_item (loading_at n s) item ≡ limited n (with_placed place (tetra_to_bytes (future_word 0 reach place (Some s.lambda))))
  relative-fixed place bits reach item power small m l h = search (rules, relative-is, word-fixed)

-- ---- one record

abbrev pub after_fix : State → Wait → ℕ → State
after_fix s w value = record s { placements = s.placements ++ from_place w.at (fix_bytes w.kind w.at (Some value)) }

fix-taken : (n : ℕ) (kind : WaitKind) (place value : ℕ) (item : Item) (s : State) → 2 ^ 51 ≤ n → HaveBytes (placed s.placements) → s.lambda ≡ value → value < 2 ^ 64 → place % 4 ≡ 0 → place + kind_size kind ≤ 0x6000_0000_0000_0000 →
    pure_fix place kind value ≡ Ok item → count_of n s ≤ 65536 →
    take_items (item ∷ []) (Ok (loading_at n s)) ≡ limited n (record s { placements = s.placements ++ from_place place (fix_bytes kind place (Some value)) })
fix-taken n Octa place value item s big have at fits m l h few =
    take-none _
    ∙ ap (take_item (loading_at n s)) (sym (same-item _ _ h))
    ∙ ap (λ x. with_image (loading_at n s) (join_octa (image_at n s.placements s.lines) place x)) at
    ∙ ap (with_image (loading_at n s)) (octa-joined n place value s.placements s.lines big m l fits have few)
    ∙ with-unless n s (s.placements ++ from_place place (octa_to_bytes value))
fix-taken n Near place value item s big have at fits m l h few =
    take-none _
    ∙ relative-fixed n big s have few place 16 near_reach item refl (omega arith) m l (ap (λ v. relative_fix 16 (relative_word 0 near_reach place v)) at ∙ h)
    ∙ ap (λ v. limited n (record s { placements = s.placements ++ from_place place (tetra_to_bytes (future_word 0 near_reach place (Some v))) })) at
fix-taken n Far place value item s big have at fits m l h few =
    take-none _
    ∙ relative-fixed n big s have few place 24 far_reach item refl (omega arith) m l (ap (λ v. relative_fix 24 (relative_word 0 far_reach place v)) at ∙ h)
    ∙ ap (λ v. limited n (record s { placements = s.placements ++ from_place place (tetra_to_bytes (future_word 0 far_reach place (Some v))) })) at

pub takes-fix : (n : ℕ) (w : Wait) (value : ℕ) (item : Item) (s : State) → 2 ^ 51 ≤ n → HaveBytes (placed s.placements) → s.lambda ≡ value → value < 2 ^ 64 → w.at % 4 ≡ 0 → w.at + kind_size w.kind ≤ 0x6000_0000_0000_0000 →
    fix_of (Pure value) w ≡ Ok item → Takes n (item ∷ []) s (after_fix s w value)
takes-fix n w value item s big have at fits m l h = search (rules, takes-few, append-more, fix-taken)
