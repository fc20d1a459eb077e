-- The tetras that the items of a statement load.
use Rattle.std.proofs.Common.{◌≡◌, ℕ, ◌+◌, ◌*◌, ◌/◌, ◌%◌, ◌^◌, ◌<◌, ◌≤◌, List, [], ◌∷◌, ◌++◌, length, map, Bool, true, false, cond, arith, refl, ap, subst, ◌∙◌, Result, Ok, Err, ◌==◌, ◌||◌}
use Rattle.std.proofs.lemmas.Bool.{eqb-true}
use Rattle.std.proofs.lemmas.Bool.Decides.{nat_tests}
use Rattle.mx_word.specs.declared.symbols.Value.{Value}
use Rattle.mx_word.specs.declared.symbols.Value.TheVariants.{Pure, Reg}
use Rattle.mx_word.specs.declared.waits.Wait.{Wait}
use Rattle.mx_mmo.specs.declared.items.Item.{Item}
use Rattle.mx_mmo.specs.declared.items.Item.TheVariants.{Line, Load, Loc}
unfoldable use Rattle.mx_type.specs.Lambda.{lambda_following}
use Rattle.mx_type.specs.Lines.{tetra_address}
use Rattle.mx_asm.specs.Emission.{covering, fix_items, lined, located, lowered, moved, onto, byte_items, head_at_bytes, head_at_fixes, told_line}
unfoldable use Rattle.mx_asm.specs.Fixes.{fixes}
use Rattle.mx_asm.specs.Fixes.{fix_of, with_fix}
use Rattle.mx_asm.specs.declared.faults.AsmFault.{AsmFault}
use Rattle.mx_asm.specs.declared.head.Head.{Head}
use Rattle.mx_asm.specs.declared.refused.Refused.{Refused}
use Rattle.mx_asm.proofs.MeaningBytes.{covering-length}
use Rattle.mx_view.specs.declared.cells.Cell.{Cell}
use Rattle.mx_view.specs.declared.cells.Wanted.TheVariants.{All}
unfoldable use Rattle.mx_view.specs.Cells.{cells_of}
use Rattle.mx_view.proofs.EveryCell.{cells-append}
use Rattle.mx_view.proofs.Shown.{lambda-append}

-- whether the tetra that holds an address is one of these
unfoldable pub has : List Cell → ℕ → Bool
has [] a = false
has (c ∷ cells) a = c.address == tetra_address a || has cells a

pub has-append : (xs ys : List Cell) (a : ℕ) → has (xs ++ ys) a ≡ (has xs a || has ys a)
unfolding has
has-append [] ys a = refl
has-append (x ∷ xs) ys a = ap (λ b. x.address == tetra_address a || b) (has-append xs ys a) ∙ grouped (x.address == tetra_address a) (has xs a) (has ys a)
  where
    grouped : (a b c : Bool) → (a || (b || c)) ≡ ((a || b) || c)
    grouped true b c = refl
    grouped false b c = refl

-- what items load at an address, and where they leave lambda
abbrev pub loads_at : ℕ → List Item → ℕ → Bool
loads_at lambda items a = has (cells_of All lambda items) a

pub loads-append : (lambda : ℕ) (xs ys : List Item) (a : ℕ) → loads_at lambda (xs ++ ys) a ≡ (loads_at lambda xs a || loads_at (lambda_following lambda xs) ys a)
loads-append lambda xs ys a = ap (λ cells. has cells a) (cells-append All lambda xs ys) ∙ has-append (cells_of All lambda xs) (cells_of All (lambda_following lambda xs) ys) a

-- ---- tetras one after another

next-tetra : (lambda a : ℕ) → lambda % 4 ≡ 0 → (4 * (lambda / 4) == tetra_address a) ≡ false → lambda ≤ tetra_address a → lambda + 4 ≤ tetra_address a
next-tetra lambda a m other from = grind (arith, nat_tests)

tetras-at : (ts : List ℕ) (lambda a : ℕ) → lambda % 4 ≡ 0 → lambda + 4 * length ts ≤ 2 ^ 63 → lambda ≤ tetra_address a → tetra_address a < lambda + 4 * length ts → loads_at lambda (map Load ts) a ≡ true
unfolding cells_of has
tetras-at [] lambda a m low from to = absurd (omega (arith, from, to))
tetras-at (t ∷ ts) lambda a m low from to =
    let next : (4 * (lambda / 4) + 4) % 2 ^ 64 ≡ lambda + 4 = omega (arith, m, low) in
    by (4 * (lambda / 4) == tetra_address a) refl (λ above. ap (λ n. has (cells_of All n (map Load ts)) a) next ∙ tetras-at ts (lambda + 4) a (omega (arith, m)) (omega (arith, low)) above (omega (arith, to)))
  where
    by : (b : Bool) → (4 * (lambda / 4) == tetra_address a) ≡ b → (lambda + 4 ≤ tetra_address a → loads_at ((4 * (lambda / 4) + 4) % 2 ^ 64) (map Load ts) a ≡ true) → (b || loads_at ((4 * (lambda / 4) + 4) % 2 ^ 64) (map Load ts) a) ≡ true
    by true e rest = refl
    by false e rest = rest (next-tetra lambda a m e from)

tetras-following : (ts : List ℕ) (lambda : ℕ) → lambda % 4 ≡ 0 → lambda + 4 * length ts ≤ 2 ^ 63 → lambda_following lambda (map Load ts) ≡ lambda + 4 * length ts
unfolding lambda_following
tetras-following [] lambda m low = omega arith
tetras-following (t ∷ ts) lambda m low =
    let next : (4 * (lambda / 4) + 4) % 2 ^ 64 ≡ lambda + 4 = omega (arith, m, low) in
    let sum : lambda + 4 + 4 * length ts ≡ lambda + 4 * length (t ∷ ts) = omega arith in
    ap (λ n. lambda_following n (map Load ts)) next ∙ tetras-following ts (lambda + 4) (omega (arith, m)) (omega (arith, low)) ∙ sum

-- the first tetra goes to the multiple of 4 below lambda
same-loads : (ts : List ℕ) (lambda b a : ℕ) → 0 < length ts → lambda / 4 ≡ b / 4 → loads_at lambda (map Load ts) a ≡ loads_at b (map Load ts) a
unfolding cells_of
same-loads [] lambda b a some e = absurd (omega (arith, some))
same-loads (t ∷ ts) lambda b a some e = ap (λ n. has (record { address = 4 * n; tetra = t } ∷ [] ++ cells_of All ((4 * n + 4) % 2 ^ 64) (map Load ts)) a) e

same-following : (ts : List ℕ) (lambda b : ℕ) → 0 < length ts → lambda / 4 ≡ b / 4 → lambda_following lambda (map Load ts) ≡ lambda_following b (map Load ts)
unfolding lambda_following
same-following [] lambda b some e = absurd (omega (arith, some))
same-following (t ∷ ts) lambda b some e = ap (λ n. lambda_following ((4 * n + 4) % 2 ^ 64) (map Load ts)) e

-- ---- items that load nothing

pub record IsStill (lambda : ℕ) (items : List Item) (following : ℕ) : Type 0 where
  pub none : cells_of All lambda items ≡ []
  pub moved : lambda_following lambda items ≡ following

-- after such items another list loads as it does from where they lead to
pub after-still : (lambda following : ℕ) (xs ys : List Item) (a : ℕ) → IsStill lambda xs following → loads_at lambda (xs ++ ys) a ≡ loads_at following ys a
unfolding has
after-still lambda following xs ys a h =
    loads-append lambda xs ys a
    ∙ (λ i. has (h.none i) a || loads_at (h.moved i) ys a)

pub leads-still : (lambda following : ℕ) (xs ys : List Item) → IsStill lambda xs following → lambda_following lambda (xs ++ ys) ≡ lambda_following following ys
leads-still lambda following xs ys h = lambda-append lambda xs ys ∙ ap (λ n. lambda_following n ys) h.moved

both-still : (a b c : ℕ) (xs ys : List Item) → IsStill a xs b → IsStill b ys c → IsStill a (xs ++ ys) c
both-still a b c xs ys h g = record {
  none = cells-append All a xs ys ∙ (λ i. h.none i ++ cells_of All (h.moved i) ys) ∙ g.none;
  moved = leads-still a b xs ys h ∙ g.moved;
}

nothing-still : (lambda : ℕ) → IsStill lambda [] lambda
unfolding cells_of lambda_following
nothing-still lambda = record { none = refl; moved = refl }

-- where a statement's first tetra goes, and the line that is told
abbrev placed_lambda : ℕ → ℕ → ℕ
placed_lambda lambda start = cond (lowered lambda == lowered start) lambda (lowered start)

located-still : (lambda start : ℕ) → IsStill lambda (located lambda start) (placed_lambda lambda start)
unfolding cells_of lambda_following
located-still lambda start = by (lowered lambda == lowered start)
  where
    by : (b : Bool) → IsStill lambda (cond b [] (Loc (lowered start) ∷ [])) (cond b lambda (lowered start))
    by true = record { none = refl; moved = refl }
    by false = record { none = refl; moved = refl }

lined-still : (lambda in_force line : ℕ) → IsStill lambda (lined in_force line) lambda
unfolding cells_of lambda_following
lined-still lambda in_force line = by (in_force == told_line line)
  where
    by : (b : Bool) → IsStill lambda (cond b [] (Line (told_line line) ∷ [])) lambda
    by true = record { none = refl; moved = refl }
    by false = record { none = refl; moved = refl }

located-at : (lambda start : ℕ) → placed_lambda lambda start / 4 ≡ lowered start / 4
located-at lambda start = grind (arith, nat_tests)

-- ---- the bytes of a statement

some-tetras : (start b : ℕ) (bytes : List ℕ) → 0 < length (covering start (b ∷ bytes))
some-tetras start b bytes = let e = covering-length start (b ∷ bytes) in omega (arith, e)

-- the tetras of bytes are loaded at the addresses of the bytes
pub bytes-at : (h : Head) (line start : ℕ) (bytes : List ℕ) (a : ℕ) → (0 < length bytes → start + length bytes ≤ 0x6000_0000_0000_0000) → start ≤ a → a < start + length bytes → loads_at h.lambda (byte_items h line start bytes) a ≡ true
bytes-at h line start [] a low from to = absurd (omega (arith, from, to))
bytes-at h line start (b ∷ bytes) a low from to =
    let e = covering-length start (b ∷ bytes) in
    let below = low (omega arith) in
    let front = both-still h.lambda (placed_lambda h.lambda start) (placed_lambda h.lambda start) (located h.lambda start) (lined h.line line) (located-still h.lambda start) (lined-still (placed_lambda h.lambda start) h.line line) in
    after-still h.lambda (placed_lambda h.lambda start) (located h.lambda start ++ lined h.line line) (map Load (covering start (b ∷ bytes))) a front
    ∙ same-loads (covering start (b ∷ bytes)) (placed_lambda h.lambda start) (lowered start) a (some-tetras start b bytes) (located-at h.lambda start)
    ∙ tetras-at (covering start (b ∷ bytes)) (lowered start) a (omega arith) (omega (arith, e, below)) (omega (arith, from)) (omega (arith, e, to))

pub bytes-after : (h : Head) (line start : ℕ) (bytes : List ℕ) → (0 < length bytes → start + length bytes ≤ 0x6000_0000_0000_0000) → lambda_following h.lambda (byte_items h line start bytes) ≡ (head_at_bytes h line start bytes).lambda
bytes-after h line start [] low = (nothing-still h.lambda).moved
bytes-after h line start (b ∷ bytes) low =
    let e = covering-length start (b ∷ bytes) in
    let below = low (omega arith) in
    let front = both-still h.lambda (placed_lambda h.lambda start) (placed_lambda h.lambda start) (located h.lambda start) (lined h.line line) (located-still h.lambda start) (lined-still (placed_lambda h.lambda start) h.line line) in
    leads-still h.lambda (placed_lambda h.lambda start) (located h.lambda start ++ lined h.line line) (map Load (covering start (b ∷ bytes))) front
    ∙ same-following (covering start (b ∷ bytes)) (placed_lambda h.lambda start) (lowered start) (some-tetras start b bytes) (located-at h.lambda start)
    ∙ tetras-following (covering start (b ∷ bytes)) (lowered start) (omega arith) (omega (arith, e, below))
    ∙ omega (arith, e)

-- ---- the records of a label

fix-still : (value : Value) (w : Wait) (fix : Item) (lambda : ℕ) → fix_of value w ≡ Ok fix → IsStill lambda (fix ∷ []) lambda
unfolding cells_of lambda_following
fix-still value w fix lambda e = grind (arith, nat_tests)

fixes-still : (line : ℕ) (value : Value) (waits : List Wait) (items : List Item) (lambda : ℕ) → fixes line value waits ≡ Ok items → IsStill lambda items lambda
unfolding fixes
fixes-still line value [] items lambda e = let same : [] ≡ items = cc in subst (λ is. IsStill lambda is lambda) same (nothing-still lambda)
fixes-still line value (w ∷ waits) items lambda e = by (fix_of value w) (fixes line value waits) refl refl e (λ more is. fixes-still line value waits more lambda is)
  where
    by : (f : Result Item AsmFault) (r : Result (List Item) Refused) → fix_of value w ≡ f → fixes line value waits ≡ r → with_fix line w.line f r ≡ Ok items → ((more : List Item) → fixes line value waits ≡ Ok more → IsStill lambda more lambda) → IsStill lambda items lambda
    by (Err fault) r f later e rest = absurd (cc)
    by (Ok fix) (Err refused) f later e rest = absurd (cc)
    by (Ok fix) (Ok more) f later e rest =
        let same : fix ∷ more ≡ items = cc in
        subst (λ is. IsStill lambda is lambda) same (both-still lambda lambda lambda (fix ∷ []) more (fix-still value w fix lambda f) (rest more later))

pub fix-items-still : (h : Head) (line : ℕ) (value : Value) (waits : List Wait) (items : List Item) → fix_items h.lambda line value waits ≡ Ok items → IsStill h.lambda items (head_at_fixes h value waits).lambda
unfolding fixes cells_of lambda_following
fix-items-still h line value [] items e = let same : [] ≡ items = cc in subst (λ is. IsStill h.lambda is h.lambda) same (nothing-still h.lambda)
fix-items-still h line (Reg r) (w ∷ waits) items e = absurd (registers-refused (fixes line (Reg r) (w ∷ waits)) refl e)
  where
    registers-refused : (r1 : Result (List Item) Refused) → fixes line (Reg r) (w ∷ waits) ≡ r1 → onto [] r1 ≡ Ok items → ⊥
    registers-refused (Ok more) is e = absurd (cc)
    registers-refused (Err refused) is e = absurd (cc)
fix-items-still h line (Pure v) (w ∷ waits) items e = by (fixes line (Pure v) (w ∷ waits)) refl e
  where
    moved-still : (b : Bool) → (h.lambda == v) ≡ b → IsStill h.lambda (cond b [] (Loc v ∷ [])) v
    moved-still true e = record { none = refl; moved = eqb-true h.lambda v e }
    moved-still false e = record { none = refl; moved = refl }

    by : (r : Result (List Item) Refused) → fixes line (Pure v) (w ∷ waits) ≡ r → onto (moved h.lambda (Pure v)) r ≡ Ok items → IsStill h.lambda items v
    by (Err refused) is e = absurd (cc)
    by (Ok more) is e =
        let same : moved h.lambda (Pure v) ++ more ≡ items = cc in
        subst (λ is. IsStill h.lambda is v) same (both-still h.lambda v v (moved h.lambda (Pure v)) more (moved-still (h.lambda == v) refl) (fixes-still line (Pure v) (w ∷ waits) more v is))
