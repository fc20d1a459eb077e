-- Each byte that the statements of a source place lies in a tetra that their items load.
use Rattle.std.proofs.Common.{◌≡◌, ℕ, ◌+◌, ◌<◌, ◌≤◌, List, [], ◌∷◌, ◌++◌, length, Bool, true, false, cond, arith, refl, sym, ap, ◌∙◌, bit_xor, None, Result, Ok, Err, ◌==◌, ◌||◌}
use Rattle.std.proofs.lemmas.Bool.{eqb-true}
use Rattle.std.proofs.lemmas.Bool.Decides.{nat_tests}
use Rattle.std.specs.List.{AllByRecursion}
use Rattle.std.specs.Result.{result_unwrap_or}
use Rattle.mx_word.specs.declared.waits.Wait.{Wait}
use Rattle.mx_mmo.specs.declared.items.Item.{Item}
unfoldable use Rattle.mx_type.specs.Lambda.{lambda_following}
use Rattle.mx_stmt.specs.declared.placed.Placed.{Placed}
use Rattle.mx_stmt.specs.Placements.{from_place, placed}
use Rattle.mx_asm.specs.declared.head.Head.{Head}
use Rattle.mx_asm.specs.declared.refused.Refused.{Refused}
use Rattle.mx_asm.specs.Emission.{byte_items, fix_items, head_at_fixes, sight_head, sight_items, statement_head, statement_items, with_bytes}
unfoldable use Rattle.mx_asm.specs.Emission.{items_from}
use Rattle.mx_asm.specs.Fixes.{awaited_value, waiting_at}
unfoldable use Rattle.mx_asm.specs.Fixes.{fixes}
unfoldable use Rattle.mx_asm.specs.Image.{placements}
use Rattle.mx_asm.specs.TwoPass.{Sight, piece_with, targets}
unfoldable use Rattle.mx_asm.specs.TwoPass.{pieces_of}
unfoldable use Rattle.mx_asm.specs.Refusal.{first_fault}
use Rattle.mx_asm.specs.Refusal.{refusal_of, statement_fault}
use Rattle.mx_asm.proofs.Words.{NameTable, placed-append}
use Rattle.mx_asm.proofs.EndLaw.{both-none}
use Rattle.mx_asm.proofs.MeaningStatements.{IsSteady, faultless, laid}
use Rattle.mx_asm.proofs.MeaningPlaces.{fixed-to}
use Rattle.mx_view.proofs.LoadedTetras.{IsStill, after-still, leads-still, bytes-at, bytes-after, fix-items-still, loads-append, loads_at}
unfoldable use Rattle.mx_view.specs.Cells.{cells_of}

-- ---- bytes lie nowhere else

placed-elsewhere : (bytes : List ℕ) (start a : ℕ) → (start ≤ a → a < start + length bytes → ⊥) → placed (from_place start bytes) a ≡ 0
placed-elsewhere [] start a out = refl
placed-elsewhere (b ∷ bytes) start a out =
    let other : (a == start) ≡ false = by (a == start) refl in
    ap (λ t. cond t (bit_xor b (placed (from_place (start + 1) bytes) a)) (placed (from_place (start + 1) bytes) a)) other
    ∙ placed-elsewhere bytes (start + 1) a (λ from to. out (omega (arith, from)) (omega (arith, to)))
  where
    by : (t : Bool) → (a == start) ≡ t → t ≡ false
    by true e = let is = eqb-true a start e in absurd (out (omega (arith, is)) (omega (arith, is)))
    by false e = refl

-- ---- a statement

record IsStatement (h : Head) (line : ℕ) (p : Placed) (waits : List Wait) : Type 0 where
  fixes : List Item
  still : IsStill h.lambda fixes (head_at_fixes h (awaited_value p.label) waits).lambda
  whole : result_unwrap_or (statement_items h line p waits) [] ≡ fixes ++ byte_items (head_at_fixes h (awaited_value p.label) waits) line p.start p.bytes

items-given : (h : Head) (line : ℕ) (p : Placed) (waits : List Wait) → refusal_of (fixes line (awaited_value p.label) waits) ≡ None → statement_items h line p waits ≡ Ok (result_unwrap_or (statement_items h line p waits) [])
items-given h line p waits h1 = grind (arith, nat_tests)

statement-is : (h : Head) (line : ℕ) (p : Placed) (waits : List Wait) → refusal_of (fixes line (awaited_value p.label) waits) ≡ None → IsStatement h line p waits
statement-is h line p waits none = by (fix_items h.lambda line (awaited_value p.label) waits) refl (items-given h line p waits none)
  where
    by : (r : Result (List Item) Refused) → fix_items h.lambda line (awaited_value p.label) waits ≡ r →
        with_bytes r (byte_items (head_at_fixes h (awaited_value p.label) waits) line p.start p.bytes) ≡ Ok (result_unwrap_or (statement_items h line p waits) []) → IsStatement h line p waits
    by (Err refused) is e = absurd (cc)
    by (Ok fixed) is e = record {
      fixes = fixed;
      still = fix-items-still h line (awaited_value p.label) waits fixed is;
      whole = let same : fixed ++ byte_items (head_at_fixes h (awaited_value p.label) waits) line p.start p.bytes ≡ result_unwrap_or (statement_items h line p waits) [] = cc in sym same;
    }

neither : (x y : Bool) → (x || y) ≡ false → (x ≡ false) × (y ≡ false)
neither false false e = (refl, refl)
neither x y e = absurd (cc)

-- ---- statements one after another

pub covers : (final : NameTable) (later earlier : List Sight) (h : Head) (a : ℕ) → first_fault earlier later ≡ None → AllByRecursion IsSteady later →
    loads_at h.lambda (items_from h earlier later) a ≡ false → placed (placements (pieces_of final later)) a ≡ 0
unfolding first_fault items_from pieces_of placements
covers final [] earlier h a none steady out = refl
covers final (t ∷ later) earlier h a none steady out =
    let parts = both-none (statement_fault earlier t) (first_fault (earlier ++ t ∷ []) later) none in
    let is = faultless earlier t parts.0 in
    let p : Placed = is.placed_as in
    let line : ℕ = t.statement.line in
    let waits : List Wait = waiting_at earlier t in
    let low = (laid t p is.outlined).low in
    let to = fixed-to (targets final later) t p steady.0 is.outlined in
    let st = statement-is h line p waits is.fixed in
    let front : Head = head_at_fixes h (awaited_value p.label) waits in
    let bytes : List Item = byte_items front line p.start p.bytes in
    let here : List Item = result_unwrap_or (statement_items h line p waits) [] in
    let next : Head = statement_head h line p waits in
    let rest : List Item = items_from next (earlier ++ t ∷ []) later in
    let there : loads_at h.lambda (here ++ rest) a ≡ false =
    ap (λ r. loads_at h.lambda (sight_items h earlier t r ++ items_from (sight_head h earlier t r) (earlier ++ t ∷ []) later) a) (sym is.outlined) ∙ out in
    let apart = neither (loads_at h.lambda here a) (loads_at (lambda_following h.lambda here) rest a) (sym (loads-append h.lambda here rest a) ∙ there) in
    let lambda : lambda_following h.lambda here ≡ next.lambda =
    ap (lambda_following h.lambda) st.whole ∙ leads-still h.lambda front.lambda st.fixes bytes st.still ∙ bytes-after front line p.start p.bytes low in
    let mine : loads_at front.lambda bytes a ≡ false =
    sym (after-still h.lambda front.lambda st.fixes bytes a st.still) ∙ ap (λ is. loads_at h.lambda is a) (sym st.whole) ∙ apart.0 in
    let outside : p.start ≤ a → a < p.start + length p.bytes → ⊥ = λ from end. let found = bytes-at front line p.start p.bytes a low from end in absurd (cc) in
    let none_here : placed (from_place to.after.start to.after.bytes) a ≡ 0 =
    placed-elsewhere to.after.bytes to.after.start a (λ from end. outside (omega (arith, from, to.fixed.start)) (omega (arith, end, to.fixed.start, to.fixed.count))) in
    let none_later : placed (placements (pieces_of final later)) a ≡ 0 =
    covers final later (earlier ++ t ∷ []) next a parts.1 steady.1 (ap (λ n. loads_at n rest a) (sym lambda) ∙ apart.1) in
    ap (λ r. placed (placements (piece_with line r ++ pieces_of final later)) a) to.encoded
    ∙ placed-append (from_place to.after.start to.after.bytes) (placements (pieces_of final later)) a
    ∙ (λ i. bit_xor (none_here i) (none_later i))
