-- The items of statements are those of an object, and fit its format.
use Rattle.std.proofs.Common.{◌≡◌, ℕ, Bool, cond, nat_lt, List, [], ◌∷◌, ◌++◌, map, Option, Some, Result, Ok, Err, refl, ◌^◌, codes, rules, ◌<◌, ◌≤◌, ◌+◌, length, arith}
use Rattle.mx_asm.proofs.Words.{cond_both, AllByRecursion, result_unwrap_or, all-both, Value, Wait, WaitKind, Item, Load, File, Spec, Pre, Post, Stab, IsMiddle, MayFollow, SpecsEnd, Valid, Answer, Placed, StatementTree, AsmFault, Refused, Head, Sight, outline, relative_fix, pure_fix, fix_of, with_fix, fixes, moved, onto, fix_items, byte_items, with_bytes, sight_items, sight_head, items_from, opening, AreFit, assembled_with, assembled_lines, ltb-false, AreBytes, tetra-sum, tetra_from_bytes, tetras_of, Fits, waiting_at, awaited_value, told_line, head_at_fixes, nat_tests}
use Rattle.mx_asm.specs.Whole.{Line as Text}
use Rattle.mx_mmo.specs.declared.items.Item.TheVariants.{Line}
use Rattle.mx_asm.proofs.Fitting.{fit-none, fit-one, fit-both}
use Rattle.mx_asm.proofs.MeaningStatements.{IsLow, IsWord, waiting-low, IsSteady, laid}
use Rattle.mx_asm.proofs.MeaningBytes.{covered-bytes}

-- ---- the items of a source that is assembled are those of an object

-- an item that a statement may give
abbrev IsInner : Item → Type 0
IsInner (Pre tetras) = ⊥
IsInner (Post g values) = ⊥
IsInner Stab = ⊥
IsInner (Spec n) = ⊥
IsInner _ = Unit {0}

abbrev AreInner : List Item → Type 0
AreInner items = AllByRecursion IsInner items

abbrev IfInner : Result (List Item) Refused → Type 0
IfInner (Err refused) = Unit {0}
IfInner (Ok items) = AreInner items

-- ---- fix records

abbrev IfInnerFix : Result Item AsmFault → Type 0
IfInnerFix (Err fault) = Unit {0}
IfInnerFix (Ok item) = IsInner item

relative-inner : (bits : ℕ) (r : Answer ℕ) → IfInnerFix (relative_fix bits r)
relative-inner bits r = search rules

pure-inner : (place : ℕ) (kind : WaitKind) (value : ℕ) → IfInnerFix (pure_fix place kind value)
pure-inner place kind value = search (rules, relative-inner)

fix-inner : (value : Value) (wait : Wait) → IfInnerFix (fix_of value wait)
fix-inner value wait = search (rules, pure-inner)

with-inner : (line from : ℕ) (r : Result Item AsmFault) (later : Result (List Item) Refused) → IfInnerFix r → IfInner later → IfInner (with_fix line from r later)
with-inner line from r later h g = search rules

fixes-inner : (line : ℕ) (value : Value) (waits : List Wait) → IfInner (fixes line value waits)
unfolding fixes
fixes-inner line value [] = tt
fixes-inner line value (wait ∷ waits) = with-inner line wait.line (fix_of value wait) (fixes line value waits) (fix-inner value wait) (fixes-inner line value waits)

-- ---- a statement

one-inner : (same : Bool) (i : Item) → IsInner i → AreInner (cond same [] (i ∷ []))
one-inner same i h = search rules

moved-inner : (lambda : ℕ) (value : Value) → AreInner (moved lambda value)
moved-inner lambda value = search (rules, one-inner)

onto-inner : (front : List Item) (r : Result (List Item) Refused) → AreInner front → IfInner r → IfInner (onto front r)
onto-inner front r h1 h2 = search (rules, all-both)

fix-items-inner : (lambda line : ℕ) (value : Value) (waits : List Wait) → IfInner (fix_items lambda line value waits)
fix-items-inner lambda line value waits = search (rules, onto-inner, moved-inner, fixes-inner)

loads-inner : (tetras : List ℕ) → AreInner (map Load tetras)
loads-inner [] = tt
loads-inner (t ∷ tetras) = (tt, loads-inner tetras)

bytes-inner : (h : Head) (line start : ℕ) (bytes : List ℕ) → AreInner (byte_items h line start bytes)
bytes-inner h line start bytes = search (rules, all-both, one-inner, loads-inner)

both-inner : (r : Result (List Item) Refused) (items : List Item) → IfInner r → AreInner items → AreInner (result_unwrap_or (with_bytes r items) [])
both-inner r items h1 h2 = search (rules, all-both)

sight-inner : (h : Head) (earlier : List Sight) (s : Sight) (r : Answer Placed) → AreInner (sight_items h earlier s r)
sight-inner h earlier s r = search (rules, both-inner, fix-items-inner, bytes-inner)

items-inner : (later earlier : List Sight) (h : Head) → AreInner (items_from h earlier later)
unfolding items_from
items-inner [] earlier h = tt
items-inner (s ∷ later) earlier h = grind (arith, all-both, sight-inner, items-inner later (earlier ++ s ∷ []) (sight_head h earlier s (outline s)))

-- ---- an object

inner-middle : (i : Item) → IsInner i → IsMiddle i
inner-middle i h = search rules

all-middle : (items : List Item) → AreInner items → AllByRecursion IsMiddle items
all-middle [] h = tt
all-middle (i ∷ items) h = (inner-middle i h.0, all-middle items h.1)

abbrev IsNoSpec : Item → Type 0
IsNoSpec (Spec n) = ⊥
IsNoSpec _ = Unit {0}

inner-no-spec : (i : Item) → IsInner i → IsNoSpec i
inner-no-spec i h = search rules

may-follow : (i j : Item) → IsNoSpec i → MayFollow i j
may-follow i j h = search rules

specs-end : (items : List Item) → AllByRecursion IsNoSpec items → SpecsEnd items
specs-end (i ∷ j ∷ more) h = (may-follow i j h.0, specs-end (j ∷ more) h.1)
specs-end items h = tt

no-specs : (items end : List Item) → AreInner items → AllByRecursion IsNoSpec end → AllByRecursion IsNoSpec (items ++ end)
no-specs [] end h g = g
no-specs (i ∷ items) end h g = (inner-no-spec i h.0, no-specs items end h.1 g)

object-valid : (items : List Item) (g : ℕ) (values : List ℕ) → AreInner items → AreFit (opening ++ items ++ (Post g values ∷ Stab ∷ [])) → Valid (opening ++ items ++ (Post g values ∷ Stab ∷ []))
unfolding AreFit
object-valid items g values inner fit = record {
  placed = record {
    tetras = 0 ∷ [];
    middle = File 0 (Some (codes ".mms")) ∷ items;
    g = g;
    values = values;
    whole = refl;
    between = (tt, all-middle items inner);
  };
  fits = fit;
  specs = specs-end (opening ++ items ++ (Post g values ∷ Stab ∷ [])) (tt, (tt, no-specs items (Post g values ∷ Stab ∷ []) inner (tt, (tt, tt))));
}

whole-valid : (statements : List StatementTree) (items : List Item) (r : Option Refused) (out : List Item) (trie : List ℕ) → AreInner items → (out, Ok trie) ≡ assembled_with statements items r → AreFit out → Valid out
whole-valid statements items r out trie h1 h2 h3 = search (rules, object-valid)

pub assembled-valid : (lines : List Text) (out : List Item) (trie : List ℕ) → (out, Ok trie) ≡ assembled_lines lines → AreFit out → Valid out
assembled-valid lines out trie is fit = search (rules, whole-valid, items-inner)

-- ---- the items of statements fit the object format

-- ---- one record

abbrev IfFits : Result Item AsmFault → Type 0
IfFits (Err fault) = Unit {0}
IfFits (Ok item) = Fits item

fix-fits : (value : Value) (wait : Wait) → IsLow wait → IfFits (fix_of value wait)
fix-fits value wait h = grind (arith, nat_tests)

-- ---- the records of a label

abbrev IfFit : Result (List Item) Refused → Type 0
IfFit (Err refused) = Unit {0}
IfFit (Ok items) = AreFit items

with-fit : (line from : ℕ) (r : Result Item AsmFault) (later : Result (List Item) Refused) → IfFits r → IfFit later → IfFit (with_fix line from r later)
with-fit line from (Ok fix) (Ok fixes) h g = fit-both (fix ∷ []) fixes (fit-one fix h) g
with-fit line from r later h g = tt

fixes-fit : (line : ℕ) (value : Value) (waits : List Wait) → AllByRecursion IsLow waits → IfFit (fixes line value waits)
unfolding fixes
fixes-fit line value [] low = fit-none
fixes-fit line value (wait ∷ waits) low = with-fit line wait.line (fix_of value wait) (fixes line value waits) (fix-fits value wait low.0) (fixes-fit line value waits low.1)

one-fit : (same : Bool) (i : Item) → Fits i → AreFit (cond same [] (i ∷ []))
one-fit same i h = search (rules, fit-none, fit-one)

moved-fit : (lambda : ℕ) (value : Value) → IsWord value → AreFit (moved lambda value)
moved-fit lambda value h = search (rules, fit-none, one-fit)

onto-fit : (front : List Item) (r : Result (List Item) Refused) → AreFit front → IfFit r → IfFit (onto front r)
onto-fit front r h1 h2 = search (rules, fit-both)

fix-items-fit : (lambda line : ℕ) (value : Value) (waits : List Wait) → IsWord value → AllByRecursion IsLow waits → IfFit (fix_items lambda line value waits)
fix-items-fit lambda line value waits h1 h2 = search (rules, fit-none, onto-fit, moved-fit, fixes-fit)

-- ---- bytes

four-fit : (a b c d : ℕ) → a < 2 ^ 8 → b < 2 ^ 8 → c < 2 ^ 8 → d < 2 ^ 8 → tetra_from_bytes (a ∷ b ∷ c ∷ d ∷ []) < 2 ^ 32
four-fit a b c d p q r s = let sum = tetra-sum a b c d in omega (arith, sum, p, q, r, s)

tetras-fit : (bytes : List ℕ) → AreBytes bytes → AreFit (map Load (tetras_of bytes))
tetras-fit (a ∷ b ∷ c ∷ d ∷ more) h =
    let t : ℕ = tetra_from_bytes (a ∷ b ∷ c ∷ d ∷ []) in
    fit-both (Load t ∷ []) (map Load (tetras_of more)) (fit-one (Load t) (four-fit a b c d h.0 h.1.0 h.1.1.0 h.1.1.1.0)) (tetras-fit more h.1.1.1.1)
tetras-fit bytes h = fit-none

told-fits : (line : ℕ) → Fits (Line (told_line line))
told-fits line = cond_both (nat_lt 65535 line) _ _ (λ x. Fits (Line x)) (λ _. omega arith) (λ e. let few = ltb-false 65535 line e in omega (arith, few))

bytes-fit : (h : Head) (line start : ℕ) (bytes : List ℕ) → (0 < length bytes → start + length bytes ≤ 0x6000_0000_0000_0000) → AreBytes bytes → AreFit (byte_items h line start bytes)
bytes-fit h line start bytes h1 h2 = search (rules, fit-none, fit-both, one-fit, told-fits, tetras-fit, covered-bytes)

-- ---- statements

both-fit : (r : Result (List Item) Refused) (items : List Item) → IfFit r → AreFit items → AreFit (result_unwrap_or (with_bytes r items) [])
both-fit r items h1 h2 = search (rules, fit-none, fit-both)

sight-fit : (h : Head) (earlier : List Sight) (s : Sight) (r : Answer Placed) → outline s ≡ r → IsSteady s → AreFit (sight_items h earlier s r)
sight-fit h earlier s (Err fault) is steady = fit-none
sight-fit h earlier s (Ok p) is steady =
    let value : Value = awaited_value p.label in
    let waits : List Wait = waiting_at earlier s in
    let lay = laid s p is in
    both-fit (fix_items h.lambda s.statement.line value waits) (byte_items (head_at_fixes h value waits) s.statement.line p.start p.bytes)
    (fix-items-fit h.lambda s.statement.line value waits (steady.word p is) (waiting-low earlier s))
    (bytes-fit (head_at_fixes h value waits) s.statement.line p.start p.bytes lay.low lay.bytes)

-- the items of statements whose values are octas
pub items-fit : (later earlier : List Sight) (h : Head) → AllByRecursion IsSteady later → AreFit (items_from h earlier later)
unfolding items_from
items-fit [] earlier h steady = fit-none
items-fit (s ∷ later) earlier h steady = grind (arith, fit-both, sight-fit, items-fit later (earlier ++ s ∷ []) (sight_head h earlier s (outline s)) steady.1)
