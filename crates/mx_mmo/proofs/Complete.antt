-- An object is read as its items and its trie.
use Rattle.std.proofs.Common.{◌≡◌, ℕ, ◌+◌, ◌-◌, ◌*◌, ◌/◌, ◌%◌, ◌^◌, ◌<◌, ◌≤◌, length, List, [], ◌∷◌, ◌++◌, arith, refl, sym, ◌∙◌, ap, subst, Ok, Some, None, length-append, append_assoc, append-nil, add-zero, zero-add, ◌==◌}
use Rattle.mx_mmo.proofs.Words.{nat_tests, drop_at, wide_lop, Spells, Spelled, SpecsEnd, first_item, limit, phase_after, tail_of, end_count, ComeInTurn, EndsItem, EndsLast, phase_end, Left, Walk, after_item, items_of, SpellsObject, object_of, object_after, onto, with_tail, Item, Pre, Post, Stab, Object, Phase, Start, Ended, common_steps}
use Rattle.mx_mmo.proofs.Ends.{ends-next}
use Rattle.mx_mmo.proofs.Phases.{Reaches, placed-reaches}
use Rattle.mx_mmo.proofs.Pieces.{not-long}
use Rattle.mx_mmo.proofs.Spelt.{spells-first}
use Rattle.mx_mmo.proofs.Walks.{items-more, items-none}

first-item : (phase : Phase) (at : ℕ) (item : Item) (bytes rest : List ℕ) (w : Walk) → Spells item bytes → ComeInTurn phase (item ∷ []) → EndsItem item rest →
    items_of (phase_after item phase) (at + length bytes) rest ≡ w → items_of phase at (bytes ++ rest) ≡ after_item item w
first-item phase at item bytes rest w sp s e h =
    items-more phase at (bytes ++ rest) item (length bytes) (spells-first phase at rest sp s.0 e)
    ∙ ap (λ b. after_item item (items_of (phase_after item phase) (at + length bytes) b)) (drop_at bytes rest (length bytes) refl) ∙ ap (after_item item) h

specs-rest : (item : Item) (items : List Item) → SpecsEnd (item ∷ items) → SpecsEnd items
specs-rest item items h = grind arith

last-rest : (item : Item) (items : List Item) (rest : List ℕ) → EndsLast (item ∷ items) rest → EndsLast items rest
last-rest item items rest h = grind arith

pub walk-spelled : {items : List Item} {front : List ℕ} (phase : Phase) (at : ℕ) (rest : List ℕ) → Spelled items front → ComeInTurn phase items → SpecsEnd items → EndsLast items rest →
    items_of phase at (front ++ rest) ≡ onto items (items_of (phase_end phase items) (at + length front) rest)
walk-spelled phase at rest Spelled.none s d e = rw add-zero refl
walk-spelled phase at rest (Spelled.next item items bytes more sp others) s d e =
    let there : at + length bytes + length more ≡ at + length (bytes ++ more) = omega (arith, length-append bytes more) in
    ap (items_of phase at) (append_assoc bytes more rest)
    ∙ first-item phase at item bytes (more ++ rest) _ sp (s.0, tt) (ends-next item rest others d e)
    (walk-spelled (phase_after item phase) (at + length bytes) rest others s.1 (specs-rest item items d) (last-rest item items rest e))
    ∙ ap (λ (n : ℕ). onto (item ∷ items) (items_of (phase_end phase (item ∷ items)) n rest)) there

ended-first : (at : ℕ) (bytes : List ℕ) → first_item Ended at bytes ≡ Ok None
ended-first at bytes = grind arith

-- what is left after the items of an object
abbrev pub left_after : ℕ → List ℕ → Left
left_after at rest = record { phase = Ended; at = at; rest = rest }

onto-none : (items : List Item) (left : Left) → onto items ([], Ok left) ≡ (items, Ok left)
onto-none items left = rw append-nil refl

-- the last item of an object is no spec
stab-last : (items : List Item) (g : ℕ) (values rest : List ℕ) → EndsLast (items ++ Post g values ∷ Stab ∷ []) rest
stab-last (item ∷ next ∷ items) g values rest = stab-last (next ∷ items) g values rest
stab-last items g values rest = tt

pub items-read : (items : List Item) (front rest : List ℕ) → Spelled items front → Reaches Start items → SpecsEnd items → EndsLast items rest →
    items_of Start 0 (front ++ rest) ≡ (items, Ok (left_after (length front) rest))
items-read items front rest sp r d e =
    walk-spelled Start 0 rest sp r.turn d e
    ∙ ap (λ (n : ℕ). onto items (items_of (phase_end Start items) n rest)) (zero-add (length front))
    ∙ ap (onto items) (rw r.end (items-none Ended (length front) rest (ended-first (length front) rest))) ∙ onto-none items (left_after (length front) rest)

-- the lopcode that ends an object tells its count
pub end-told : (count : ℕ) → count < 2 ^ 16 → end_count (wide_lop 12 count) ≡ Some count
end-told count m = ap Some (omega arith)

pub tail-read : (at count : ℕ) (trie rest : List ℕ) → length trie ≡ 4 * count → count < 2 ^ 16 → rest ≡ trie ++ wide_lop 12 count →
    tail_of Ended at rest ≡ Ok (record { trie = trie; place = at })
tail-read at count trie rest l m e = grind (arith, common_steps, nat_tests)

same-object : (object : Object) (place : ℕ) → object.tail.place ≡ place →
    ◌≡◌ {A = Object} (record { items = object.items; tail = record { trie = object.tail.trie; place = place } }) object
same-object object place f = rw (← f) refl

pub object-only : (bytes : List ℕ) (object : Object) → SpellsObject bytes object → length bytes ≤ limit → object_of bytes ≡ Ok object
object-only bytes object s l =
    let o = s.spelled in
    let p = o.valid.placed in
    let rest = object.tail.trie ++ wide_lop 12 o.count in
    let ends : EndsLast object.items rest = subst (λ (is : List Item). EndsLast is rest) (sym p.whole) (stab-last (Pre p.tetras ∷ p.middle) p.g p.values rest) in
    not-long bytes l
    ∙ ap (λ (bs : List ℕ). object_after (items_of Start 0 bs).0 (items_of Start 0 bs).1) (o.whole ∙ append_assoc o.front object.tail.trie (wide_lop 12 o.count))
    ∙ ap (λ (w : Walk). object_after w.0 w.1) (items-read object.items o.front rest o.spelled (placed-reaches object.items p) o.valid.specs ends)
    ∙ ap (with_tail object.items) (tail-read (length o.front) o.count object.tail.trie rest o.counted o.most refl)
    ∙ ap Ok (same-object object (length o.front) s.place)
