-- The first fault of bytes is the one that the table tells.
use Rattle.std.proofs.Common.{◌≡◌, ◌≢◌, ℕ, ◌+◌, ◌-◌, ◌*◌, ◌/◌, ◌%◌, ◌^◌, ◌<◌, ◌≤◌, length, List, [], ◌++◌, take, drop, arith, refl, sym, ◌∙◌, ap, subst, Ok, Err, Some, None, Bool, true, false, length-append, length-take, zero-add, Result, Option, ◌==◌, rules}
use Rattle.mx_mmo.proofs.Words.{take-append-drop, drop_at, length-replicate, wide_lop, AreBytes, IsSkipped, Spells, Spelled, limit, tail_of, tail_after, end_count, phase_end, ItemFault, EndsWith, FaultOf, Left, Walk, items_of, object_of, object_after, object_fault, fault_in, onto, Item, Object, MmoFault, NotTetras, BadFields, Truncated, Phase, Start, Middle, Posted, Ended, bytes-after, same-number, other-number, nat_tests, common_steps}
use Rattle.mx_mmo.proofs.Complete.{end-told, items-read, left_after, walk-spelled}
use Rattle.mx_mmo.proofs.Pieces.{not-long}
use Rattle.mx_mmo.proofs.Sound.{Stood, Stopped, IsSoundWalk, left-bytes, items-sound}
use Rattle.mx_mmo.proofs.Spelt.{tetras-length, octas-length}
use Rattle.mx_mmo.proofs.TetraFaults.{fault-first}
use Rattle.mx_mmo.proofs.Told.{fault-found}
use Rattle.mx_mmo.proofs.Walks.{items-fault}

-- items take whole tetras
skipped-tetras : {front : List ℕ} → IsSkipped front → length front % 4 ≡ 0
skipped-tetras IsSkipped.none = refl
skipped-tetras (IsSkipped.other t more p s) = let h = skipped-tetras s in omega arith
skipped-tetras (IsSkipped.quoted t more p s) = let h = skipped-tetras s in omega arith

item-tetras : {item : Item} {bytes : List ℕ} → Spells item bytes → length bytes % 4 ≡ 0
item-tetras h = search (rules, length-append, length-replicate, skipped-tetras, tetras-length, octas-length)

items-tetras : {items : List Item} {front : List ℕ} → Spelled items front → length front % 4 ≡ 0
items-tetras Spelled.none = refl
items-tetras (Spelled.next item items bytes more s others) = search (rules, item-tetras, length-append, items-tetras others)

-- what is told of the items
item-fault-met : (bytes : List ℕ) (fault : MmoFault) → ItemFault bytes fault → (items_of Start 0 bytes).1 ≡ Err fault
item-fault-met bytes fault i =
    let phase = phase_end Start i.items in
    let here : items_of phase (0 + length i.front) i.rest ≡ ([], Err fault) =
    ap (λ (n : ℕ). items_of phase n i.rest) (zero-add (length i.front)) ∙ items-fault phase (length i.front) i.rest fault (fault-first i.has) in
    ap (λ (b : List ℕ). (items_of Start 0 b).1) i.first.whole
    ∙ ap (λ (w : Walk). w.1) (walk-spelled Start 0 i.rest i.first.spelled i.first.turn i.first.specs i.first.ended ∙ ap (onto i.items) here)

stopped-fault : (bytes : List ℕ) (items : List Item) (fault : MmoFault) → Stopped Start 0 bytes items fault → ItemFault bytes fault
stopped-fault bytes items fault s = search (rules, zero-add, fault-found)

ends-met : (bytes trie : List ℕ) (count : ℕ) (e : EndsWith bytes trie count) → items_of Start 0 bytes ≡ (e.items, Ok (left_after (length e.front) (trie ++ wide_lop 12 count)))
ends-met bytes trie count e = search (rules, items-read)

-- where no item has a fault, the fault is what is wrong at the end
abbrev Unmet : List ℕ → Type 0
Unmet bytes = (f : MmoFault) → ¬ ItemFault bytes f

after-fault : (bytes : List ℕ) (fault : MmoFault) (w : Walk) → items_of Start 0 bytes ≡ w → IsSoundWalk Start 0 bytes w → Unmet bytes →
    ((items : List Item) (left : Left) → Stood Start 0 bytes items left → tail_of left.phase left.at left.rest ≡ Err fault) → object_after w.0 w.1 ≡ Err fault
after-fault bytes fault w h1 h2 h3 h4 = search (rules, stopped-fault)

end-fault : (bytes : List ℕ) (fault : MmoFault) → AreBytes bytes → length bytes ≤ limit → Unmet bytes →
    ((items : List Item) (left : Left) → Stood Start 0 bytes items left → tail_of left.phase left.at left.rest ≡ Err fault) → object_of bytes ≡ Err fault
end-fault bytes fault b l n h = not-long bytes l ∙ after-fault bytes fault (items_of Start 0 bytes) refl (items-sound bytes b) n h

sizes : (bytes : List ℕ) (items : List Item) (left : Left) (s : Stood Start 0 bytes items left) → length bytes ≡ length s.front + length left.rest
sizes bytes items left s = ap (λ (b : List ℕ). length b) s.first.whole ∙ length-append s.front left.rest

over-tail : (bytes : List ℕ) (items : List Item) (left : Left) → Stood Start 0 bytes items left → length bytes % 4 ≢ 0 → tail_of left.phase left.at left.rest ≡ Err (NotTetras (4 * (length bytes / 4)))
over-tail bytes items left s h = grind (arith, nat_tests, sizes bytes items left s, items-tetras s.first.spelled)

cut-place : (bytes : List ℕ) (items : List Item) (left : Left) → Stood Start 0 bytes items left → left.at + length left.rest ≡ length bytes
cut-place bytes items left s = omega (arith, sizes bytes items left s, s.place)

cut-after : (phase : Phase) (at : ℕ) (rest : List ℕ) → (phase ≡ Ended → end_count (drop (length rest - 4) rest) ≡ None) → tail_after phase at rest ≡ Err (Truncated (at + length rest))
cut-after phase at rest h = grind arith

-- the lopcode `end` that is last
ends-with : (bytes : List ℕ) (items : List Item) (left : Left) (s : Stood Start 0 bytes items left) (count : ℕ) → AreBytes left.rest → left.phase ≡ Ended →
    end_count (drop (length left.rest - 4) left.rest) ≡ Some count → EndsWith bytes (take (length left.rest - 4) left.rest) count
ends-with bytes items left s count b p e =
    grind (arith, nat_tests, bytes-after (length left.rest - 4) left.rest b, take-append-drop (length left.rest - 4) left.rest)

no-count : (o : Option ℕ) → ((count : ℕ) → ¬ (o ≡ Some count)) → o ≡ None
no-count o h = grind arith

cut-tail : (bytes : List ℕ) (items : List Item) (left : Left) → Stood Start 0 bytes items left → AreBytes bytes → length bytes % 4 ≡ 0 → ((trie : List ℕ) (count : ℕ) → ¬ EndsWith bytes trie count) →
    tail_of left.phase left.at left.rest ≡ Err (Truncated (length bytes))
cut-tail bytes items left s b h n =
    let size = sizes bytes items left s in
    let front = items-tetras s.first.spelled in
    let whole : length left.rest % 4 ≡ 0 = omega (arith, size, front, h) in
    let each = left-bytes s.front left.rest bytes s.first.whole b in
    rw whole (cut-after left.phase left.at left.rest (λ p. no-count _ (λ count e. n _ count (ends-with bytes items left s count each p e)))
    ∙ ap (λ (k : ℕ). Err (Truncated k)) (cut-place bytes items left s))

wrong-tail : (at count : ℕ) (trie rest : List ℕ) → length trie % 4 ≡ 0 → length trie ≢ 4 * count → count < 2 ^ 16 → rest ≡ trie ++ wide_lop 12 count →
    tail_of Ended at rest ≡ Err (BadFields (at + length rest - 4))
wrong-tail at count trie rest w n m e = grind (arith, common_steps, nat_tests)

wrong-count : (bytes trie : List ℕ) (count : ℕ) → length bytes ≤ limit → EndsWith bytes trie count → length trie % 4 ≡ 0 → length trie ≢ 4 * count → object_of bytes ≡ Err (BadFields (length bytes - 4))
wrong-count bytes trie count l e w n = search (rules, length-append, not-long, ends-met, wrong-tail)

told : {bytes : List ℕ} {fault : MmoFault} → AreBytes bytes → length bytes ≤ limit → FaultOf bytes fault → object_of bytes ≡ Err fault
told b l (FaultOf.of_item bytes fault i) = not-long bytes l ∙ ap (object_after (items_of Start 0 bytes).0) (item-fault-met bytes fault i)
told b l (FaultOf.left_over bytes n h) = end-fault bytes _ b l n (λ items left s. over-tail bytes items left s h)
told b l (FaultOf.cut_off bytes n h e) = end-fault bytes _ b l n (λ items left s. cut-tail bytes items left s b h e)
told b l (FaultOf.counted_wrong bytes trie count e w n) = wrong-count bytes trie count l e w n

pub table-only : (bytes : List ℕ) (fault : MmoFault) → AreBytes bytes → length bytes ≤ limit → FaultOf bytes fault → object_fault bytes ≡ Some fault
table-only bytes fault b l f = ap fault_in (told b l f)

-- each fault is in the table
record InTable (bytes : List ℕ) : Type 0 where
  fault : MmoFault
  is : FaultOf bytes fault

no-fault-met : (bytes : List ℕ) (items : List Item) (left : Left) → items_of Start 0 bytes ≡ (items, Ok left) → Unmet bytes
no-fault-met bytes items left e f i = let m = item-fault-met bytes f i in let k = ap (λ (w : Walk). w.1) e in cc

not-ended : (bytes : List ℕ) (items : List Item) (left : Left) → items_of Start 0 bytes ≡ (items, Ok left) → left.phase ≢ Ended → (trie : List ℕ) (count : ℕ) → ¬ EndsWith bytes trie count
not-ended bytes items left e n trie count w = grind (arith, nat_tests, ends-met bytes trie count w)

abbrev rest_in : Result Left MmoFault → List ℕ
rest_in (Ok left) = left.rest
rest_in (Err f) = []

not-counted : (bytes : List ℕ) (items : List Item) (left : Left) → items_of Start 0 bytes ≡ (items, Ok left) → end_count (drop (length left.rest - 4) left.rest) ≡ None →
    (trie : List ℕ) (count : ℕ) → ¬ EndsWith bytes trie count
not-counted bytes items left e n trie count w =
    let same : (items, Ok left) ≡ (w.items, Ok (left_after (length w.front) (trie ++ wide_lop 12 count))) = sym e ∙ ends-met bytes trie count w in
    let rest : left.rest ≡ trie ++ wide_lop 12 count = ap (λ (v : Walk). rest_in v.1) same in
    let size : length left.rest ≡ length trie + 4 = ap (λ (x : List ℕ). length x) rest ∙ length-append trie (wide_lop 12 count) in
    let less : length left.rest - 4 ≡ length trie = omega (arith, size) in
    let last : drop (length left.rest - 4) left.rest ≡ wide_lop 12 count =
    ap (λ (n : ℕ). drop n left.rest) less ∙ ap (drop (length trie)) rest ∙ drop_at trie (wide_lop 12 count) (length trie) refl in
    let some : end_count (drop (length left.rest - 4) left.rest) ≡ Some count = ap end_count last ∙ end-told count w.most in
    cc (some, n)

by-count : (bytes : List ℕ) (items : List Item) (left : Left) (s : Stood Start 0 bytes items left) (fault : MmoFault) (count : ℕ) (test : Bool) → AreBytes bytes → length bytes ≤ limit →
    items_of Start 0 bytes ≡ (items, Ok left) → length bytes % 4 ≡ 0 → left.phase ≡ Ended → end_count (drop (length left.rest - 4) left.rest) ≡ Some count →
    (length (take (length left.rest - 4) left.rest) == 4 * count) ≡ test → object_of bytes ≡ Err fault → InTable bytes
by-count bytes items left s fault count true b l e h p o t f = grind (arith, common_steps, nat_tests)
by-count bytes items left s fault count false b l e h p o t f =
    let trie = take (length left.rest - 4) left.rest in
    let size = sizes bytes items left s in
    let front = items-tetras s.first.spelled in
    let whole : length trie % 4 ≡ 0 = omega (arith, size, front, h, length-take (length left.rest - 4) left.rest) in
    let w = ends-with bytes items left s count (left-bytes s.front left.rest bytes s.first.whole b) p o in
    record { fault = _; is = FaultOf.counted_wrong bytes trie count w whole (other-number (length trie) (4 * count) t) }

by-end : (bytes : List ℕ) (items : List Item) (left : Left) (s : Stood Start 0 bytes items left) (fault : MmoFault) (phase : Phase) (o : Option ℕ) → AreBytes bytes → length bytes ≤ limit →
    items_of Start 0 bytes ≡ (items, Ok left) → length bytes % 4 ≡ 0 → left.phase ≡ phase → end_count (drop (length left.rest - 4) left.rest) ≡ o → object_of bytes ≡ Err fault → InTable bytes
by-end bytes items left s fault Ended (Some count) b l e h p o f =
    by-count bytes items left s fault count (length (take (length left.rest - 4) left.rest) == 4 * count) b l e h p o refl f
by-end bytes items left s fault Ended None b l e h p o f =
    record { fault = _; is = FaultOf.cut_off bytes (no-fault-met bytes items left e) h (not-counted bytes items left e o) }
by-end bytes items left s fault Start o b l e h p c f =
    record { fault = _; is = FaultOf.cut_off bytes (no-fault-met bytes items left e) h (not-ended bytes items left e (λ q. cc (p, q))) }
by-end bytes items left s fault Middle o b l e h p c f =
    record { fault = _; is = FaultOf.cut_off bytes (no-fault-met bytes items left e) h (not-ended bytes items left e (λ q. cc (p, q))) }
by-end bytes items left s fault Posted o b l e h p c f =
    record { fault = _; is = FaultOf.cut_off bytes (no-fault-met bytes items left e) h (not-ended bytes items left e (λ q. cc (p, q))) }

by-length : (bytes : List ℕ) (items : List Item) (left : Left) (s : Stood Start 0 bytes items left) (fault : MmoFault) (test : Bool) → AreBytes bytes → length bytes ≤ limit →
    items_of Start 0 bytes ≡ (items, Ok left) → (length bytes % 4 == 0) ≡ test → object_of bytes ≡ Err fault → InTable bytes
by-length bytes items left s fault true b l e h f = by-end bytes items left s fault left.phase _ b l e (same-number (length bytes % 4) 0 h) refl refl f
by-length bytes items left s fault false b l e h f =
    record { fault = _; is = FaultOf.left_over bytes (no-fault-met bytes items left e) (other-number (length bytes % 4) 0 h) }

by-walk : (bytes : List ℕ) (w : Walk) (fault : MmoFault) → AreBytes bytes → length bytes ≤ limit → items_of Start 0 bytes ≡ w → IsSoundWalk Start 0 bytes w → object_of bytes ≡ Err fault → InTable bytes
by-walk bytes (items, Err other) fault b l e s f = record { fault = other; is = FaultOf.of_item bytes other (stopped-fault bytes items other s) }
by-walk bytes (items, Ok left) fault b l e s f = by-length bytes items left s fault (length bytes % 4 == 0) b l e refl f

same-fault : (bytes : List ℕ) (f g : MmoFault) → object_of bytes ≡ Err f → object_of bytes ≡ Err g → g ≡ f
same-fault bytes f g p q = let e : ◌≡◌ {A = Result Object MmoFault} (Err g) (Err f) = sym q ∙ p in cc

refused : (r : Result Object MmoFault) (fault : MmoFault) → fault_in r ≡ Some fault → r ≡ Err fault
refused r fault h = grind arith

pub table-found : (bytes : List ℕ) (fault : MmoFault) → AreBytes bytes → length bytes ≤ limit → object_fault bytes ≡ Some fault → FaultOf bytes fault
table-found bytes fault b l e =
    let r = refused (object_of bytes) fault e in
    let t = by-walk bytes (items_of Start 0 bytes) fault b l refl (items-sound bytes b) r in
    subst (λ (f : MmoFault). FaultOf bytes f) (same-fault bytes fault t.fault r (told b l t.is)) t.is
