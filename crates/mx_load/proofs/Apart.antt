-- What bytes are loaded to, by reading and by meaning apart.
use Rattle.std.proofs.Common.{◌≡◌, ℕ, zero, suc, ◌+◌, ◌<◌, ◌≤◌, List, [], ◌∷◌, length, drop, Bool, true, false, cond, Some, Ok, Err, refl, sym, ◌∙◌, ap, subst, arith, Result, nat_lt}
use Rattle.std.proofs.lemmas.Bool.Decides.{nat_tests}
use Rattle.mx_mmo.specs.Image.{Image}
use Rattle.mx_load.proofs.Words.{Loading, Meaningless, nothing, take_item, take_items, image_in, meaning, Due, IsWithin, first_item, limit, phase_after, tail_of, Left, Walk, after_item, walk_on, walk, items_of, object_after, object_of, with_tail, Item, MmoFault, MeansNothing, fault_at, Loaded, item_loaded, first_loaded, items_loaded, taken, trie_read, tail_read, with_symbols, whole_loaded, object_loaded, StabFault}
use Rattle.mx_mmo.specs.declared.faults.MmoFault.TheVariants.{TooLong}
use Rattle.mx_mmo.specs.declared.items.Tail.{Tail}
use Rattle.mx_mmo.specs.declared.items.Object.{Object}
use Rattle.mx_mmo.specs.declared.due.Phase.{Phase}
use Rattle.mx_mmo.specs.declared.due.Phase.TheVariants.{Start}
use Rattle.mx_mmo.proofs.Firsts.{first-within}
use Rattle.mx_mmo.proofs.Walks.{shorter}
use Rattle.mx_load.specs.Faults as loads
use Rattle.mx_stab.specs.Reading.{trie_answer}
use Rattle.mx_word.specs.declared.symbols.Symbol.{Symbol}

-- ---- the items

-- from what is before these bytes, this many items mean something, and the next one, which begins at a place, does not
record Stops (s : Loading) (phase : Phase) (at : ℕ) (bytes : List ℕ) (place : ℕ) (e : Meaningless) : Type 0 where
  count : ℕ
  before : Loading
  left : Left
  walked : (walk count phase at bytes).1 ≡ Ok left
  meant : take_items (walk count phase at bytes).0 (Ok s) ≡ Ok before
  next : take_items (walk (suc count) phase at bytes).0 (Ok s) ≡ Err e
  begins : place ≡ left.at

-- what bytes are loaded to, by what their items mean and by how reading ends
abbrev Comes : Loading → Phase → ℕ → List ℕ → Result Loading Meaningless → Result Left MmoFault → Loaded → Type 0
Comes s phase at bytes (Ok t) (Ok left) loaded = loaded ≡ Ok (t, left)
Comes s phase at bytes (Ok t) (Err fault) loaded = loaded ≡ Err (fault_at fault)
Comes s phase at bytes (Err e) end loaded =
    (place : ℕ) × Stops s phase at bytes place e × (loaded ≡ Err (place, loads.number_of (loads.fault_of e)))

-- no item follows one that has no meaning
take-fault : (items : List Item) (e : Meaningless) → take_items items (Err e) ≡ Err e
take-fault [] e = refl
take-fault (item ∷ items) e = refl

walk-more : (n : ℕ) (phase : Phase) (at : ℕ) (bytes : List ℕ) (item : Item) (size : ℕ) → first_item phase at bytes ≡ Ok (Some (item, size)) →
    walk (suc n) phase at bytes ≡ after_item item (walk n (phase_after item phase) (at + size) (drop size bytes))
unfolding walk
walk-more n phase at bytes item size d = ap (walk_on (walk n) phase at bytes) d

-- the first item means nothing
stops-here : (s : Loading) (phase : Phase) (at : ℕ) (bytes : List ℕ) (item : Item) (size : ℕ) (e : Meaningless) → first_item phase at bytes ≡ Ok (Some (item, size)) →
    take_item s item ≡ Err e → Stops s phase at bytes at e
unfolding walk
stops-here s phase at bytes item size e d h = record {
  count = zero;
  before = s;
  left = record { phase = phase; at = at; rest = bytes };
  walked = refl;
  meant = refl;
  next = ap (λ (w : Walk). take_items w.0 (Ok s)) (walk-more zero phase at bytes item size d) ∙ ap (take_items []) h;
  begins = refl;
}

-- an item is before those that are loaded
more-comes : (s u : Loading) (phase : Phase) (at : ℕ) (bytes : List ℕ) (item : Item) (size : ℕ) (r : Result Loading Meaningless) (end : Result Left MmoFault) (loaded : Loaded) →
    first_item phase at bytes ≡ Ok (Some (item, size)) → take_item s item ≡ Ok u →
    Comes u (phase_after item phase) (at + size) (drop size bytes) r end loaded → Comes s phase at bytes r end loaded
more-comes s u phase at bytes item size (Err e) end loaded d h (place, stops, c) = (place, more, c)
  where
    step : (n : ℕ) → take_items (walk (suc n) phase at bytes).0 (Ok s) ≡ take_items (walk n (phase_after item phase) (at + size) (drop size bytes)).0 (Ok u)
    step n =
        ap (λ (w : Walk). take_items w.0 (Ok s)) (walk-more n phase at bytes item size d)
        ∙ ap (take_items (walk n (phase_after item phase) (at + size) (drop size bytes)).0) h

    more : Stops s phase at bytes place e
    more = record {
      count = suc stops.count;
      before = stops.before;
      left = stops.left;
      walked = ap (λ (w : Walk). w.1) (walk-more stops.count phase at bytes item size d) ∙ stops.walked;
      meant = step stops.count ∙ stops.meant;
      next = step (suc stops.count) ∙ stops.next;
      begins = stops.begins;
    }
more-comes s u phase at bytes item size (Ok t) end loaded d h c = c

item-comes : (others : Loading → Phase → ℕ → List ℕ → Loaded) (s : Loading) (phase : Phase) (at : ℕ) (bytes : List ℕ) (item : Item) (size : ℕ) (w : Walk) (r : Result Loading Meaningless) →
    first_item phase at bytes ≡ Ok (Some (item, size)) → take_item s item ≡ r →
    ((u : Loading) → Comes u (phase_after item phase) (at + size) (drop size bytes) (take_items w.0 (Ok u)) w.1 (others u (phase_after item phase) (at + size) (drop size bytes))) →
    Comes s phase at bytes (take_items w.0 r) w.1 (item_loaded others phase at bytes item size (taken at r))
item-comes others s phase at bytes item size w (Ok u) d h more =
    more-comes s u phase at bytes item size (take_items w.0 (Ok u)) w.1 (others u (phase_after item phase) (at + size) (drop size bytes)) d h (more u)
item-comes others s phase at bytes item size w (Err e) d h more =
    subst (λ r. Comes s phase at bytes r w.1 (Err (at, loads.number_of (loads.fault_of e)))) (sym (take-fault w.0 e))
    (at, stops-here s phase at bytes item size e d h, refl)

first-comes : (n : ℕ) (s : Loading) (phase : Phase) (at : ℕ) (bytes : List ℕ) (d : Due) → first_item phase at bytes ≡ d → IsWithin d (length bytes) →
    ((u : Loading) (p : Phase) (a : ℕ) (bs : List ℕ) → length bs < length bytes → Comes u p a bs (take_items (walk n p a bs).0 (Ok u)) (walk n p a bs).1 (items_loaded (suc n) u p a bs)) →
    Comes s phase at bytes (take_items (walk_on (walk n) phase at bytes d).0 (Ok s)) (walk_on (walk n) phase at bytes d).1 (first_loaded (items_loaded (suc n)) s phase at bytes d)
first-comes n s phase at bytes (Ok (Some (item, size))) f w more =
    item-comes (items_loaded (suc n)) s phase at bytes item size (walk n (phase_after item phase) (at + size) (drop size bytes)) (take_item s item) f refl
    (λ u. more u (phase_after item phase) (at + size) (drop size bytes) (shorter size bytes w.0 w.1))
first-comes n s phase at bytes d f w more = refl

-- as many steps as bytes, and one more, load all items
comes-along : (n : ℕ) (s : Loading) (phase : Phase) (at : ℕ) (bytes : List ℕ) → length bytes ≤ n →
    Comes s phase at bytes (take_items (walk n phase at bytes).0 (Ok s)) (walk n phase at bytes).1 (items_loaded (suc n) s phase at bytes)
unfolding walk items_loaded
comes-along zero s phase at [] l = refl
comes-along zero s phase at (b ∷ bs) l = absurd (omega arith)
comes-along (suc n) s phase at bytes l =
    first-comes n s phase at bytes (first_item phase at bytes) refl (first-within phase at bytes) (λ u p a bs k. comes-along n u p a bs (omega arith))

all-come : (s : Loading) (phase : Phase) (at : ℕ) (bytes : List ℕ) →
    Comes s phase at bytes (take_items (items_of phase at bytes).0 (Ok s)) (items_of phase at bytes).1 (items_loaded (length bytes + 1) s phase at bytes)
unfolding items_of
all-come s phase at bytes =
    let more : suc (length bytes) ≡ length bytes + 1 = omega arith in
    subst (λ n. Comes s phase at bytes (take_items (walk (length bytes) phase at bytes).0 (Ok s)) (walk (length bytes) phase at bytes).1 (items_loaded n s phase at bytes)) more
    (comes-along (length bytes) s phase at bytes (omega arith))

-- ---- objects

-- what an object is loaded to, by what its items mean and by what was read
abbrev Gives : List ℕ → Result Loading Meaningless → Result Object MmoFault → Result (Image × List Symbol) (ℕ × ℕ) → Type 0
Gives bytes (Ok t) (Ok object) image = image ≡ with_symbols t.image (trie_read object.tail.place (trie_answer object.tail.trie))
Gives bytes (Ok t) (Err fault) image = image ≡ Err (fault_at fault)
Gives bytes (Err e) object image =
    (place : ℕ) × MeansNothing bytes place e × (image ≡ Err (place, loads.number_of (loads.fault_of e)))

abbrev Holds : List Item → Result Object MmoFault → Type 0
Holds items (Ok object) = object.items ≡ items
Holds items (Err fault) = Unit {0}

tail-holds : (items : List Item) (tail : Result Tail MmoFault) → Holds items (with_tail items tail)
tail-holds items (Ok tail) = refl
tail-holds items (Err fault) = tt

whole-holds : (items : List Item) (end : Result Left MmoFault) → Holds items (object_after items end)
whole-holds items (Ok left) = tail-holds items (tail_of left.phase left.at left.rest)
whole-holds items (Err fault) = tt

tail-gives : (bytes : List ℕ) (items : List Item) (t : Loading) (tail : Result Tail MmoFault) → Gives bytes (Ok t) (with_tail items tail) (with_symbols t.image (tail_read tail))
tail-gives bytes items t (Ok tail) = refl
tail-gives bytes items t (Err fault) = refl

means-nothing : (bytes : List ℕ) (place : ℕ) (e : Meaningless) → Stops nothing Start 0 bytes place e → MeansNothing bytes place e
means-nothing bytes place e s = record {
  count = s.count;
  before = s.before;
  left = s.left;
  walked = s.walked;
  meant = s.meant;
  next = s.next;
  begins = s.begins;
}

whole-gives : (bytes : List ℕ) (items : List Item) (r : Result Loading Meaningless) (end : Result Left MmoFault) (loaded : Loaded) →
    Comes nothing Start 0 bytes r end loaded → Gives bytes r (object_after items end) (whole_loaded loaded)
whole-gives bytes items (Ok t) (Ok left) loaded c =
    subst (λ l. Gives bytes (Ok t) (object_after items (Ok left)) (whole_loaded l)) (sym c) (tail-gives bytes items t (tail_of left.phase left.at left.rest))
whole-gives bytes items (Ok t) (Err fault) loaded c = ap whole_loaded c
whole-gives bytes items (Err e) end loaded (place, stops, c) = (place, means-nothing bytes place e stops, ap whole_loaded c)

-- bytes are too many, or reading and meaning apart tell what they are loaded to
record Told (bytes : List ℕ) (object : Result Object MmoFault) (image : Result (Image × List Symbol) (ℕ × ℕ)) : Type 0 where
  holds : Holds (items_of Start 0 bytes).0 object
  gives : Gives bytes (take_items (items_of Start 0 bytes).0 (Ok nothing)) object image

abbrev Either : List ℕ → Bool → Result Object MmoFault → Result (Image × List Symbol) (ℕ × ℕ) → Type 0
Either bytes true object image = (object ≡ Err (TooLong limit)) × (image ≡ Err (fault_at (TooLong limit)))
Either bytes false object image = Told bytes object image

either : (bytes : List ℕ) → Either bytes (nat_lt limit (length bytes)) (object_of bytes) (object_loaded bytes)
either bytes = on (nat_lt limit (length bytes))
  where
    w : Walk
    w = items_of Start 0 bytes

    loaded : Loaded
    loaded = items_loaded (length bytes + 1) nothing Start 0 bytes

    on : (far : Bool) → Either bytes far (cond far (Err (TooLong limit)) (object_after w.0 w.1)) (cond far (Err (fault_at (TooLong limit))) (whole_loaded loaded))
    on true = (refl, refl)
    on false = record { holds = whole-holds w.0 w.1; gives = whole-gives bytes w.0 (take_items w.0 (Ok nothing)) w.1 loaded (all-come nothing Start 0 bytes) }

near : (bytes : List ℕ) → length bytes ≤ limit → Told bytes (object_of bytes) (object_loaded bytes)
near bytes l =
    let is : nat_lt limit (length bytes) ≡ false = grind (arith, nat_tests) in
    subst (λ far. Either bytes far (object_of bytes) (object_loaded bytes)) is (either bytes)

-- ---- the law

-- what is loaded of an object whose items mean an image
abbrev pub loaded_with : Image → Object → Result (Image × List Symbol) (ℕ × ℕ)
loaded_with m object = with_symbols m (trie_read object.tail.place (trie_answer object.tail.trie))

loaded-by : (bytes : List ℕ) (object : Object) (m : Image) (r : Result Loading Meaningless) (image : Result (Image × List Symbol) (ℕ × ℕ)) → image_in r ≡ Ok m →
    Gives bytes r (Ok object) image → image ≡ loaded_with m object
loaded-by bytes object m (Err e) image h given = absurd (cc)
loaded-by bytes object m (Ok t) image h given =
    let is : t.image ≡ m = cc in
    given ∙ ap (λ k. loaded_with k object) is

pub object-holds : (bytes : List ℕ) (object : Object) (m : Image) → object_of bytes ≡ Ok object → meaning object.items ≡ Ok m → object_loaded bytes ≡ loaded_with m object
object-holds bytes object m e h = on (nat_lt limit (length bytes)) (either bytes)
  where
    on : (far : Bool) → Either bytes far (object_of bytes) (object_loaded bytes) → object_loaded bytes ≡ loaded_with m object
    on true t = let is = t.0 in absurd (cc)
    on false t =
        let told : Told bytes (Ok object) (object_loaded bytes) = subst (λ o. Told bytes o (object_loaded bytes)) e t in
        loaded-by bytes object m (take_items (items_of Start 0 bytes).0 (Ok nothing)) (object_loaded bytes)
        (ap meaning (sym told.holds) ∙ h) told.gives

abbrev Means : List ℕ → Image → List Symbol → Type 0
Means bytes m symbols = (object : Object) × (object_of bytes ≡ Ok object) × (meaning object.items ≡ Ok m) × (trie_answer object.tail.trie ≡ Ok symbols)

-- an image is loaded with the symbols of the trie
record Tells (t m : Image) (trie : Result (List Symbol) StabFault) (symbols : List Symbol) : Type 0 where
  image : t ≡ m
  tells : trie ≡ Ok symbols

trie-tells : (t m : Image) (place : ℕ) (trie : Result (List Symbol) StabFault) (symbols : List Symbol) →
    with_symbols t (trie_read place trie) ≡ Ok (m, symbols) → Tells t m trie symbols
trie-tells t m place (Ok found) symbols h =
    let loaded : Image × List Symbol = (t, found) in
    let wanted : Image × List Symbol = (m, symbols) in
    let pair : loaded ≡ wanted = cc in
    record { image = ap (λ (p : Image × List Symbol). p.0) pair; tells = ap (λ (p : Image × List Symbol). Ok p.1) pair }
trie-tells t m place (Err fault) symbols h = absurd (cc)

means-by : (bytes : List ℕ) (items : List Item) (m : Image) (symbols : List Symbol) (r : Result Loading Meaningless) (o : Result Object MmoFault) (x : Result (Image × List Symbol) (ℕ × ℕ)) →
    take_items items (Ok nothing) ≡ r → object_of bytes ≡ o → Holds items o → Gives bytes r o x → x ≡ Ok (m, symbols) → Means bytes m symbols
means-by bytes items m symbols (Ok t) (Ok object) x g e holds given h =
    let told = trie-tells t.image m object.tail.place (trie_answer object.tail.trie) symbols (sym given ∙ h) in
    (object, e, ap meaning holds ∙ ap image_in g ∙ ap Ok told.image, told.tells)
means-by bytes items m symbols (Ok t) (Err fault) x g e holds given h = absurd (cc)
means-by bytes items m symbols (Err bad) o x g e holds (place, nowhere, given) h = absurd (cc)

pub loaded-means : (bytes : List ℕ) (m : Image) (symbols : List Symbol) → object_loaded bytes ≡ Ok (m, symbols) → Means bytes m symbols
loaded-means bytes m symbols h = on (nat_lt limit (length bytes)) (either bytes)
  where
    on : (far : Bool) → Either bytes far (object_of bytes) (object_loaded bytes) → Means bytes m symbols
    on true t = let is = t.1 in absurd (cc)
    on false t =
        means-by bytes (items_of Start 0 bytes).0 m symbols (take_items (items_of Start 0 bytes).0 (Ok nothing)) (object_of bytes) (object_loaded bytes) refl refl
        t.holds t.gives h

pub fault-of-reading : (bytes : List ℕ) (s : Loading) (fault : MmoFault) → length bytes ≤ limit → object_of bytes ≡ Err fault →
    take_items (items_of Start 0 bytes).0 (Ok nothing) ≡ Ok s → object_loaded bytes ≡ Err (fault_at fault)
fault-of-reading bytes s fault l e h =
    subst (λ r. Gives bytes r (Err fault) (object_loaded bytes)) h
    (subst (λ o. Gives bytes (take_items (items_of Start 0 bytes).0 (Ok nothing)) o (object_loaded bytes)) e (near bytes l).gives)

pub too-long : (bytes : List ℕ) → limit < length bytes → object_loaded bytes ≡ Err (fault_at (TooLong limit))
too-long bytes l =
    let is : nat_lt limit (length bytes) ≡ true = grind (arith, nat_tests) in
    (subst (λ far. Either bytes far (object_of bytes) (object_loaded bytes)) is (either bytes)).1

pub fault-of-meaning : (bytes : List ℕ) (e : Meaningless) → length bytes ≤ limit → take_items (items_of Start 0 bytes).0 (Ok nothing) ≡ Err e →
    (place : ℕ) × MeansNothing bytes place e × (object_loaded bytes ≡ Err (place, loads.number_of (loads.fault_of e)))
fault-of-meaning bytes e l h = subst (λ r. Gives bytes r (object_of bytes) (object_loaded bytes)) h (near bytes l).gives

pub ruleset apart = (object-holds, loaded-means, fault-of-reading, too-long, fault-of-meaning)
