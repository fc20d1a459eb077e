-- What is read is in the grammar.
use Rattle.std.proofs.Common.{◌≡◌, ℕ, zero, suc, ◌+◌, ◌-◌, ◌*◌, ◌/◌, ◌%◌, ◌^◌, ◌<◌, ◌≤◌, length, List, [], ◌∷◌, ◌++◌, take, drop, arith, refl, sym, ◌∙◌, ap, subst, Ok, Err, Some, None, Bool, true, false, cond, length-append, append_assoc, add-zero, zero-add, length-take, length-drop, Result, Option, nat_lt, ◌==◌, ◌&&◌, rules}
use Rattle.mx_mmo.proofs.Words.{AllByRecursion, take-append-drop, wide_lop, AreBytes, Fits, Spelled, Due, IsWithin, first_item, limit, phase_after, tail_of, tail_after, counted_tail, end_count, ComeFirst, phase_end, Left, AreAt, Walk, after_item, walk_on, walk, items_of, SpellsObject, object_of, object_after, with_tail, Item, Tail, Object, MmoFault, TooLong, Phase, Start, Ended, bytes-after, same-number, nat_tests}
use Rattle.mx_mmo.proofs.Ends.{last-cons, specs-cons}
use Rattle.mx_mmo.proofs.Firsts.{first-within}
use Rattle.mx_mmo.proofs.Phases.{Reaches, placed-items}
use Rattle.mx_mmo.proofs.Told.{Found, Tells, first-tells}

-- these items are first in bytes, and this is left
pub record Stood (phase : Phase) (at : ℕ) (bytes : List ℕ) (items : List Item) (left : Left) : Type 0 where
  pub front : List ℕ
  pub first : ComeFirst phase bytes items front left.rest
  pub fits : AllByRecursion Fits items
  pub end : left.phase ≡ phase_end phase items
  pub place : left.at ≡ at + length front

-- these items are first in bytes, and what follows has a fault
pub record Stopped (phase : Phase) (at : ℕ) (bytes : List ℕ) (items : List Item) (fault : MmoFault) : Type 0 where
  pub front : List ℕ
  pub rest : List ℕ
  pub first : ComeFirst phase bytes items front rest
  pub found : first_item (phase_end phase items) (at + length front) rest ≡ Err fault
  pub each : AreBytes rest

abbrev pub IsSoundWalk : Phase → ℕ → List ℕ → Walk → Type 0
IsSoundWalk phase at bytes (items, Ok left) = Stood phase at bytes items left
IsSoundWalk phase at bytes (items, Err fault) = Stopped phase at bytes items fault

rejoined : (size : ℕ) (bytes front rest : List ℕ) → drop size bytes ≡ front ++ rest → bytes ≡ (take size bytes ++ front) ++ rest
rejoined size bytes front rest e = sym (take-append-drop size bytes) ∙ ap (λ b. take size bytes ++ b) e ∙ sym (append_assoc (take size bytes) front rest)

placed-after : (at size n : ℕ) (bytes front : List ℕ) → size ≤ length bytes → n ≡ at + size + length front → n ≡ at + length (take size bytes ++ front)
placed-after at size n bytes front l e = omega (arith, length-append (take size bytes) front, length-take size bytes)

cons-first : (phase : Phase) (bytes : List ℕ) (item : Item) (size : ℕ) (items : List Item) (front rest : List ℕ) → Found phase bytes item size →
    ComeFirst (phase_after item phase) (drop size bytes) items front rest → ComeFirst phase bytes (item ∷ items) (take size bytes ++ front) rest
cons-first phase bytes item size items front rest f s =
    let ends = rw s.whole at f.ends in
    record {
      whole = rejoined size bytes front rest s.whole;
      spelled = Spelled.next item items (take size bytes) front f.spells s.spelled;
      turn = (f.comes, s.turn);
      specs = specs-cons item rest s.spelled s.specs ends;
      ended = last-cons item rest s.spelled s.ended ends;
    }

after-sound : (phase : Phase) (at : ℕ) (bytes : List ℕ) (item : Item) (size : ℕ) (w : Walk) → Found phase bytes item size → size ≤ length bytes →
    IsSoundWalk (phase_after item phase) (at + size) (drop size bytes) w → IsSoundWalk phase at bytes (after_item item w)
after-sound phase at bytes item size (items, Err fault) f l s = record {
  front = take size bytes ++ s.front;
  rest = s.rest;
  first = cons-first phase bytes item size items s.front s.rest f s.first;
  found = ap (λ (n : ℕ). first_item (phase_end phase (item ∷ items)) n s.rest) (sym (placed-after at size (at + size + length s.front) bytes s.front l refl)) ∙ s.found;
  each = s.each;
}
after-sound phase at bytes item size (items, Ok left) f l s = record {
  front = take size bytes ++ s.front;
  first = cons-first phase bytes item size items s.front left.rest f s.first;
  fits = (f.fits, s.fits);
  end = s.end;
  place = placed-after at size left.at bytes s.front l s.place;
}

none-first : (phase : Phase) (bytes : List ℕ) → ComeFirst phase bytes [] [] bytes
none-first phase bytes = record { whole = refl; spelled = Spelled.none; turn = tt; specs = tt; ended = tt }

nothing-sound : (phase : Phase) (at : ℕ) (bytes : List ℕ) → Stood phase at bytes [] (record { phase = phase; at = at; rest = bytes })
nothing-sound phase at bytes = record { front = []; first = none-first phase bytes; fits = tt; end = refl; place = sym (add-zero at) }

sound-step : (others : Phase → ℕ → List ℕ → Walk) (phase : Phase) (at : ℕ) (bytes : List ℕ) (d : Due) → first_item phase at bytes ≡ d → AreBytes bytes → Tells phase at bytes d →
    IsWithin d (length bytes) → ((p : Phase) (a size : ℕ) → IsSoundWalk p a (drop size bytes) (others p a (drop size bytes))) → IsSoundWalk phase at bytes (walk_on others phase at bytes d)
sound-step others phase at bytes (Ok None) e b t w h = nothing-sound phase at bytes
sound-step others phase at bytes (Err fault) e b t w h = grind (arith, nat_tests, none-first phase bytes, add-zero at)
sound-step others phase at bytes (Ok (Some (item, size))) e b t w h = search (rules, after-sound)

-- this many items, or fewer
pub walk-sound : (n : ℕ) (phase : Phase) (at : ℕ) (bytes : List ℕ) → AreBytes bytes → IsSoundWalk phase at bytes (walk n phase at bytes)
unfolding walk
walk-sound zero phase at bytes b = nothing-sound phase at bytes
walk-sound (suc n) phase at bytes b =
    sound-step (walk n) phase at bytes (first_item phase at bytes) refl b (first-tells phase at bytes b) (first-within phase at bytes)
    (λ p a size. walk-sound n p a (drop size bytes) (bytes-after size bytes b))

pub items-sound : (bytes : List ℕ) → AreBytes bytes → IsSoundWalk Start 0 bytes (items_of Start 0 bytes)
unfolding items_of
items-sound bytes b = walk-sound (length bytes) Start 0 bytes b

-- what follows the items
record Ends (phase : Phase) (at : ℕ) (rest : List ℕ) (tail : Tail) : Type 0 where
  count : ℕ
  ended : phase ≡ Ended
  place : tail.place ≡ at
  counted : length tail.trie ≡ 4 * count
  most : count < 2 ^ 16
  whole : rest ≡ tail.trie ++ wide_lop 12 count

abbrev TailTells : Phase → ℕ → List ℕ → Result Tail MmoFault → Type 0
TailTells phase at rest (Ok tail) = Ends phase at rest tail
TailTells phase at rest (Err fault) = Unit {0}

record TailTold (phase : Phase) (at : ℕ) (rest : List ℕ) (r : Result Tail MmoFault) : Type 0 where
  is : TailTells phase at rest r

cond-tail : (b : Bool) (phase : Phase) (at : ℕ) (rest : List ℕ) (x y : Result Tail MmoFault) → (b ≡ true → TailTold phase at rest x) → (b ≡ false → TailTold phase at rest y) →
    TailTold phase at rest (cond b x y)
cond-tail b phase at rest x y h1 h2 = grind arith

refused-tail : (phase : Phase) (at : ℕ) (rest : List ℕ) (f : MmoFault) → TailTold phase at rest (Err f)
refused-tail phase at rest f = record { is = tt }

-- the lopcode that counts
pub record Counts (last : List ℕ) (count : ℕ) : Type 0 where
  pub is : last ≡ wide_lop 12 count
  pub most : count < 2 ^ 16

pub counts : (last : List ℕ) (count : ℕ) → AreBytes last → Some count ≡ end_count last → Counts last count
counts last count h1 h2 = grind arith

trie-tail : (at count : ℕ) (rest : List ℕ) → AreBytes rest → length rest % 4 ≡ 0 → Some count ≡ end_count (drop (length rest - 4) rest) → count ≡ length rest / 4 - 1 →
    Ends Ended at rest (record { trie = take (length rest - 4) rest; place = at })
trie-tail at count rest b m e c =
    let k = counts (drop (length rest - 4) rest) count (bytes-after (length rest - 4) rest b) e in
    record {
      count = count;
      ended = refl;
      place = refl;
      counted = omega (arith, length-take (length rest - 4) rest, length-drop (length rest - 4) rest);
      most = k.most;
      whole = sym (take-append-drop (length rest - 4) rest) ∙ ap (λ x. take (length rest - 4) rest ++ x) k.is;
    }

counted-tells : (at : ℕ) (rest : List ℕ) (o : Option ℕ) → AreBytes rest → length rest % 4 ≡ 0 → o ≡ end_count (drop (length rest - 4) rest) → TailTold Ended at rest (counted_tail at rest o)
counted-tells at rest o h1 h2 h3 = search (rules, refused-tail, cond-tail, trie-tail, same-number)

after-tells : (phase : Phase) (at : ℕ) (rest : List ℕ) → AreBytes rest → length rest % 4 ≡ 0 → TailTold phase at rest (tail_after phase at rest)
after-tells phase at rest h1 h2 = search (rules, counted-tells, refused-tail)

tail-tells : (phase : Phase) (at : ℕ) (rest : List ℕ) → AreBytes rest → TailTold phase at rest (tail_of phase at rest)
tail-tells phase at rest b = search (rules, cond-tail, after-tells, same-number, refused-tail)

-- an object that is read is one of the grammar
abbrev IsRead : List ℕ → Result Object MmoFault → Type 0
IsRead bytes (Ok object) = SpellsObject bytes object
IsRead bytes (Err fault) = Unit {0}

with-tail-sound : (bytes : List ℕ) (items : List Item) (left : Left) (r : Result Tail MmoFault) → Stood Start 0 bytes items left → TailTells left.phase left.at left.rest r →
    IsRead bytes (with_tail items r)
with-tail-sound bytes items left (Err fault) s t = tt
with-tail-sound bytes items left (Ok tail) s t =
    let reaches : Reaches Start items = record { turn = s.first.turn; end = sym s.end ∙ t.ended } in
    record {
      spelled = record {
        front = s.front;
        count = t.count;
        valid = record { placed = placed-items items reaches; fits = s.fits; specs = s.first.specs };
        spelled = s.first.spelled;
        counted = t.counted;
        most = t.most;
        whole = s.first.whole ∙ ap (λ r. s.front ++ r) t.whole ∙ sym (append_assoc s.front tail.trie (wide_lop 12 t.count));
      };
      place = t.place ∙ s.place ∙ zero-add (length s.front);
    }

-- what is left of bytes are bytes
pub left-bytes : (front rest bytes : List ℕ) → bytes ≡ front ++ rest → AreBytes bytes → AreBytes rest
left-bytes front rest bytes e b = rest-bytes front rest (subst (λ (x : List ℕ). AreBytes x) e b)
  where
    rest-bytes : (front rest : List ℕ) → AreBytes (front ++ rest) → AreBytes rest
    rest-bytes [] rest b = b
    rest-bytes (x ∷ front) rest b = rest-bytes front rest b.1

after-read : (bytes : List ℕ) (w : Walk) → AreBytes bytes → IsSoundWalk Start 0 bytes w → IsRead bytes (object_after w.0 w.1)
after-read bytes w h1 h2 = search (rules, with-tail-sound, tail-tells, left-bytes)

cond-read : (b : Bool) (bytes : List ℕ) (fault : MmoFault) (r : Result Object MmoFault) → IsRead bytes r → IsRead bytes (cond b (Err fault) r)
cond-read b bytes fault r h = grind arith

is-read : (bytes : List ℕ) → AreBytes bytes → IsRead bytes (object_of bytes)
is-read bytes b = cond-read (nat_lt limit (length bytes)) bytes (TooLong limit) _ (after-read bytes (items_of Start 0 bytes) b (items-sound bytes b))

pub object-sound : (bytes : List ℕ) (object : Object) → AreBytes bytes → object_of bytes ≡ Ok object → SpellsObject bytes object
object-sound bytes object b e = subst (λ (r : Result Object MmoFault). IsRead bytes r) e (is-read bytes b)

-- the items of a walk are at their places
at-places : (bytes : List ℕ) (items : List Item) (left : Left) (w : Walk) → IsSoundWalk Start 0 bytes w → w ≡ (items, Ok left) → AreAt bytes items left
at-places bytes items left w s e = grind arith

pub items-at : (count : ℕ) (bytes : List ℕ) (items : List Item) (left : Left) → AreBytes bytes → walk count Start 0 bytes ≡ (items, Ok left) → AreAt bytes items left
items-at count bytes items left b e = at-places bytes items left (walk count Start 0 bytes) (walk-sound count Start 0 bytes b) e
