-- The names of the symbols that were found.
use Rattle.std.proofs.Common.{◌≡◌, ◌≢◌, ℕ, suc, ◌+◌, ◌-◌, ◌<◌, ◌≤◌, Bool, true, false, not, ◌||◌, List, [], ◌∷◌, ◌++◌, length, get_or, take, Ordering, Vec, Result, Ok, Err, OnOk, OnErr, arith, refl, sym, ap, ◌∙◌, bytes_eq, rules}
use Rattle.mx_stab.proofs.Words.{AllByRecursion, list_any, nat_cmp, is_eq, is_lt, match_ordering, Less, Equal, Greater, slice_cmp, or_comm, or_assoc, take_at_read, bytes_eq-Decides, Symbol, Pure, AreDistinct, is_above, is_key, HasNames, InByteOrder, is_among}
use Rattle.std.specs.BTreeMap.{is_at}
use Rattle.std.specs.BTreeSet.{BTreeSet, insert_key}
use Rattle.std.proofs.lemmas.Map.Text.{is_eq-slice_cmp}
use Rattle.mx_stab.proofs.Orders.{in-order, in-byte-order, in-order-distinct, order-push}

-- a symbol more at the end
pub among-push : (q : List ℕ) (ss : List Symbol) (s : Symbol) → is_among q (ss ++ s ∷ []) ≡ (is_among q ss || bytes_eq q s.name)
among-push q [] s = or_comm (bytes_eq q s.name) false
among-push q (t ∷ ss) s = ap (λ b. bytes_eq q t.name || b) (among-push q ss s) ∙ sym (or_assoc (bytes_eq q t.name) (is_among q ss) (bytes_eq q s.name))

-- a name that comes before the others of a list has not come before
pub not-among : (found : List Symbol) (new : Symbol) (more : List Symbol) → AreDistinct (found ++ new ∷ more) → is_among new.name found ≡ false
not-among [] new more d = refl
not-among (s ∷ found) new more d = one (bytes_eq new.name s.name) (λ e. apart found d.0 (sym ((bytes_eq-Decides new.name s.name).0 e))) (not-among found new more d.1)
  where
    apart : (found : List Symbol) → AllByRecursion (λ (t : Symbol). s.name ≢ t.name) (found ++ new ∷ more) → s.name ≡ new.name → ⊥
    apart [] h = h.0
    apart (t ∷ found) h = apart found h.1

    one : (b : Bool) → (b ≡ true → ⊥) → is_among new.name found ≡ false → (b || is_among new.name found) ≡ false
    one true h k = absurd (h refl)
    one false h k = k

-- the last symbol decides whether a name is above
pub above-last : (name : List ℕ) (symbols : List Symbol) (last : Symbol) → 1 ≤ length symbols → last ≡ get_or symbols (length symbols - 1) last → is_lt (slice_cmp nat_cmp last.name name) ≡ is_above name symbols
above-last name [] last l e = absurd (omega (arith, l))
above-last name (s ∷ []) last l e = ap (λ (t : Symbol). is_lt (slice_cmp nat_cmp t.name name)) e
above-last name (s ∷ t ∷ more) last l e =
    let place : length (s ∷ t ∷ more) - 1 ≡ suc (length (t ∷ more) - 1) = omega arith in
    above-last name (t ∷ more) last (omega arith) (e ∙ ap (λ i. get_or (s ∷ t ∷ more) i last) place)

-- a name above those of symbols in order stays in order, and is none of them
pub order-above : (symbols : List Symbol) (new : Symbol) → InByteOrder symbols → is_above new.name symbols ≡ true → InByteOrder (symbols ++ new ∷ [])
order-above symbols new o h = in-byte-order (symbols ++ new ∷ []) (order-push symbols new (in-order symbols o) h)

pub above-new : (symbols : List Symbol) (new : Symbol) → InByteOrder symbols → is_above new.name symbols ≡ true → is_among new.name symbols ≡ false
above-new symbols new o h = not-among symbols new [] (in-order-distinct (symbols ++ new ∷ []) (order-push symbols new (in-order symbols o) h))

or-twice : (a b : Bool) → (a || b) ≡ ((a || b) || a)
or-twice a b = grind arith

module _ {K : Type 0} (bytes : K → List ℕ) where
  abbrev pub keyed : List ℕ → List K → Bool
  keyed q ks = list_any (is_at (λ k. slice_cmp nat_cmp q (bytes k))) ks

  same-key : (q : List ℕ) (k x : K) → Equal ≡ slice_cmp nat_cmp (bytes k) (bytes x) → bytes_eq q (bytes k) ≡ is_eq (slice_cmp nat_cmp q (bytes x))
  same-key q k x e =
      let same : bytes k ≡ bytes x = (bytes_eq-Decides (bytes k) (bytes x)).0 (sym (is_eq-slice_cmp (bytes k) (bytes x)) ∙ ap is_eq (sym e)) in
      ap (bytes_eq q) same ∙ sym (is_eq-slice_cmp q (bytes x))

  put-step : (q : List ℕ) (k x : K) (xs : List K) (o : Ordering) → o ≡ slice_cmp nat_cmp (bytes k) (bytes x) →
      keyed q (insert_key (λ a b. slice_cmp nat_cmp (bytes a) (bytes b)) xs k) ≡ (keyed q xs || bytes_eq q (bytes k)) →
      keyed q (match_ordering o (k ∷ x ∷ xs) (x ∷ xs) (x ∷ insert_key (λ a b. slice_cmp nat_cmp (bytes a) (bytes b)) xs k)) ≡ (keyed q (x ∷ xs) || bytes_eq q (bytes k))
  put-step q k x xs Less e h =
      ap (λ b. b || keyed q (x ∷ xs)) (is_eq-slice_cmp q (bytes k)) ∙ or_comm (bytes_eq q (bytes k)) (keyed q (x ∷ xs))
  put-step q k x xs Equal e h =
      or-twice (is_eq (slice_cmp nat_cmp q (bytes x))) (keyed q xs) ∙ ap (λ b. keyed q (x ∷ xs) || b) (sym (same-key q k x e))
  put-step q k x xs Greater e h =
      ap (λ b. is_eq (slice_cmp nat_cmp q (bytes x)) || b) h ∙ sym (or_assoc (is_eq (slice_cmp nat_cmp q (bytes x))) (keyed q xs) (bytes_eq q (bytes k)))

  -- a key more
  pub keyed-more : (q : List ℕ) (k : K) (ks : List K) → keyed q (insert_key (λ a b. slice_cmp nat_cmp (bytes a) (bytes b)) ks k) ≡ (keyed q ks || bytes_eq q (bytes k))
  keyed-more q k [] = or_comm (is_eq (slice_cmp nat_cmp q (bytes k))) false ∙ is_eq-slice_cmp q (bytes k)
  keyed-more q k (x ∷ xs) = put-step q k x xs (slice_cmp nat_cmp (bytes k) (bytes x)) refl (keyed-more q k xs)

-- a name more in a set
pub key-more : {Z : Type 0} (k : Vec ℕ Z) (old new : BTreeSet (Vec ℕ Z)) (name : List ℕ) → new.keys ≡ insert_key (λ a b. slice_cmp nat_cmp a.items b.items) old.keys k → k.items ≡ name →
    (q : List ℕ) → is_key q new ≡ (is_key q old || bytes_eq q name)
key-more k old new name put same q =
    ap (keyed (λ k. k.items) q) put ∙ keyed-more (λ k. k.items) q k old.keys ∙ ap (λ n. is_key q old || bytes_eq q n) same

-- a symbol more, whose name is a key
pub names-more : {Z : Type 0} (old new : BTreeSet (Vec ℕ Z)) (ss more : List Symbol) (s : Symbol) (name : List ℕ) → HasNames old ss → ((q : List ℕ) → is_key q new ≡ (is_key q old || bytes_eq q name)) →
    s.name ≡ name → more ≡ ss ++ s ∷ [] → HasNames new more
names-more old new ss more s name h put same pushed q = search (rules, among-push)

-- the names of one symbol more of a list
pub names-next : {Z : Type 0} (old new : BTreeSet (Vec ℕ Z)) (symbols : List Symbol) (i : ℕ) (s : Symbol) (name : List ℕ) → i < length symbols → s ≡ get_or symbols i s → HasNames old (take i symbols) →
    ((q : List ℕ) → is_key q new ≡ (is_key q old || bytes_eq q name)) → name ≡ s.name → HasNames new (take (i + 1) symbols)
names-next old new symbols i s name l is h put same =
    names-more old new (take i symbols) (take (i + 1) symbols) s name h put (sym same) ((take_at_read symbols i s l).1 ∙ ap (λ t. take i symbols ++ t ∷ []) (sym is))

-- a symbol was added above the others, or none
pub order-added : {E : Type 0} (r : Result (Unit {0}) E) (old new : List Symbol) (s : Symbol) (name : List ℕ) → OnOk r (new ≡ old ++ s ∷ []) → OnErr r (new ≡ old) → InByteOrder old →
    name ≡ s.name → true ≡ is_above name old → InByteOrder new
order-added r old new s name h1 h2 h3 h4 h5 = search (rules, order-above)

pub names-added : {Z E : Type 0} (r : Result (Unit {0}) E) (old new : BTreeSet (Vec ℕ Z)) (ss more : List Symbol) (s : Symbol) (name : List ℕ) → HasNames old ss →
    ((q : List ℕ) → is_key q new ≡ (is_key q old || bytes_eq q name)) → s.name ≡ name → OnOk r (more ≡ ss ++ s ∷ []) → OnOk r (HasNames new more)
names-added (Ok u) old new ss more s name h put same pushed = names-more old new ss more s name h put same pushed
names-added (Err e) old new ss more s name h put same pushed = tt

pub above-not-among : (symbols seen : List Symbol) (name : List ℕ) (above : Bool) → InByteOrder symbols → above ≡ is_above name symbols → above ≡ true → symbols ≡ seen → not above ≡ is_among name seen
above-not-among symbols seen name above o h e s = cc (above-new symbols (record { name = name; value = Pure 0; serial = 0 }) o (sym h ∙ e))
