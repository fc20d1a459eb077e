-- Octas that are stored in turn, and a pool that goes too far.
use Rattle.std.proofs.Common.{◌≡◌, ◌≤◌, ◌<◌, ℕ, zero, suc, ◌+◌, ◌-◌, ◌*◌, ◌/◌, ◌^◌, ◌||◌, Bool, true, false, nat_lt, nat_le, List, [], ◌∷◌, ◌++◌, length, get_or, take, drop, replicate, Option, None, Some, Result, Ok, Err, cond, arith, length-append, refl, sym, ap, ◌∙◌}
use Rattle.std.specs.List.{flat_map}
use Rattle.std.proofs.lemmas.Bool.Decides.{nat_tests}
use Rattle.std.proofs.lemmas.Grind.{common_steps}
use Rattle.std.proofs.lemmas.List.{length-replicate}
use Rattle.mx_core.specs.Way.Changed.{left_changed}
use Rattle.mx_core.specs.UserChanges.{octa_changed}
use Rattle.mx_core.specs.declared.changes.SetFault.{SetFault}
use Rattle.mx_core.specs.declared.changes.SetFault.TheVariants.{NotAllowed}
use Rattle.mx_start.specs.Pool.{pool_list}
use Rattle.mx_mmo.specs.Reading.{octas_of}
use Rattle.mx_start.specs.Start.{with_octas, pool, pool_octas, text_size, text_octas, texts_end, text_addresses, first_text}
use Rattle.mx_start.specs.Started.{stored}
use Rattle.mx_core.specs.State.{State, with_octa, is_negative, is_page_refused}

-- OCTAS IN TURN

next-stored : (s : State) (a x : ℕ) (xs : List ℕ) (t : State) → stored s a x ≡ Some t → with_octas s a (x ∷ xs) ≡ with_octas t (a + 8) xs
unfolding with_octas stored
next-stored s a x xs t h = by (is_negative a || is_page_refused s a) refl
  where
    by : (b : Bool) → (is_negative a || is_page_refused s a) ≡ b → with_octas s a (x ∷ xs) ≡ with_octas t (a + 8) xs
    by true e = (let none : ◌≡◌ {A = Option State} None (Some t) = sym (ap (λ c. cond c None (Some (with_octa s a x))) e) ∙ h in absurd (cc none))
    by false e =
        let some : ◌≡◌ {A = Option State} (Some (with_octa s a x)) (Some t) = sym (ap (λ c. cond c None (Some (with_octa s a x))) e) ∙ h in
        let same : with_octa s a x ≡ t = cc some in
        ap (λ c. cond c None (with_octas (with_octa s a x) (a + 8) xs)) e ∙ ap (λ u. with_octas u (a + 8) xs) same

next-refused : (s : State) (a x : ℕ) (xs : List ℕ) → stored s a x ≡ None → with_octas s a (x ∷ xs) ≡ None
unfolding with_octas stored
next-refused s a x xs h = by (is_negative a || is_page_refused s a) refl
  where
    by : (b : Bool) → (is_negative a || is_page_refused s a) ≡ b → with_octas s a (x ∷ xs) ≡ None
    by true e = ap (λ c. cond c None (with_octas (with_octa s a x) (a + 8) xs)) e
    by false e = (let none : ◌≡◌ {A = Option State} (Some (with_octa s a x)) None = sym (ap (λ c. cond c None (Some (with_octa s a x))) e) ∙ h in absurd (cc none))

take-rest : (more : List ℕ) (n : ℕ) → n ≡ length more + 1 → take (n - 1) more ≡ more
take-rest more n e = grind (arith, common_steps)

pub octas-more : (r : List ℕ) (a : ℕ) (s t : State) → 1 ≤ length r → stored s a (get_or r 0 0) ≡ Some t →
    with_octas s a r ≡ with_octas t (a + 8) (take (length r - 1) (drop 1 r))
octas-more [] a s t l h = absurd (omega arith)
octas-more (x ∷ more) a s t l h = next-stored s a x more t h ∙ ap (λ l. with_octas t (a + 8) l) (sym (take-rest more (length (x ∷ more)) (omega arith)))

pub octas-refused : (r : List ℕ) (a : ℕ) (s : State) → 1 ≤ length r → stored s a (get_or r 0 0) ≡ None → with_octas s a r ≡ None
octas-refused [] a s l h = absurd (omega arith)
octas-refused (x ∷ more) a s l h = next-refused s a x more h

pub octas-done : (r : List ℕ) (a : ℕ) (s : State) → length r < 1 → with_octas s a r ≡ Some s
unfolding with_octas
octas-done [] a s l = refl
octas-done (x ∷ more) a s l = absurd (omega arith)

-- ONE OCTA

pub stored-negative : (s : State) (a x : ℕ) → 2 ^ 63 ≤ a → stored s a x ≡ None
unfolding stored
stored-negative s a x l = let negative : nat_le (2 ^ 63) a ≡ true = grind (arith, nat_tests) in rw negative refl

not-negative : (s : State) (a x : ℕ) → a < 2 ^ 63 → stored s a x ≡ cond (is_page_refused s a) None (Some (with_octa s a x))
unfolding stored
not-negative s a x l = let low : nat_le (2 ^ 63) a ≡ false = grind (arith, nat_tests) in rw low refl

abbrev Put : Type 0
Put = Result (Unit {0}) SetFault × State

pub stored-some : (s t : State) (a x : ℕ) → a < 2 ^ 63 → ◌≡◌ {A = Put} (Ok tt, t) (left_changed s (octa_changed s a x)) → stored s a x ≡ Some t
stored-some s t a x l h = not-negative s a x l ∙ by (is_page_refused s a) h
  where
    by : (r : Bool) → ◌≡◌ {A = Put} (Ok tt, t) (left_changed s (cond r (Err NotAllowed) (Ok (with_octa s a x)))) → cond r None (Some (with_octa s a x)) ≡ Some t
    by true e = (let answers : ◌≡◌ {A = Result (Unit {0}) SetFault} (Ok tt) (Err NotAllowed) = ap (λ (p : Put). p.0) e in absurd (cc answers))
    by false e = ap Some (sym (ap (λ (p : Put). p.1) e))

pub stored-none : (s t : State) (a x : ℕ) (fault : SetFault) → a < 2 ^ 63 → ◌≡◌ {A = Put} (Err fault, t) (left_changed s (octa_changed s a x)) → stored s a x ≡ None
stored-none s t a x fault l h = not-negative s a x l ∙ by (is_page_refused s a) h
  where
    by : (r : Bool) → ◌≡◌ {A = Put} (Err fault, t) (left_changed s (cond r (Err NotAllowed) (Ok (with_octa s a x)))) → cond r None (Some (with_octa s a x)) ≡ None
    by true e = refl
    by false e = (let answers : ◌≡◌ {A = Result (Unit {0}) SetFault} (Err fault) (Ok tt) = ap (λ (p : Put). p.0) e in absurd (cc answers))

-- A POOL THAT GOES PAST 2^64

-- octas that are stored are below 2^63
first-stored : (s : State) (a x : ℕ) (xs : List ℕ) (t : State) → with_octas s a (x ∷ xs) ≡ Some t → (a < 2 ^ 63) × (with_octas (with_octa s a x) (a + 8) xs ≡ Some t)
unfolding with_octas
first-stored s a x xs t h = by (is_negative a) (is_page_refused s a) refl h
  where
    low : is_negative a ≡ false → a < 2 ^ 63
    low e = grind (arith, nat_tests)

    by : (n r : Bool) → is_negative a ≡ n → cond (n || r) None (with_octas (with_octa s a x) (a + 8) xs) ≡ Some t → (a < 2 ^ 63) × (with_octas (with_octa s a x) (a + 8) xs ≡ Some t)
    by true r e g = absurd (cc g)
    by false true e g = absurd (cc g)
    by false false e g = (low e, g)

octas-fit : (xs : List ℕ) (x : ℕ) (s t : State) (a : ℕ) → with_octas s a (x ∷ xs) ≡ Some t → a + 8 * length xs < 2 ^ 63
octas-fit [] x s t a h = let l = (first-stored s a x [] t h).0 in omega (arith, l)
octas-fit (y ∷ ys) x s t a h = let l = octas-fit ys y (with_octa s a x) t (a + 8) (first-stored s a x (y ∷ ys) t h).1 in omega (arith, l)

pub addresses-length : (at : ℕ) (texts : List (List ℕ)) → length (text_addresses at texts) ≡ length texts
addresses-length at [] = refl
addresses-length at (t ∷ ts) = ap suc (addresses-length (at + text_size t) ts)

octas-length : (m : ℕ) (bytes : List ℕ) → length bytes ≡ 8 * m → length (octas_of bytes) ≡ m
octas-length zero [] e = refl
octas-length zero (b ∷ bytes) e = absurd (omega arith)
octas-length (suc m) (a ∷ b ∷ c ∷ d ∷ e ∷ f ∷ g ∷ h ∷ more) p = ap suc (octas-length m more (omega arith))
octas-length (suc m) _ p = absurd (omega arith)

text-length : (t : List ℕ) → 8 * length (text_octas t) ≡ text_size t
text-length t =
    let all : length (t ++ replicate {A = ℕ} (text_size t - length t) 0) ≡ 8 * (length t / 8 + 1) = omega (arith, length-append t (replicate {A = ℕ} (text_size t - length t) 0), length-replicate {A = ℕ} (text_size t - length t) 0) in
    ap (λ n. 8 * n) (octas-length (length t / 8 + 1) _ all)

ends-count : (at : ℕ) (texts : List (List ℕ)) → texts_end at texts ≡ at + 8 * length (flat_map text_octas texts)
ends-count at [] = omega arith
ends-count at (t ∷ ts) = omega (arith, ends-count (at + text_size t) ts, text-length t, length-append (text_octas t) (flat_map text_octas ts))

pub pool-count : (texts : List (List ℕ)) → pool + 8 * length (text_addresses (first_text texts) texts ++ 0 ∷ flat_map text_octas texts) + 8 ≡ texts_end (first_text texts) texts
pool-count texts = omega (arith, ends-count (first_text texts) texts, addresses-length (first_text texts) texts, length-append (text_addresses (first_text texts) texts) (0 ∷ flat_map text_octas texts))

pub pool-past : (s : State) (texts : List (List ℕ)) → pool_list texts ≡ None → with_octas s pool (pool_octas texts) ≡ None
unfolding pool_octas
pool-past s texts e = by (with_octas s pool (pool_octas texts)) refl
  where
    far : (b : Bool) → nat_lt (texts_end (first_text texts) texts) (2 ^ 64) ≡ b → cond b (Some (pool_octas texts)) None ≡ None → 2 ^ 64 ≤ texts_end (first_text texts) texts
    far true f g = absurd (cc g)
    far false f g = grind (arith, nat_tests)

    by : (o : Option State) → with_octas s pool (pool_octas texts) ≡ o → o ≡ None
    by None f = refl
    by (Some t) f =
        let l = octas-fit (text_addresses (first_text texts) texts ++ 0 ∷ flat_map text_octas texts) (texts_end (first_text texts) texts) s t pool f in
        let m = far (nat_lt (texts_end (first_text texts) texts) (2 ^ 64)) refl e in
        absurd (omega (arith, l, m, pool-count texts))
