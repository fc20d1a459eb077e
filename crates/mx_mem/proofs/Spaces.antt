-- Memory as a space of bytes.
use Rattle.std.proofs.Common.{◌≡◌, ◌<◌, ◌/◌, ◌%◌, ◌*◌, ◌+◌, ◌-◌, ◌^◌, ℕ, Bool, true, false, [], ◌∷◌, Result, Ok, eqb, cond, refl, arith, ap, sym, ◌∙◌, ⊎_elim}
use Rattle.std.specs.Prelude.{IsTrue, not, ◌&&◌, ◌==◌}
use Rattle.std.specs.Int.{w64, from_be_bytes}
use Rattle.std.proofs.lemmas.Bool.{cases_eq, cases_Bool, false_from_ne_true}
use Rattle.std.proofs.lemmas.Grind.{common_steps}
use Rattle.std.proofs.lemmas.Nat.{from_be_bytes-to_be_bytes_8}
use Rattle.mx_mem.specs.Memory.{Stored, octa_at, byte_at, has_page, page_count, count_with_page, is_refused, with_page}
use Rattle.mx_mem.specs.Parts.{bytes_with_part}
use Rattle.mx_mem.specs.Space.{Contents, memory_contents, is_negative, octa_of, octa_answer, put_answer}
use Rattle.mx_mem.specs.declared.part.Part.TheVariants.{Byte}
use Rattle.mx_mem.specs.declared.space.SpaceFault.{SpaceFault}
use Rattle.mx_mem.proofs.Joins.{same-octa}

-- the byte at a place of the octa that holds an address
byte-in-octa : (m : Stored) (a q k : ℕ) → q / 8 ≡ a / 8 → q % 8 ≡ k → byte_at m q ≡ octa_at m a / 2 ^ (8 * (7 - k)) % 256
byte-in-octa m a q k e f = ap (λ r. octa_at m q / 2 ^ (8 * (7 - r)) % 256) f ∙ ap (λ x. x / 2 ^ (8 * (7 - k)) % 256) (same-octa m q a e)

-- an octa is made of its bytes
pub octa-of-bytes : (m : Stored) (a : ℕ) → octa_at m a < 2 ^ 64 → octa_of (byte_at m) a ≡ octa_at m a
octa-of-bytes m a l =
    let b0 = byte-in-octa m a (8 * (a / 8) + 0) 0 (omega arith) (omega arith) in
    let b1 = byte-in-octa m a (8 * (a / 8) + 1) 1 (omega arith) (omega arith) in
    let b2 = byte-in-octa m a (8 * (a / 8) + 2) 2 (omega arith) (omega arith) in
    let b3 = byte-in-octa m a (8 * (a / 8) + 3) 3 (omega arith) (omega arith) in
    let b4 = byte-in-octa m a (8 * (a / 8) + 4) 4 (omega arith) (omega arith) in
    let b5 = byte-in-octa m a (8 * (a / 8) + 5) 5 (omega arith) (omega arith) in
    let b6 = byte-in-octa m a (8 * (a / 8) + 6) 6 (omega arith) (omega arith) in
    let b7 = byte-in-octa m a (8 * (a / 8) + 7) 7 (omega arith) (omega arith) in
    joined (octa_at m a) l b0 b1 b2 b3 b4 b5 b6 b7
  where
    joined : {b c d e f g h i : ℕ} (x : ℕ) → x < 2 ^ 64 → b ≡ x / 2 ^ 56 % 256 → c ≡ x / 2 ^ 48 % 256 → d ≡ x / 2 ^ 40 % 256 → e ≡ x / 2 ^ 32 % 256 → f ≡ x / 2 ^ 24 % 256 → g ≡ x / 2 ^ 16 % 256 → h ≡ x / 2 ^ 8 % 256 → i ≡ x / 2 ^ 0 % 256 →
        from_be_bytes w64 (b ∷ c ∷ d ∷ e ∷ f ∷ g ∷ h ∷ i ∷ []) ≡ x
    joined x l b0 b1 b2 b3 b4 b5 b6 b7 =
        let same : x / 2 ^ 0 % 256 ≡ x % 256 = omega arith in
        rw (b0, b1, b2, b3, b4, b5, b6, b7, same) (from_be_bytes-to_be_bytes_8 x l)

pick-second : {A : Type 0} (p q r : Bool) (x y z w : A) → p ≡ false → q ≡ true → cond p x (cond q y (cond r z w)) ≡ y
pick-second p q r x y z w e f = rw (e, f) refl

pick-last : {A : Type 0} (p q r : Bool) (x y z w : A) → p ≡ false → q ≡ false → r ≡ false → cond p x (cond q y (cond r z w)) ≡ w
pick-last p q r x y z w e f g = rw (e, f, g) refl

abbrev contents : (ℕ → ℕ) → (ℕ → Bool) → ℕ → Contents (Unit {0})
contents bytes pages count = record { bytes = bytes; pages = pages; page_count = count; is_stack_apart = false; rest = tt }

one-byte : (bytes : ℕ → ℕ) (a b q : ℕ) → b < 256 → bytes_with_part Byte bytes a b q ≡ cond (eqb q a) b (bytes q)
one-byte bytes a b q l = ⊎_elim (λ e. here e) (λ ne. other ne) (cases_eq q a)
  where
    here : q ≡ a → bytes_with_part Byte bytes a b q ≡ cond (eqb q a) b (bytes q)
    here e = grind (arith, common_steps)

    other : (q ≡ a → ⊥) → bytes_with_part Byte bytes a b q ≡ cond (eqb q a) b (bytes q)
    other ne = grind (arith, common_steps)

-- a byte that was stored is a byte that was put
pub stored-is-put : (m n : Stored) (a b : ℕ) → is_negative a ≡ false → b < 256 → byte_at n ≡ bytes_with_part Byte (byte_at m) a b → has_page n ≡ with_page (has_page m) (a / 4096) → page_count n ≡ count_with_page m (a / 4096) →
    (IsTrue (is_refused m (a / 4096)) → ⊥) → ◌≡◌ {A = Result (Unit {0}) SpaceFault × Contents (Unit {0})} (Ok tt, memory_contents n) (put_answer (memory_contents m) a b)
stored-is-put m n a b low f bytes pages count free = ⊎_elim (λ t. there t) (λ t. new t) (cases_Bool (has_page m (a / 4096)))
  where
    byte : byte_at n ≡ (λ q. cond (eqb q a) b (byte_at m q))
    byte = bytes ∙ (λ i q. one-byte (byte_at m) a b q f i)

    kept : has_page m (a / 4096) ≡ true → (q : ℕ) → with_page (has_page m) (a / 4096) q ≡ has_page m q
    kept t q = ⊎_elim (λ e. at t q e) (λ ne. beside q ne) (cases_eq q (a / 4096))
      where
        at : has_page m (a / 4096) ≡ true → (q : ℕ) → q ≡ a / 4096 → with_page (has_page m) (a / 4096) q ≡ has_page m q
        at t q e = (let one : with_page (has_page m) (a / 4096) q ≡ true = grind (arith, common_steps) in one ∙ sym (ap (has_page m) e ∙ t))

        beside : (q : ℕ) → (q ≡ a / 4096 → ⊥) → with_page (has_page m) (a / 4096) q ≡ has_page m q
        beside q ne = grind (arith, common_steps)

    equal : {pages' : ℕ → Bool} {count' : ℕ} → has_page n ≡ pages' → page_count n ≡ count' → memory_contents n ≡ contents (λ q. cond (eqb q a) b (byte_at m q)) pages' count'
    equal {pages'} {count'} p c = ap (λ f. contents f (has_page n) (page_count n)) byte ∙ ap (λ f. contents (λ q. cond (eqb q a) b (byte_at m q)) f (page_count n)) p ∙ ap (contents (λ q. cond (eqb q a) b (byte_at m q)) pages') c

    there : has_page m (a / 4096) ≡ true → ◌≡◌ {A = Result (Unit {0}) SpaceFault × Contents (Unit {0})} (Ok tt, memory_contents n) (put_answer (memory_contents m) a b)
    there t =
        let known : not (not (has_page m (a / 4096))) ≡ true = ap (λ p. not (not p)) t in
        let same : with_page (has_page m) (a / 4096) ≡ has_page m = λ i q. kept t q i in
        let all : count_with_page m (a / 4096) ≡ page_count m = ap (λ p. cond p (page_count m) (page_count m + 1)) t in
        ap (λ s. (Ok tt, s)) (equal (pages ∙ same) (count ∙ all))
        ∙ sym (pick-second (is_negative a) (not (not (has_page m (a / 4096)))) (page_count m == 65536) _ _ _ _ low known)

    new : has_page m (a / 4096) ≡ false → ◌≡◌ {A = Result (Unit {0}) SpaceFault × Contents (Unit {0})} (Ok tt, memory_contents n) (put_answer (memory_contents m) a b)
    new t =
        let known : not (not (has_page m (a / 4096))) ≡ false = ap (λ p. not (not p)) t in
        let all : count_with_page m (a / 4096) ≡ page_count m + 1 = ap (λ p. cond p (page_count m) (page_count m + 1)) t in
        let room : (page_count m == 65536) ≡ false = false_from_ne_true _ (λ e. free (ap (λ p. not p && page_count m == 65536) t ∙ e)) in
        ap (λ s. (Ok tt, s)) (equal pages (count ∙ all))
        ∙ sym (pick-last (is_negative a) (not (not (has_page m (a / 4096)))) (page_count m == 65536) _ _ _ _ low known room)

-- an octa is what a space answers
pub octa-is-answer : (m : Stored) (a x : ℕ) → is_negative a ≡ false → x < 2 ^ 64 → x ≡ octa_at m a → ◌≡◌ {A = Result ℕ SpaceFault} (Ok x) (octa_answer (memory_contents m) a)
octa-is-answer m a x low f e =
    let fits : octa_at m a < 2 ^ 64 = omega (arith, e) in
    rw low (ap Ok (e ∙ sym (octa-of-bytes m a fits)))
