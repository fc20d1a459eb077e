-- The machine as a space of bytes.
use Rattle.std.proofs.Common.{◌≡◌, ◌≤◌, ◌<◌, ◌/◌, ◌%◌, ◌*◌, ◌+◌, ◌-◌, ◌^◌, ◌&&◌, ◌==◌, not, ℕ, Bool, true, false, [], ◌∷◌, length, Result, Ok, Err, eqb, cond, refl, arith, ap, sym, ◌∙◌, ⊎_elim}
use Rattle.std.specs.Prelude.{slice_index, slice_set}
use Rattle.std.specs.Int.{w64, from_be_bytes}
use Rattle.std.proofs.lemmas.Bool.{cases_eq, cases_lt}
use Rattle.std.proofs.lemmas.Bool.Decides.{nat_tests}
use Rattle.std.proofs.lemmas.Grind.{common_steps}
use Rattle.std.proofs.lemmas.List.{get_or-set_same, get_or-set_other}
use Rattle.std.proofs.lemmas.Nat.{from_be_bytes-to_be_bytes_8}
use Rattle.mx_word.specs.Octas.{byte_of, byte_in, with_page}
use Rattle.mx_mem.specs.Memory.{stored_at, octa_at}
use Rattle.mx_mem.specs.Parts.{with_part}
use Rattle.mx_mem.specs.Space.{Contents, is_negative, octa_of, octa_answer, put_answer, with_byte, with_byte_page}
use Rattle.mx_mem.specs.declared.fault.MemFault.{MemFault}
use Rattle.mx_mem.specs.declared.fault.MemFault.TheVariants.{PagesFull}
use Rattle.mx_mem.specs.declared.part.Part.TheVariants.{Byte}
use Rattle.mx_mem.specs.declared.space.SpaceFault.{SpaceFault}
use Rattle.mx_mem.proofs.Fields.{byte-below, byte-above, byte-within}
use Rattle.mx_mem.proofs.Joins.{same-octa}
use Rattle.mx_ring.specs.Bounds.{IsRing}
use Rattle.mx_ring.specs.Stack.{windowed, in_stack_area, stack_index, stack_octa, with_stack_octa}
use Rattle.mx_core.specs.Kept.{Kept, state_of}
use Rattle.mx_core.specs.MachineSpace.{machine_contents, kept_contents, rest_of}
use Rattle.mx_core.specs.Way.Changed.{store_left}
use Rattle.mx_core.specs.State.{State, octa, with_octa, is_page_refused}

-- OCTAS

-- two addresses in one octa have the same octa
abbrev pub Octawise : (ℕ → ℕ) → Type 0
Octawise f = (q a : ℕ) → q / 8 ≡ a / 8 → f q ≡ f a

pub same-area : (q a : ℕ) → q / 8 ≡ a / 8 → in_stack_area q ≡ in_stack_area a
same-area q a e = grind (arith, nat_tests)

pub same-index : (q a : ℕ) → q / 8 ≡ a / 8 → stack_index q ≡ stack_index a
same-index q a e = omega arith

pub octawise : (k : Kept) → Octawise (octa (state_of k))
unfolding octa state_of
octawise k q a e = rw (same-area q a e, same-index q a e, same-octa k.memory q a e) refl

-- the byte at a place of the octa that holds an address
byte-in-octa : (f : ℕ → ℕ) → Octawise f → (a q k : ℕ) → q / 8 ≡ a / 8 → q % 8 ≡ k → byte_in f q ≡ f a / 2 ^ (8 * (7 - k)) % 256
byte-in-octa f same a q k e g = ap (λ r. f q / 2 ^ (8 * (7 - r)) % 256) g ∙ ap (λ x. x / 2 ^ (8 * (7 - k)) % 256) (same q a e)

-- an octa is made of its bytes
pub octa-of-bytes : (f : ℕ → ℕ) → Octawise f → (a : ℕ) → f a < 2 ^ 64 → octa_of (byte_in f) a ≡ f a
octa-of-bytes f same a l =
    let b0 = byte-in-octa f same a (8 * (a / 8) + 0) 0 (omega arith) (omega arith) in
    let b1 = byte-in-octa f same a (8 * (a / 8) + 1) 1 (omega arith) (omega arith) in
    let b2 = byte-in-octa f same a (8 * (a / 8) + 2) 2 (omega arith) (omega arith) in
    let b3 = byte-in-octa f same a (8 * (a / 8) + 3) 3 (omega arith) (omega arith) in
    let b4 = byte-in-octa f same a (8 * (a / 8) + 4) 4 (omega arith) (omega arith) in
    let b5 = byte-in-octa f same a (8 * (a / 8) + 5) 5 (omega arith) (omega arith) in
    let b6 = byte-in-octa f same a (8 * (a / 8) + 6) 6 (omega arith) (omega arith) in
    let b7 = byte-in-octa f same a (8 * (a / 8) + 7) 7 (omega arith) (omega arith) in
    joined (f a) l b0 b1 b2 b3 b4 b5 b6 b7
  where
    joined : {b c d e f g h i : ℕ} (x : ℕ) → x < 2 ^ 64 → b ≡ x / 2 ^ 56 % 256 → c ≡ x / 2 ^ 48 % 256 → d ≡ x / 2 ^ 40 % 256 → e ≡ x / 2 ^ 32 % 256 → f ≡ x / 2 ^ 24 % 256 → g ≡ x / 2 ^ 16 % 256 → h ≡ x / 2 ^ 8 % 256 → i ≡ x / 2 ^ 0 % 256 →
        from_be_bytes w64 (b ∷ c ∷ d ∷ e ∷ f ∷ g ∷ h ∷ i ∷ []) ≡ x
    joined x l b0 b1 b2 b3 b4 b5 b6 b7 =
        let same : x / 2 ^ 0 % 256 ≡ x % 256 = omega arith in
        rw (b0, b1, b2, b3, b4, b5, b6, b7, same) (from_be_bytes-to_be_bytes_8 x l)

-- an octa is what a space answers
pub octa-is-answer : (k : Kept) (a x : ℕ) → is_negative a ≡ false → x < 2 ^ 64 → x ≡ octa (state_of k) a → ◌≡◌ {A = Result ℕ SpaceFault} (Ok x) (octa_answer (kept_contents k) a)
octa-is-answer k a x low f e =
    let fits : octa (state_of k) a < 2 ^ 64 = omega (arith, e) in
    rw low (ap Ok (e ∙ sym (octa-of-bytes (octa (state_of k)) (octawise k) a fits)))

-- A BYTE THAT IS STORED

here : (octa a b : ℕ) → b < 256 → byte_of (with_part Byte octa a b) a ≡ b
here octa a b l = byte-within octa (8 * (8 - 1 - a % 8 / 1 * 1)) 8 b (8 * (7 - a % 8)) 0 0 (omega arith) refl ∙ (omega arith)

beside : (octa a b q : ℕ) → q / 8 ≡ a / 8 → (q ≡ a → ⊥) → byte_of (with_part Byte octa a b) q ≡ byte_of octa q
beside octa a b q e ne = ⊎_elim (λ l. before l) (λ l. following l) (cases_lt q a)
  where
    before : q < a → byte_of (with_part Byte octa a b) q ≡ byte_of octa q
    before l = byte-above octa (8 * (8 - 1 - a % 8 / 1 * 1)) 8 b (8 * (7 - q % 8)) (8 * (7 - q % 8) - (8 * (8 - 1 - a % 8 / 1 * 1) + 8)) (omega arith)

    following : a ≤ q → byte_of (with_part Byte octa a b) q ≡ byte_of octa q
    following l = byte-below octa (8 * (8 - 1 - a % 8 / 1 * 1)) 8 b (8 * (7 - q % 8)) (8 * (8 - 1 - a % 8 / 1 * 1) - (8 + 8 * (7 - q % 8))) (omega arith)

byte-stored : (f : ℕ → ℕ) → Octawise f → (a b q : ℕ) → b < 256 → byte_of (stored_at f a (with_part Byte (f a) a b) q) q ≡ cond (eqb q a) b (byte_in f q)
byte-stored f same a b q l = ⊎_elim (λ e. at e) (λ ne. near ne) (cases_eq q a)
  where
    inside : q / 8 ≡ a / 8 → stored_at f a (with_part Byte (f a) a b) q ≡ with_part Byte (f a) a b
    inside e = grind (arith, common_steps)

    at : q ≡ a → byte_of (stored_at f a (with_part Byte (f a) a b) q) q ≡ cond (eqb q a) b (byte_in f q)
    at e =
        let same_place : eqb q a ≡ true = grind (arith, nat_tests) in
        ap (λ x. byte_of x q) (inside (ap (λ n. n / 8) e)) ∙ ap (λ n. byte_of (with_part Byte (f a) a b) n) e ∙ here (f a) a b l ∙ rw same_place refl

    near : (q ≡ a → ⊥) → byte_of (stored_at f a (with_part Byte (f a) a b) q) q ≡ cond (eqb q a) b (byte_in f q)
    near ne =
        let other_place : eqb q a ≡ false = grind (arith, nat_tests) in
        ⊎_elim (λ e. ap (λ x. byte_of x q) (inside e) ∙ beside (f a) a b q e ne ∙ ap (λ x. byte_of x q) (sym (same q a e))) (λ far. apart far) (cases_eq (q / 8) (a / 8)) ∙ rw other_place refl
      where
        apart : (q / 8 ≡ a / 8 → ⊥) → byte_of (stored_at f a (with_part Byte (f a) a b) q) q ≡ byte_in f q
        apart far = (let elsewhere : stored_at f a (with_part Byte (f a) a b) q ≡ f q = grind (arith, common_steps) in ap (λ x. byte_of x q) elsewhere)

-- THE STATE WITH AN OCTA STORED

in-area : (k : Kept) (a x : ℕ) → in_stack_area a ≡ true → with_octa (state_of k) a x ≡ record (state_of k) { stack = with_stack_octa (windowed k.ring) (stack_index a) x }
unfolding with_octa state_of
in-area k a x e = rw e refl

abbrev beyond : State → ℕ → ℕ → State
beyond s a x = record s { octas = stored_at s.octas a x; pages = with_page s.pages (a / 4096); page_count = cond (s.pages (a / 4096)) s.page_count (s.page_count + 1) }

outside : (k : Kept) (a x : ℕ) → in_stack_area a ≡ false → with_octa (state_of k) a x ≡ beyond (state_of k) a x
unfolding with_octa
outside k a x e = rw e refl

pub octa-inside : (s : State) (q : ℕ) → in_stack_area q ≡ true → octa s q ≡ stack_octa s.stack (stack_index q)
unfolding octa
octa-inside s q e = rw e refl

pub octa-outside : (s : State) (q : ℕ) → in_stack_area q ≡ false → octa s q ≡ s.octas q
unfolding octa
octa-outside s q e = rw e refl

stored-there : (f : ℕ → ℕ) (a x q : ℕ) → q / 8 ≡ a / 8 → stored_at f a x q ≡ x
stored-there f a x q e = grind (arith, common_steps)

stored-elsewhere : (f : ℕ → ℕ) (a x q : ℕ) → (q / 8 ≡ a / 8 → ⊥) → stored_at f a x q ≡ f q
stored-elsewhere f a x q ne = grind (arith, common_steps)

pub index-in : (a : ℕ) → in_stack_area a ≡ true → stack_index a < 2 ^ 20
index-in a e = grind (arith, nat_tests)

index-apart : (q a : ℕ) → in_stack_area q ≡ true → in_stack_area a ≡ true → (q / 8 ≡ a / 8 → ⊥) → (stack_index q ≡ stack_index a → ⊥)
index-apart q a e f ne = λ same. ne (lower q a (least q e) (least a f) same)
  where
    least : (n : ℕ) → in_stack_area n ≡ true → 0x6000_0000_0000_0000 ≤ n
    least n e = grind (arith, nat_tests)

    lower : (q a : ℕ) → 0x6000_0000_0000_0000 ≤ q → 0x6000_0000_0000_0000 ≤ a → stack_index q ≡ stack_index a → q / 8 ≡ a / 8
    lower q a l m same = omega arith

-- the octas after one was stored
octa-after : (k : Kept) (a x q : ℕ) → IsRing k.ring → octa (with_octa (state_of k) a x) q ≡ stored_at (octa (state_of k)) a x q
unfolding stack_octa with_stack_octa state_of
octa-after k a x q ring = by (in_stack_area a) (in_stack_area q) refl refl
  where
    within : in_stack_area a ≡ true → in_stack_area q ≡ true → octa (record (state_of k) { stack = with_stack_octa (windowed k.ring) (stack_index a) x }) q ≡ stored_at (octa (state_of k)) a x q
    within e f = octa-inside (record (state_of k) { stack = with_stack_octa (windowed k.ring) (stack_index a) x }) q f ∙ ⊎_elim (λ d. at d) (λ ne. near ne) (cases_eq (q / 8) (a / 8))
      where
        at : q / 8 ≡ a / 8 → slice_index (slice_set k.ring.hidden.stack (stack_index a) x) (stack_index q) ≡ stored_at (octa (state_of k)) a x q
        at d =
            let room : stack_index a < length k.ring.hidden.stack = omega (arith, index-in a e, ring.area) in
            ap (λ i. slice_index (slice_set k.ring.hidden.stack (stack_index a) x) i) (same-index q a d) ∙ get_or-set_same k.ring.hidden.stack (stack_index a) x 0 room ∙ sym (stored-there (octa (state_of k)) a x q d)

        near : (q / 8 ≡ a / 8 → ⊥) → slice_index (slice_set k.ring.hidden.stack (stack_index a) x) (stack_index q) ≡ stored_at (octa (state_of k)) a x q
        near ne = get_or-set_other k.ring.hidden.stack (stack_index a) (stack_index q) x 0 (index-apart q a f e ne) ∙ sym (octa-inside (state_of k) q f) ∙ sym (stored-elsewhere (octa (state_of k)) a x q ne)

    apart : (b c : Bool) → in_stack_area a ≡ b → in_stack_area q ≡ c → (b ≡ c → ⊥) → (q / 8 ≡ a / 8 → ⊥)
    apart b c e f ne = λ d. ne (sym e ∙ sym (same-area q a d) ∙ f)

    by : (b c : Bool) → in_stack_area a ≡ b → in_stack_area q ≡ c → octa (with_octa (state_of k) a x) q ≡ stored_at (octa (state_of k)) a x q
    by true true e f = ap (λ s. octa s q) (in-area k a x e) ∙ within e f
    by true false e f = ap (λ s. octa s q) (in-area k a x e) ∙ octa-outside _ q f ∙ sym (octa-outside (state_of k) q f) ∙ sym (stored-elsewhere (octa (state_of k)) a x q (apart true false e f (λ d. absurd (cc))))
    by false true e f = ap (λ s. octa s q) (outside k a x e) ∙ octa-inside _ q f ∙ sym (octa-inside (state_of k) q f) ∙ sym (stored-elsewhere (octa (state_of k)) a x q (apart false true e f (λ d. absurd (cc))))
    by false false e f = ap (λ s. octa s q) (outside k a x e) ∙ octa-outside _ q f ∙ ap (λ y. cond (eqb (q / 8) (a / 8)) x y) (sym (octa-outside (state_of k) q f))

-- and all else
rest-after : (k : Kept) (a x : ℕ) → rest_of (with_octa (state_of k) a x) ≡ rest_of (state_of k)
unfolding state_of with_stack_octa
rest-after k a x = by (in_stack_area a) refl
  where
    beside : in_stack_area a ≡ false → (q : ℕ) → cond (in_stack_area q) (stored_at (octa_at k.memory) a x q) 0 ≡ cond (in_stack_area q) (octa_at k.memory q) 0
    beside e q = in-turn (in_stack_area q) refl
      where
        in-turn : (c : Bool) → in_stack_area q ≡ c → cond (in_stack_area q) (stored_at (octa_at k.memory) a x q) 0 ≡ cond (in_stack_area q) (octa_at k.memory q) 0
        in-turn true f = ap (λ y. cond (in_stack_area q) y 0) (stored-elsewhere (octa_at k.memory) a x q (λ d. absurd (cc (sym e ∙ sym (same-area q a d) ∙ f))))
        in-turn false f = rw f refl

    by : (b : Bool) → in_stack_area a ≡ b → rest_of (with_octa (state_of k) a x) ≡ rest_of (state_of k)
    by true e = ap rest_of (in-area k a x e)
    by false e = ap rest_of (outside k a x e) ∙ ap (λ (f : ℕ → ℕ). record (rest_of (state_of k)) { octas = f }) (λ i q. beside e q i)

pages-inside : (k : Kept) (a x : ℕ) → in_stack_area a ≡ true → ((with_octa (state_of k) a x).pages ≡ (state_of k).pages) × ((with_octa (state_of k) a x).page_count ≡ (state_of k).page_count)
pages-inside k a x e = (ap (λ (s : State). s.pages) (in-area k a x e), ap (λ (s : State). s.page_count) (in-area k a x e))

page-kept : (pages : ℕ → Bool) (p q : ℕ) → pages p ≡ true → with_page pages p q ≡ pages q
page-kept pages p q t = ⊎_elim (λ e. at e) (λ ne. grind (arith, common_steps)) (cases_eq q p)
  where
    at : q ≡ p → with_page pages p q ≡ pages q
    at e = (let one : with_page pages p q ≡ true = grind (arith, common_steps) in one ∙ sym (ap pages e ∙ t))

pages-there : (k : Kept) (a x : ℕ) → in_stack_area a ≡ false → (state_of k).pages (a / 4096) ≡ true → ((with_octa (state_of k) a x).pages ≡ (state_of k).pages) × ((with_octa (state_of k) a x).page_count ≡ (state_of k).page_count)
pages-there k a x e t = (
  ap (λ (s : State). s.pages) (outside k a x e) ∙ (λ i q. page-kept (state_of k).pages (a / 4096) q t i),
  ap (λ (s : State). s.page_count) (outside k a x e) ∙ ap (λ b. cond b (state_of k).page_count ((state_of k).page_count + 1)) t,
)

pages-new : (k : Kept) (a x : ℕ) → in_stack_area a ≡ false → (state_of k).pages (a / 4096) ≡ false → ((with_octa (state_of k) a x).pages ≡ with_page (state_of k).pages (a / 4096)) × ((with_octa (state_of k) a x).page_count ≡ (state_of k).page_count + 1)
pages-new k a x e t = (
  ap (λ (s : State). s.pages) (outside k a x e),
  ap (λ (s : State). s.page_count) (outside k a x e) ∙ ap (λ b. cond b (state_of k).page_count ((state_of k).page_count + 1)) t,
)

-- A BYTE THAT IS PUT

abbrev contents : (ℕ → ℕ) → (ℕ → Bool) → ℕ → State → Contents State
contents bytes pages count rest = record { bytes = bytes; pages = pages; page_count = count; is_stack_apart = true; rest = rest }

equal : {bytes bytes' : ℕ → ℕ} {pages pages' : ℕ → Bool} {count count' : ℕ} {rest rest' : State} → bytes ≡ bytes' → pages ≡ pages' → count ≡ count' → rest ≡ rest' → contents bytes pages count rest ≡ contents bytes' pages' count' rest'
equal e f g h = λ i. contents (e i) (f i) (g i) (h i)

bytes-after : (k : Kept) (a b x : ℕ) → IsRing k.ring → b < 256 → x ≡ with_part Byte (octa (state_of k) a) a b → byte_in (octa (with_octa (state_of k) a x)) ≡ (λ q. cond (eqb q a) b (byte_in (octa (state_of k)) q))
bytes-after k a b x ring l e = λ i q.
    (ap (λ y. byte_of y q) (octa-after k a x q ring)
    ∙ ap (λ y. byte_of (stored_at (octa (state_of k)) a y q) q) e
    ∙ byte-stored (octa (state_of k)) (octawise k) a b q l) i

-- what follows where no page begins, and where one does
contents-kept : (k : Kept) (a b x : ℕ) → IsRing k.ring → b < 256 → x ≡ with_part Byte (octa (state_of k) a) a b →
    ((with_octa (state_of k) a x).pages ≡ (state_of k).pages) × ((with_octa (state_of k) a x).page_count ≡ (state_of k).page_count) →
    machine_contents (with_octa (state_of k) a x) ≡ with_byte (kept_contents k) a b
contents-kept k a b x ring l e p = equal (bytes-after k a b x ring l e) p.0 p.1 (rest-after k a x)

contents-paged : (k : Kept) (a b x : ℕ) → IsRing k.ring → b < 256 → x ≡ with_part Byte (octa (state_of k) a) a b →
    ((with_octa (state_of k) a x).pages ≡ with_page (state_of k).pages (a / 4096)) × ((with_octa (state_of k) a x).page_count ≡ (state_of k).page_count + 1) →
    machine_contents (with_octa (state_of k) a x) ≡ with_byte_page (kept_contents k) a b
contents-paged k a b x ring l e p = equal (bytes-after k a b x ring l e) p.0 p.1 (rest-after k a x)

pick-second : {A : Type 0} (p q r : Bool) (x y z w : A) → p ≡ false → q ≡ true → cond p x (cond q y (cond r z w)) ≡ y
pick-second p q r x y z w e f = rw (e, f) refl

pick-last : {A : Type 0} (p q r : Bool) (x y z w : A) → p ≡ false → q ≡ false → r ≡ false → cond p x (cond q y (cond r z w)) ≡ w
pick-last p q r x y z w e f g = rw (e, f, g) refl

abbrev Put : Type 0
Put = Result (Unit {0}) SpaceFault × Contents State

byte-is-put : (k : Kept) (a b x : ℕ) → IsRing k.ring → is_negative a ≡ false → b < 256 → x ≡ with_part Byte (octa (state_of k) a) a b → is_page_refused (state_of k) a ≡ false →
    ◌≡◌ {A = Put} (Ok tt, machine_contents (with_octa (state_of k) a x)) (put_answer (kept_contents k) a b)
byte-is-put k a b x ring low l e free = by (in_stack_area a) ((state_of k).pages (a / 4096)) refl refl
  where
    kept : not (not (in_stack_area a) && not ((state_of k).pages (a / 4096))) ≡ true →
        ((with_octa (state_of k) a x).pages ≡ (state_of k).pages) × ((with_octa (state_of k) a x).page_count ≡ (state_of k).page_count) →
        ◌≡◌ {A = Put} (Ok tt, machine_contents (with_octa (state_of k) a x)) (put_answer (kept_contents k) a b)
    kept known p = ap (λ c. (Ok tt, c)) (contents-kept k a b x ring l e p)
        ∙ sym (pick-second (is_negative a) (not (not (in_stack_area a) && not ((state_of k).pages (a / 4096)))) ((state_of k).page_count == 65536) _ _ _ _ low known)

    by : (i p : Bool) → in_stack_area a ≡ i → (state_of k).pages (a / 4096) ≡ p → ◌≡◌ {A = Put} (Ok tt, machine_contents (with_octa (state_of k) a x)) (put_answer (kept_contents k) a b)
    by true p f g = kept (ap (λ c. not (not c && not ((state_of k).pages (a / 4096)))) f) (pages-inside k a x f)
    by false true f g = kept (ap (λ c. not (not (in_stack_area a) && not c)) g ∙ ap (λ c. not (not c && false)) f) (pages-there k a x f g)
    by false false f g =
        let begins : not (not (in_stack_area a) && not ((state_of k).pages (a / 4096))) ≡ false = ap (λ c. not (not (in_stack_area a) && not c)) g ∙ ap (λ c. not (not c && true)) f in
        let room : ((state_of k).page_count == 65536) ≡ false = sym (ap (λ c. not c && not ((state_of k).pages (a / 4096)) && (state_of k).page_count == 65536) f ∙ ap (λ c. not c && (state_of k).page_count == 65536) g) ∙ free in
        ap (λ c. (Ok tt, c)) (contents-paged k a b x ring l e (pages-new k a x f g))
        ∙ sym (pick-last (is_negative a) (not (not (in_stack_area a) && not ((state_of k).pages (a / 4096)))) ((state_of k).page_count == 65536) _ _ _ _ low begins room)

-- a byte whose octa was stored is a byte that was put
pub stored-is-put : (k n : Kept) (a b x : ℕ) → IsRing k.ring → is_negative a ≡ false → b < 256 → x ≡ with_part Byte (octa (state_of k) a) a b →
    ◌≡◌ {A = Result (Unit {0}) MemFault × State} (Ok tt, state_of n) (store_left (state_of k) a x) → ◌≡◌ {A = Put} (Ok tt, kept_contents n) (put_answer (kept_contents k) a b)
stored-is-put k n a b x ring low l e h = by (is_page_refused (state_of k) a) refl
  where
    by : (r : Bool) → is_page_refused (state_of k) a ≡ r → ◌≡◌ {A = Put} (Ok tt, kept_contents n) (put_answer (kept_contents k) a b)
    by true f =
        let answers : ◌≡◌ {A = Result (Unit {0}) MemFault} (Ok tt) (Err PagesFull) = ap (λ (p : Result (Unit {0}) MemFault × State). p.0) (h ∙ ap (λ r. cond r (Err PagesFull, state_of k) (Ok tt, with_octa (state_of k) a x)) f) in
        absurd (cc answers)
    by false f =
        let same : state_of n ≡ with_octa (state_of k) a x = ap (λ (p : Result (Unit {0}) MemFault × State). p.1) (h ∙ ap (λ r. cond r (Err PagesFull, state_of k) (Ok tt, with_octa (state_of k) a x)) f) in
        ap (λ s. (Ok tt, machine_contents s)) same ∙ byte-is-put k a b x ring low l e f
