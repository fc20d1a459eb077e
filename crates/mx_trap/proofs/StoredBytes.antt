-- Where stored bytes are.
use Rattle.std.proofs.Common.{◌≡◌, ℕ, suc, ◌+◌, ◌-◌, ◌<◌, Bool, true, false, cond, List, [], ◌∷◌, length, get_or, Ok, Err, refl, ◌∙◌, arith}
use Rattle.std.specs.Prelude.{Result, ◌==◌, ◌&&◌, nat_le, nat_lt, not}
use Rattle.std.proofs.lemmas.Bool.Decides.{nat_tests}
use Rattle.mx_mem.specs.Space.{Contents, is_negative, begins_page, with_byte, with_byte_page}
use Rattle.mx_mem.specs.declared.space.SpaceFault.TheVariants.{Negative, PagesFull}
use Rattle.mx_plan.specs.Calls.{space}
use Rattle.mx_plan.specs.Plan.{end_of}
use Rattle.mx_trap.specs.Moves as moves
use Rattle.mx_trap.proofs.Walks.{bytes-same, bytes_stored, byte_stored, stored, stored_next}
use Rattle.mx_trap.specs.Laws.{stored_byte}
use Rattle.mx_trap.specs.declared.answer.TrapAnswer.{TrapAnswer}

abbrev Stored : Type 0 → Type 0
Stored Rest = Result (Unit {0}) TrapAnswer × Contents Rest

-- ---- one byte

apart : {Rest : Type 0} (e : TrapAnswer) (s : Contents Rest) → ◌≡◌ {A = Result (Unit {0}) TrapAnswer} (Err e) (Ok tt) → ⊥
apart e s h = absurd (cc)

byte-put : {Rest : Type 0} (s : Contents Rest) (a b q : ℕ) → (byte_stored a b s).0 ≡ Ok tt → (byte_stored a b s).1.bytes q ≡ cond (q == a) b (s.bytes q)
byte-put {Rest} s a b q h = on (is_negative a) (not (begins_page s a)) (s.page_count == 65536) h
  where
    on : (n p c : Bool) → (stored (cond n (Err Negative, s) (cond p (Ok tt, with_byte s a b) (cond c (Err PagesFull, s) (Ok tt, with_byte_page s a b))))).0 ≡ Ok tt →
        (stored (cond n (Err Negative, s) (cond p (Ok tt, with_byte s a b) (cond c (Err PagesFull, s) (Ok tt, with_byte_page s a b))))).1.bytes q ≡ cond (q == a) b (s.bytes q)
    on true p c h = absurd (cc)
    on false true c h = refl
    on false false true h = absurd (cc)
    on false false false h = refl

byte-rest : {Rest : Type 0} (s : Contents Rest) (a b : ℕ) → (byte_stored a b s).1.rest ≡ s.rest
byte-rest {Rest} s a b = on (is_negative a) (not (begins_page s a)) (s.page_count == 65536)
  where
    on : (n p c : Bool) → (stored (cond n (Err Negative, s) (cond p (Ok tt, with_byte s a b) (cond c (Err PagesFull, s) (Ok tt, with_byte_page s a b))))).1.rest ≡ s.rest
    on true p c = refl
    on false true c = refl
    on false false true = refl
    on false false false = refl

-- ---- a byte more

get-later : (b : ℕ) (bs : List ℕ) (a q : ℕ) → a < q → get_or (b ∷ bs) (q - a) 0 ≡ get_or bs (q - (a + 1)) 0
get-later b bs a q l = let e : q - a ≡ suc (q - (a + 1)) = omega (arith, l) in rw e refl

get-here : (b : ℕ) (bs : List ℕ) (a q : ℕ) → q ≡ a → get_or (b ∷ bs) (q - a) 0 ≡ b
get-here b bs a q h = let e : q - a ≡ 0 = omega (arith, h) in rw e refl

one-more : (b : ℕ) (bs : List ℕ) (a q : ℕ) (old between : ℕ → ℕ) → between q ≡ cond (q == a) b (old q) → stored_byte bs (a + 1) between q ≡ stored_byte (b ∷ bs) a old q
one-more b bs a q old between h = on (nat_lt q a) (q == a) refl refl
  where
    size : length (b ∷ bs) ≡ length bs + 1
    size = omega arith

    on : (l e : Bool) → nat_lt q a ≡ l → (q == a) ≡ e → stored_byte bs (a + 1) between q ≡ stored_byte (b ∷ bs) a old q
    on true e f g =
        let below : q < a = grind (arith, nat_tests) in
        let new : (nat_le (a + 1) q && nat_lt q (a + 1 + length bs)) ≡ false = grind (arith, nat_tests) in
        let was : (nat_le a q && nat_lt q (a + length (b ∷ bs))) ≡ false = grind (arith, nat_tests) in
        let other : (q == a) ≡ false = grind (arith, nat_tests) in
        rw (new, was, h, other) refl
    on false true f g =
        let here : q ≡ a = grind (arith, nat_tests) in
        let new : (nat_le (a + 1) q && nat_lt q (a + 1 + length bs)) ≡ false = grind (arith, nat_tests) in
        let was : (nat_le a q && nat_lt q (a + length (b ∷ bs))) ≡ true = grind (arith, nat_tests) in
        rw (new, was, h, g, get-here b bs a q here) refl
    on false false f g =
        let later : a < q = grind (arith, nat_tests) in
        let same : (nat_le a q && nat_lt q (a + length (b ∷ bs))) ≡ (nat_le (a + 1) q && nat_lt q (a + 1 + length bs)) = grind (arith, nat_tests) in
        rw (same, h, g, get-later b bs a q later) refl

next-put : {Rest : Type 0} (b : ℕ) (bs : List ℕ) (a q : ℕ) (s : Contents Rest) (t : Stored Rest) → (t.0 ≡ Ok tt → t.1.bytes q ≡ cond (q == a) b (s.bytes q)) →
    ((n : Contents Rest) → (bytes_stored bs (a + 1) n).0 ≡ Ok tt → (bytes_stored bs (a + 1) n).1.bytes q ≡ stored_byte bs (a + 1) n.bytes q) →
    (stored_next (bytes_stored bs (a + 1)) t).0 ≡ Ok tt → (stored_next (bytes_stored bs (a + 1)) t).1.bytes q ≡ stored_byte (b ∷ bs) a s.bytes q
next-put {Rest} b bs a q s (Ok u, n) first others h = others n h ∙ one-more b bs a q s.bytes n.bytes (first refl)
next-put {Rest} b bs a q s (Err e, n) first others h = absurd (apart e n h)

next-rest : {Rest : Type 0} (bs : List ℕ) (a : ℕ) (s : Contents Rest) (t : Stored Rest) → t.1.rest ≡ s.rest → ((n : Contents Rest) → (bytes_stored bs (a + 1) n).1.rest ≡ n.rest) →
    (stored_next (bytes_stored bs (a + 1)) t).1.rest ≡ s.rest
next-rest {Rest} bs a s (Ok u, n) first others = others n ∙ first
next-rest {Rest} bs a s (Err e, n) first others = first

pub stored-there : {Rest : Type 0} (bytes : List ℕ) (a : ℕ) (s : Contents Rest) (q : ℕ) → (bytes_stored bytes a s).0 ≡ Ok tt → (bytes_stored bytes a s).1.bytes q ≡ stored_byte bytes a s.bytes q
unfolding bytes_stored
stored-there [] a s q h = let none : (nat_le a q && nat_lt q (a + 0)) ≡ false = grind (arith, nat_tests) in rw none refl
stored-there (b ∷ bs) a s q h = next-put b bs a q s (byte_stored a b s) (λ g. byte-put s a b q g) (λ n g. stored-there bs (a + 1) n q g) h

pub stored-rest : {Rest : Type 0} (bytes : List ℕ) (a : ℕ) (s : Contents Rest) → (bytes_stored bytes a s).1.rest ≡ s.rest
unfolding bytes_stored
stored-rest [] a s = refl
stored-rest (b ∷ bs) a s = next-rest bs a s (byte_stored a b s) (byte-rest s a b) (λ n. stored-rest bs (a + 1) n)

pub end-there : {Rest : Type 0} (bytes : List ℕ) (a : ℕ) (s : Contents Rest) (q : ℕ) → (end_of space (moves.bytes_stored bytes a) s).0 ≡ Ok tt → (end_of space (moves.bytes_stored bytes a) s).1.bytes q ≡ stored_byte bytes a s.bytes q
end-there bytes a s q = rw (bytes-same bytes a s) (stored-there bytes a s q)

pub end-rest : {Rest : Type 0} (bytes : List ℕ) (a : ℕ) (s : Contents Rest) → (end_of space (moves.bytes_stored bytes a) s).1.rest ≡ s.rest
end-rest bytes a s = rw (bytes-same bytes a s) (stored-rest bytes a s)

pub ruleset storing = (end-there, end-rest)
