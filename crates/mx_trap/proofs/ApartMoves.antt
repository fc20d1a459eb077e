-- What is moved to a space that differs in Stack_Segment, where nothing is put there.
use Rattle.std.proofs.Common.{◌≡◌, ◌≢◌, ℕ, suc, zero, ◌+◌, ◌-◌, ◌*◌, ◌<◌, ◌≤◌, Bool, true, false, cond, List, [], ◌∷◌, length, take, drop, min, arith, refl, ◌∙◌, ap, Ok, Err}
use Rattle.std.specs.Prelude.{Result, ◌==◌, not}
use Rattle.std.proofs.lemmas.Bool.Decides.{nat_tests}
use Rattle.std.proofs.lemmas.List.{length-take}
use Rattle.mx_word.proofs.Comparisons.{other-number}
use Rattle.mx_mem.specs.Space.{Contents, put_answer, with_byte, with_byte_page, begins_page, is_negative}
use Rattle.mx_mem.specs.declared.space.SpaceFault.{SpaceFault}
use Rattle.mx_mem.specs.declared.space.SpaceFault.TheVariants as space
use Rattle.mx_host.specs.HostModel.{HostModel, is_failing, is_write_only, counted, slot_at}
use Rattle.mx_host.specs.HostAnswer.{Then, read_answer, read_from, read_lead, bytes_at}
use Rattle.mx_host.specs.declared.faults.HostFault.{HostFault}
use Rattle.mx_host.specs.declared.slots.Slot.{Slot}
use Rattle.mx_host.specs.declared.slots.Slot.TheVariants.{Closed, Open}
use Rattle.mx_host.specs.declared.slots.Mode.{Mode}
use Rattle.mx_host.specs.declared.slots.Lead.{Lead}
use Rattle.mx_host.specs.declared.slots.Lead.TheVariants.{Input, Output, Errors, File}
use Rattle.mx_trap.specs.Apart.{apart, leaves_apart, with_segment, IsClear}
use Rattle.mx_trap.specs.Moves.{Leaves, minus_one, octa_minus, whole_pieces}
use Rattle.mx_trap.proofs.Walks.{stored, byte_stored, stored_next, bytes_stored, piece_stored, piece_got, read_piece, read_last, read_next, read_pieces, fread, line_ended, line_end, byte_put, byte_got, line_byte, line_next, line_bytes, fgets}
use Rattle.mx_word.specs.Segments.{is_in_stack_segment}
use Rattle.mx_trap.specs.declared.answer.TrapAnswer.{TrapAnswer}
use Rattle.mx_trap.specs.declared.answer.TrapAnswer.TheVariants.{Value}
use Rattle.mx_trap.proofs.ApartBytes.{clear-within}

-- BYTES THAT ARE STORED

abbrev pair-apart : {X A B : Type 0} → (ℕ → ℕ) → B → X × Contents A → X × Contents B
pair-apart others rest t = (t.0, apart others rest t.1)

four : {X Y : Type 0} (f : X → Y) (p q r : Bool) (x y z w : X) → cond p (f x) (cond q (f y) (cond r (f z) (f w))) ≡ f (cond p x (cond q y (cond r z w)))
four f true q r x y z w = refl
four f false true r x y z w = refl
four f false false true x y z w = refl
four f false false false x y z w = refl

swapped : (p r : Bool) (x y z : ℕ) → (p ≡ true → r ≡ false) → cond p x (cond r y z) ≡ cond r y (cond p x z)
swapped true true x y z h = absurd (let e : true ≡ false = h refl in cc)
swapped true false x y z h = refl
swapped false true x y z h = refl
swapped false false x y z h = refl

outside-at : (a q : ℕ) → is_in_stack_segment a ≡ false → (q == a) ≡ true → is_in_stack_segment q ≡ false
outside-at a q h e = grind (arith, nat_tests)

byte-apart : (others f : ℕ → ℕ) (a b : ℕ) → is_in_stack_segment a ≡ false → (λ q. cond (q == a) b (with_segment others f q)) ≡ with_segment others (λ q. cond (q == a) b (f q))
byte-apart others f a b h = λ i q. swapped (q == a) (is_in_stack_segment q) b (others q) (f q) (outside-at a q h) i

abbrev with-bytes : {A : Type 0} → Contents A → (ℕ → ℕ) → Contents A
with-bytes s f = record s { bytes = f }

with-apart : {A B : Type 0} (others : ℕ → ℕ) (rest : B) (s : Contents A) (a b : ℕ) → is_in_stack_segment a ≡ false → with_byte (apart others rest s) a b ≡ apart others rest (with_byte s a b)
with-apart others rest s a b h = ap (with-bytes (apart others rest s)) (byte-apart others s.bytes a b h)

page-apart : {A B : Type 0} (others : ℕ → ℕ) (rest : B) (s : Contents A) (a b : ℕ) → is_in_stack_segment a ≡ false → with_byte_page (apart others rest s) a b ≡ apart others rest (with_byte_page s a b)
page-apart others rest s a b h = ap (with-bytes (with_byte_page (apart others rest s) a b)) (byte-apart others s.bytes a b h)

put-apart : {A B : Type 0} (others : ℕ → ℕ) (rest : B) (s : Contents A) (a b : ℕ) → is_in_stack_segment a ≡ false → put_answer (apart others rest s) a b ≡ pair-apart others rest (put_answer s a b)
put-apart {A} {B} others rest s a b h =
    let old : Result (Unit {0}) SpaceFault × Contents B = (Err space.Negative, apart others rest s) in
    let full : Result (Unit {0}) SpaceFault × Contents B = (Err space.PagesFull, apart others rest s) in
    ap (λ (t : Contents B). cond (is_negative a) old (cond (not (begins_page s a)) (Ok tt, t) (cond (s.page_count == 65536) full (Ok tt, with_byte_page (apart others rest s) a b)))) (with-apart others rest s a b h)
    ∙ ap (λ (t : Contents B). cond (is_negative a) old (cond (not (begins_page s a)) (Ok tt, apart others rest (with_byte s a b)) (cond (s.page_count == 65536) full (Ok tt, t)))) (page-apart others rest s a b h)
    ∙ four (pair-apart {X = Result (Unit {0}) SpaceFault} {A = A} others rest) (is_negative a) (not (begins_page s a)) (s.page_count == 65536) (Err space.Negative, s) (Ok tt, with_byte s a b) (Err space.PagesFull, s) (Ok tt, with_byte_page s a b)

stored-after : {A B : Type 0} (others : ℕ → ℕ) (rest : B) (t : Result (Unit {0}) SpaceFault × Contents A) → stored (pair-apart others rest t) ≡ pair-apart others rest (stored t)
stored-after others rest (Ok u, s) = refl
stored-after others rest (Err e, s) = refl

byte-stored : {A B : Type 0} (others : ℕ → ℕ) (rest : B) (s : Contents A) (a b : ℕ) → is_in_stack_segment a ≡ false → byte_stored a b (apart others rest s) ≡ pair-apart others rest (byte_stored a b s)
byte-stored others rest s a b h = ap stored (put-apart others rest s a b h) ∙ stored-after others rest (put_answer s a b)

next-stored : {A B : Type 0} (others : ℕ → ℕ) (rest : B) (more : Contents A → Result (Unit {0}) TrapAnswer × Contents A) (more' : Contents B → Result (Unit {0}) TrapAnswer × Contents B) (t : Result (Unit {0}) TrapAnswer × Contents A) →
    ((s : Contents A) → more' (apart others rest s) ≡ pair-apart others rest (more s)) → stored_next more' (pair-apart others rest t) ≡ pair-apart others rest (stored_next more t)
next-stored others rest more more' (Ok u, s) h = h s
next-stored others rest more more' (Err e, s) h = refl

pub bytes-stored : {A B : Type 0} (others : ℕ → ℕ) (rest : B) (bs : List ℕ) (a : ℕ) (s : Contents A) → IsClear a (a + length bs) → bytes_stored bs a (apart others rest s) ≡ pair-apart others rest (bytes_stored bs a s)
unfolding bytes_stored
bytes-stored others rest [] a s h = refl
bytes-stored {A} {B} others rest (b ∷ bs) a s h =
    ap (stored_next (bytes_stored {Rest = B} bs (a + 1))) (byte-stored others rest s a b (h a (omega arith) (omega arith)))
    ∙ next-stored others rest (bytes_stored bs (a + 1)) (bytes_stored bs (a + 1)) (byte_stored a b s) (λ t. bytes-stored others rest bs (a + 1) t (clear-within a (a + suc (length bs)) (a + 1) (a + 1 + length bs) h (omega arith) (omega arith)))

-- PIECES

-- a read gives no more bytes than were asked for
abbrev Few : ℕ → Result (List ℕ) HostFault → Type 0
Few len (Ok got) = length got ≤ len
Few len (Err e) = Unit {0}

few-either : (len : ℕ) (b : Bool) (x y : Then (Result (List ℕ) HostFault)) → Few len x.0 → Few len y.0 → Few len (cond b x y).0
few-either len true x y h k = h
few-either len false x y h k = k

few-taken : (len : ℕ) (xs : List ℕ) → length (take len xs) ≤ len
few-taken len xs = let e : length (take len xs) ≡ min len (length xs) = length-take len xs in omega (arith, e)

few-lead : (m : HostModel) (slot len : ℕ) (l : Lead) (mode : Mode) (place : ℕ) → Few len (read_lead m slot len l mode place).0
few-lead m slot len Input mode place = few-taken len m.input
few-lead m slot len Output mode place = tt
few-lead m slot len Errors mode place = tt
few-lead m slot len (File at) mode place = few-taken len (drop place (bytes_at m.files at))

few-from : (m : HostModel) (slot len : ℕ) (s : Slot) → Few len (read_from m slot len s).0
few-from m slot len Closed = tt
few-from m slot len (Open l mode place) = few-either len (is_write_only mode) _ _ tt (few-lead m slot len l mode place)

few-read : (m : HostModel) (slot len : ℕ) → Few len (read_answer m slot len).0
unfolding read_answer
few-read m slot len = few-either len (is_failing m) _ _ tt (few-from (counted m) slot len (slot_at m slot))

piece-apart : {A B : Type 0} (others : ℕ → ℕ) (rest : B) (n : ℕ) (m : HostModel) (t : Result (Unit {0}) TrapAnswer × Contents A) → piece_stored n m (pair-apart others rest t) ≡ leaves_apart others rest (piece_stored n m t)
piece-apart others rest n m (Ok u, s) = refl
piece-apart others rest n m (Err e, s) = refl

got-apart : {A B : Type 0} (others : ℕ → ℕ) (rest : B) (a q len : ℕ) (s : Contents A) (t : Then (Result (List ℕ) HostFault)) → IsClear a (a + len) → Few len t.0 → piece_got a q (apart others rest s) t ≡ leaves_apart others rest (piece_got a q s t)
got-apart others rest a q len s (Ok got, m) h f = ap (piece_stored (length got) m) (bytes-stored others rest got a s (clear-within a (a + len) a (a + length got) h (omega arith) (omega (arith, f)))) ∙ piece-apart others rest (length got) m (bytes_stored got a s)
got-apart others rest a q len s (Err e, m) h f = refl

read-apart : {A B : Type 0} (others : ℕ → ℕ) (rest : B) (slot a len q : ℕ) (s : Contents A) (m : HostModel) → IsClear a (a + len) → read_piece slot a len q (apart others rest s) m ≡ leaves_apart others rest (read_piece slot a len q s m)
read-apart others rest slot a len q s m h = got-apart others rest a q len s (read_answer m slot len) h (few-read m slot len)

last-read : {A B : Type 0} (others : ℕ → ℕ) (rest : B) (moved q : ℕ) (t : Leaves (Result ℕ TrapAnswer) A) → read_last moved q (leaves_apart others rest t) ≡ leaves_apart others rest (read_last moved q t)
last-read others rest moved q (Ok n, s, m) = refl
last-read others rest moved q (Err e, s, m) = refl

either-apart : {A B : Type 0} (others : ℕ → ℕ) (rest : B) (b : Bool) (t u : Leaves TrapAnswer A) (t' u' : Leaves TrapAnswer B) → t' ≡ leaves_apart others rest t → u' ≡ leaves_apart others rest u → cond b t' u' ≡ leaves_apart others rest (cond b t u)
either-apart others rest true t u t' u' h k = h
either-apart others rest false t u t' u' h k = k

-- what follows goes apart too
abbrev GoesApart : {A B : Type 0} → (ℕ → ℕ) → B → (Contents A → HostModel → Leaves TrapAnswer A) → (Contents B → HostModel → Leaves TrapAnswer B) → Type 0
GoesApart {A} {B} others rest more more' = (s : Contents A) (m : HostModel) → more' (apart others rest s) m ≡ leaves_apart others rest (more s m)

next-read : {A B : Type 0} (others : ℕ → ℕ) (rest : B) (moved q : ℕ) (more : Contents A → HostModel → Leaves TrapAnswer A) (more' : Contents B → HostModel → Leaves TrapAnswer B) (t : Leaves (Result ℕ TrapAnswer) A) →
    GoesApart others rest more more' → read_next more' moved q (leaves_apart others rest t) ≡ leaves_apart others rest (read_next more moved q t)
next-read others rest moved q more more' (Ok n, s, m) h = either-apart others rest (n == 4096) (more s m) (Value (octa_minus (moved + n) q), s, m) _ _ (h s m) refl
next-read others rest moved q more more' (Err e, s, m) h = refl

pieces-apart : {A B : Type 0} (others : ℕ → ℕ) (rest : B) (k slot p q : ℕ) (moved : ℕ) (s : Contents A) (m : HostModel) → IsClear p (p + q) → moved + 4096 * k ≤ q → read_pieces k slot p q moved (apart others rest s) m ≡ leaves_apart others rest (read_pieces k slot p q moved s m)
unfolding read_pieces
pieces-apart others rest zero slot p q moved s m h l =
    ap (read_last moved q) (read-apart others rest slot (p + moved) (q - moved) q s m (clear-within p (p + q) (p + moved) (p + moved + (q - moved)) h (omega arith) (omega (arith, l))))
    ∙ last-read others rest moved q (read_piece slot (p + moved) (q - moved) q s m)
pieces-apart {A} {B} others rest (suc k) slot p q moved s m h l =
    ap (read_next (read_pieces {Rest = B} k slot p q (moved + 4096)) moved q) (read-apart others rest slot (p + moved) 4096 q s m (clear-within p (p + q) (p + moved) (p + moved + 4096) h (omega arith) (omega (arith, l))))
    ∙ next-read others rest moved q (read_pieces k slot p q (moved + 4096)) (read_pieces k slot p q (moved + 4096)) (read_piece slot (p + moved) 4096 q s m) (λ t n. pieces-apart others rest k slot p q (moved + 4096) t n h (omega (arith, l)))

pub fread-apart : {A B : Type 0} (others : ℕ → ℕ) (rest : B) (slot p q : ℕ) (s : Contents A) (m : HostModel) → IsClear p (p + q) → fread slot p q (apart others rest s) m ≡ leaves_apart others rest (fread slot p q s m)
fread-apart others rest slot p q s m h = pieces-apart others rest (whole_pieces q) slot p q 0 s m h (omega arith)

-- LINES

ended-apart : {A B : Type 0} (others : ℕ → ℕ) (rest : B) (count : ℕ) (m : HostModel) (t : Result (Unit {0}) TrapAnswer × Contents A) → line_ended count m (pair-apart others rest t) ≡ leaves_apart others rest (line_ended count m t)
ended-apart others rest count m (Ok u, s) = refl
ended-apart others rest count m (Err e, s) = refl

end-apart : {A B : Type 0} (others : ℕ → ℕ) (rest : B) (p count : ℕ) (s : Contents A) (m : HostModel) → is_in_stack_segment (p + count) ≡ false → line_end p count (apart others rest s) m ≡ leaves_apart others rest (line_end p count s m)
end-apart others rest p count s m h = ap (line_ended count m) (byte-stored others rest s (p + count) 0 h) ∙ ended-apart others rest count m (byte_stored (p + count) 0 s)

put-after : {A B : Type 0} (others : ℕ → ℕ) (rest : B) (b : ℕ) (m : HostModel) (t : Result (Unit {0}) TrapAnswer × Contents A) → byte_put b m (pair-apart others rest t) ≡ leaves_apart others rest (byte_put b m t)
put-after others rest b m (Ok u, s) = refl
put-after others rest b m (Err e, s) = refl

byte-got : {A B : Type 0} (others : ℕ → ℕ) (rest : B) (a : ℕ) (s : Contents A) (t : Then (Result (List ℕ) HostFault)) → is_in_stack_segment a ≡ false → byte_got a (apart others rest s) t ≡ leaves_apart others rest (byte_got a s t)
byte-got others rest a s (Ok [], m) h = refl
byte-got others rest a s (Ok (b ∷ bs), m) h = ap (byte_put b m) (byte-stored others rest s a b h) ∙ put-after others rest b m (byte_stored a b s)
byte-got others rest a s (Err e, m) h = refl

next-line : {A B : Type 0} (others : ℕ → ℕ) (rest : B) (p count : ℕ) (more : Contents A → HostModel → Leaves TrapAnswer A) (more' : Contents B → HostModel → Leaves TrapAnswer B) (t : Leaves (Result Bool TrapAnswer) A) →
    GoesApart others rest more more' → is_in_stack_segment (p + (count + 1)) ≡ false → line_next more' p count (leaves_apart others rest t) ≡ leaves_apart others rest (line_next more p count t)
next-line others rest p count more more' (Ok newline, s, m) h k = either-apart others rest newline (line_end p (count + 1) s m) (more s m) _ _ (end-apart others rest p (count + 1) s m k) (h s m)
next-line others rest p count more more' (Err e, s, m) h k = refl

line-apart : {A B : Type 0} (others : ℕ → ℕ) (rest : B) (room slot p q : ℕ) (count : ℕ) (s : Contents A) (m : HostModel) → IsClear p (p + q) → count + room < q → line_bytes room slot p count (apart others rest s) m ≡ leaves_apart others rest (line_bytes room slot p count s m)
unfolding line_bytes
line-apart others rest zero slot p q count s m h l = end-apart others rest p count s m (h (p + count) (omega arith) (omega (arith, l)))
line-apart {A} {B} others rest (suc room) slot p q count s m h l =
    ap (line_next (line_bytes {Rest = B} room slot p (count + 1)) p count) (byte-got others rest (p + count) s (read_answer m slot 1) (h (p + count) (omega arith) (omega (arith, l))))
    ∙ next-line others rest p count (line_bytes room slot p (count + 1)) (line_bytes room slot p (count + 1)) (line_byte slot (p + count) s m) (λ t n. line-apart others rest room slot p q (count + 1) t n h (omega (arith, l))) (h (p + (count + 1)) (omega arith) (omega (arith, l)))

fgets-if : {A B : Type 0} (others : ℕ → ℕ) (rest : B) (b : Bool) (slot p q : ℕ) (s : Contents A) (m : HostModel) → (q == 0) ≡ b → IsClear p (p + q) → cond b (Value minus_one, apart others rest s, m) (line_bytes (q - 1) slot p 0 (apart others rest s) m) ≡ leaves_apart others rest (cond b (Value minus_one, s, m) (line_bytes (q - 1) slot p 0 s m))
fgets-if others rest true slot p q s m e h = refl
fgets-if others rest false slot p q s m e h = line-apart others rest (q - 1) slot p q 0 s m h (let n : q ≢ 0 = other-number q 0 e in omega (arith, n))

pub fgets-apart : {A B : Type 0} (others : ℕ → ℕ) (rest : B) (slot p q : ℕ) (s : Contents A) (m : HostModel) → IsClear p (p + q) → fgets slot p q (apart others rest s) m ≡ leaves_apart others rest (fgets slot p q s m)
fgets-apart others rest slot p q s m h = fgets-if others rest (q == 0) slot p q s m refl h
