-- Where no call fails, bytes that are read in pieces are those of one read.
use Rattle.std.proofs.Common.{◌≡◌, ◌≢◌, ℕ, suc, zero, ◌+◌, ◌-◌, ◌*◌, ◌/◌, ◌≤◌, Bool, true, false, cond, List, [], ◌∷◌, ◌++◌, length, take, drop, Ok, Err, refl, sym, ◌∙◌, ap, subst, arith}
use Rattle.std.specs.Prelude.{Result, slice_set, ◌==◌}
use Rattle.std.proofs.lemmas.List.{length-take, set-set, take_all, drop_all, drop-drop, length-append}
use Rattle.std.proofs.Math.Seq.{take-add}
use Rattle.mx_mem.specs.Space.{Contents}
use Rattle.mx_host.specs.declared.faults.HostFault.{HostFault}
use Rattle.mx_host.specs.declared.faults.HostFault.TheVariants.{Misused}
use Rattle.mx_host.specs.declared.slots.Slot.{Slot}
use Rattle.mx_host.specs.declared.slots.Slot.TheVariants.{Closed, Open}
use Rattle.mx_host.specs.declared.slots.Mode.{Mode}
use Rattle.mx_host.specs.declared.slots.Lead.{Lead}
use Rattle.mx_host.specs.declared.slots.Lead.TheVariants.{Input, Output, Errors, File}
use Rattle.mx_host.specs.HostModel.{HostModel, slot_at, is_write_only, with_slot}
use Rattle.mx_host.specs.HostAnswer.{Then, read_answer, read_from, read_lead, bytes_at}
use Rattle.mx_host.proofs.Still.{still, read-still}
use Rattle.mx_word.proofs.Comparisons.{same-number, other-number, other-test}
use Rattle.mx_trap.specs.Moves.{Leaves, octa_minus, whole_pieces}
use Rattle.mx_plan.specs.Calls.{space, both}
use Rattle.mx_plan.specs.Plan.{end_of}
use Rattle.mx_trap.specs.Moves as moves
use Rattle.mx_trap.specs.Moves.{leaving}
use Rattle.mx_trap.proofs.Walks.{bytes-same, fread-same, read_pieces, read_piece, read_next, read_last, piece_got, bytes_stored, byte_stored, stored_next, fread}
use Rattle.mx_plan.specs.Counts.{unscheduled}
use Rattle.mx_trap.specs.Laws.{ComesTo}
use Rattle.mx_trap.specs.declared.answer.TrapAnswer.{TrapAnswer}
use Rattle.mx_trap.specs.declared.answer.TrapAnswer.TheVariants.{Value}
use Rattle.mx_trap.proofs.JoinedWrites.{within, slot-set}

-- ---- bytes that are stored, and others after them

-- a front is stored, and the back after it
abbrev StoresBoth : (Rest : Type 0) → List ℕ → List ℕ → ℕ → Contents Rest → Contents Rest → Type 0
StoresBoth Rest front back a s after =
    (between : Contents Rest) × (bytes_stored front a s ≡ (Ok tt, between)) × (bytes_stored back (a + length front) between ≡ (Ok tt, after))

abbrev StoresNext : (Rest : Type 0) → List ℕ → List ℕ → ℕ → Result (Unit {0}) TrapAnswer × Contents Rest → Contents Rest → Type 0
StoresNext Rest bs back a t after =
    (between : Contents Rest) × (stored_next (bytes_stored bs (a + 1)) t ≡ (Ok tt, between)) × (bytes_stored back (a + suc (length bs)) between ≡ (Ok tt, after))

next-split : {Rest : Type 0} (bs back : List ℕ) (a : ℕ) (t : Result (Unit {0}) TrapAnswer × Contents Rest) (after : Contents Rest) →
    ((s : Contents Rest) → bytes_stored (bs ++ back) (a + 1) s ≡ (Ok tt, after) → StoresBoth Rest bs back (a + 1) s after) →
    stored_next (bytes_stored (bs ++ back) (a + 1)) t ≡ (Ok tt, after) → StoresNext Rest bs back a t after
next-split {Rest} bs back a (Ok u, s) after f h =
    let t = f s h in
    let on : a + 1 + length bs ≡ a + suc (length bs) = omega arith in
    (t.0, t.1, ap (λ k. bytes_stored back k t.0) (sym on) ∙ t.2)
next-split {Rest} bs back a (Err e, s) after f h =
    let apart : ◌≡◌ {A = Result (Unit {0}) TrapAnswer} (Err e) (Ok tt) = ap (λ (t : Result (Unit {0}) TrapAnswer × Contents Rest). t.0) h in absurd (cc)

split-store : {Rest : Type 0} (front back : List ℕ) (a : ℕ) (s after : Contents Rest) → bytes_stored (front ++ back) a s ≡ (Ok tt, after) → StoresBoth Rest front back a s after
unfolding bytes_stored
split-store [] back a s after h = let here : a + 0 ≡ a = omega arith in (s, refl, ap (λ k. bytes_stored back k s) here ∙ h)
split-store (b ∷ bs) back a s after h = next-split bs back a (byte_stored a b s) after (λ n g. split-store bs back (a + 1) n after g) h

-- ---- one read of a slot that is open

pub read-open : (m : HostModel) (slot len : ℕ) (l : Lead) (mode : Mode) (place : ℕ) → slot_at m slot ≡ Open l mode place → is_write_only mode ≡ false →
    read_answer (still m) slot len ≡ read_lead (still m) slot len l mode place
unfolding read_answer
read-open m slot len l mode place e w =
    ap (read_from (still m) slot len) e ∙ ap (λ b. cond b (Err Misused, still m) (read_lead (still m) slot len l mode place)) w

-- ---- a read as two

-- a read of 4,096 + r bytes: the first 4,096 came short, or others came after them
data Split : HostModel → ℕ → ℕ → List ℕ → HostModel → Type 0 where
  short : (m : HostModel) (slot r : ℕ) (got : List ℕ) (after : HostModel) → length got ≢ 4096 →
      read_answer (still m) slot 4096 ≡ (Ok got, after) → Split m slot r got after
  further : (m : HostModel) (slot r : ℕ) (front back : List ℕ) (between after : HostModel) → length front ≡ 4096 →
      read_answer (still m) slot 4096 ≡ (Ok front, still between) → read_answer (still between) slot r ≡ (Ok back, after) → Split m slot r (front ++ back) after

few-left : (xs : List ℕ) (n : ℕ) → length (take n xs) ≢ n → length xs ≤ n
few-left xs n h = grind (arith, length-take n xs)

same-take : (xs : List ℕ) (n r : ℕ) → length xs ≤ n → take (n + r) xs ≡ take n xs
same-take xs n r l = take_all (n + r) xs (omega (arith, l)) ∙ sym (take_all n xs l)

same-drop : (xs : List ℕ) (n r : ℕ) → length xs ≤ n → drop (n + r) xs ≡ drop n xs
same-drop xs n r l = drop_all (n + r) xs (omega (arith, l)) ∙ sym (drop_all n xs l)

input-split : (m : HostModel) (slot r : ℕ) (mode : Mode) (place : ℕ) → slot_at m slot ≡ Open Input mode place → is_write_only mode ≡ false →
    Split m slot r (take (4096 + r) m.input) (record (still m) { input = drop (4096 + r) m.input })
input-split m slot r mode place e w = on (length (take 4096 m.input) == 4096) refl
  where
    on : (b : Bool) → (length (take 4096 m.input) == 4096) ≡ b → Split m slot r (take (4096 + r) m.input) (record (still m) { input = drop (4096 + r) m.input })
    on false f =
        let l : length m.input ≤ 4096 = few-left m.input 4096 (other-number _ _ f) in
        rw (same-take m.input 4096 r l, same-drop m.input 4096 r l) (short m slot r (take 4096 m.input) _ (other-number _ _ f) (read-open m slot 4096 Input mode place e w))
    on true f =
        rw (take-add 4096 r m.input, ← drop-drop r 4096 m.input)
        (further m slot r (take 4096 m.input) (take r (drop 4096 m.input)) (record m { input = drop 4096 m.input }) _ (same-number _ _ f)
        (read-open m slot 4096 Input mode place e w) (read-open (record m { input = drop 4096 m.input }) slot r Input mode place e w))

file-split : (m : HostModel) (slot r at : ℕ) (mode : Mode) (place : ℕ) → slot_at m slot ≡ Open (File at) mode place → is_write_only mode ≡ false →
    let got : List ℕ = take (4096 + r) (drop place (bytes_at m.files at)) in
    Split m slot r got (with_slot (still m) slot (Open (File at) mode (place + length got)))
file-split m slot r at mode place e w = on (length (take 4096 (drop place (bytes_at m.files at))) == 4096) refl
  where
    on : (b : Bool) → (length (take 4096 (drop place (bytes_at m.files at))) == 4096) ≡ b →
        let got : List ℕ = take (4096 + r) (drop place (bytes_at m.files at)) in
        Split m slot r got (with_slot (still m) slot (Open (File at) mode (place + length got)))
    on false f =
        let xs : List ℕ = drop place (bytes_at m.files at) in
        let l : length xs ≤ 4096 = few-left xs 4096 (other-number _ _ f) in
        subst (λ got. Split m slot r got (with_slot (still m) slot (Open (File at) mode (place + length got)))) (sym (same-take xs 4096 r l))
        (short m slot r (take 4096 xs) _ (other-number _ _ f) (read-open m slot 4096 (File at) mode place e w))
    on true f =
        let to : ℕ → Slot = λ k. Open (File at) mode k in
        let bytes : List ℕ = bytes_at m.files at in
        let front : List ℕ = take 4096 (drop place bytes) in
        let back : List ℕ = take r (drop (place + length front) bytes) in
        let size : length front ≡ 4096 = same-number _ _ f in
        let next : drop 4096 (drop place bytes) ≡ drop (place + length front) bytes =
        drop-drop 4096 place bytes ∙ ap (λ k. drop k bytes) (omega (arith, size)) in
        let all : take (4096 + r) (drop place bytes) ≡ front ++ back = take-add 4096 r (drop place bytes) ∙ ap (λ xs. front ++ take r xs) next in
        let sum : place + length front + length back ≡ place + length (front ++ back) = omega (arith, length-append front back) in
        let between : HostModel = with_slot m slot (to (place + length front)) in
        let second : read_answer (still between) slot r ≡ (Ok back, with_slot (still m) slot (to (place + length (front ++ back)))) =
        read-open between slot r (File at) mode (place + length front) (slot-set m.slots slot (to (place + length front)) Closed (within m.slots slot (File at) mode place e)) w
        ∙ ap (λ ss. (Ok back, record (still m) { slots = ss })) (set-set m.slots slot (to (place + length front)) (to (place + length front + length back)) ∙ ap (λ k. slice_set m.slots slot (to k)) sum) in
        subst (λ got. Split m slot r got (with_slot (still m) slot (to (place + length got)))) (sym all)
        (further m slot r front back between _ size (read-open m slot 4096 (File at) mode place e w) second)

-- what a read gives, where it is a read
abbrev Splits : HostModel → ℕ → ℕ → Then (Result (List ℕ) HostFault) → Type 0
Splits m slot r (Ok got, after) = Split m slot r got after
Splits m slot r (Err e, after) = Unit {0}

lead-split : (m : HostModel) (slot r : ℕ) (l : Lead) (mode : Mode) (place : ℕ) → slot_at m slot ≡ Open l mode place → is_write_only mode ≡ false →
    Splits m slot r (read_lead (still m) slot (4096 + r) l mode place)
lead-split m slot r Input mode place e w = input-split m slot r mode place e w
lead-split m slot r Output mode place e w = tt
lead-split m slot r Errors mode place e w = tt
lead-split m slot r (File at) mode place e w = file-split m slot r at mode place e w

slot-split : (m : HostModel) (slot r : ℕ) (s : Slot) → slot_at m slot ≡ s → Splits m slot r (read_from (still m) slot (4096 + r) s)
slot-split m slot r Closed e = tt
slot-split m slot r (Open l mode place) e = on (is_write_only mode) refl
  where
    on : (b : Bool) → is_write_only mode ≡ b → Splits m slot r (cond b (Err Misused, still m) (read_lead (still m) slot (4096 + r) l mode place))
    on true w = tt
    on false w = lead-split m slot r l mode place e w

read-split : (m : HostModel) (slot r : ℕ) → Splits m slot r (read_answer (still m) slot (4096 + r))
unfolding read_answer
read-split m slot r = slot-split m slot r (slot_at m slot) refl

-- ---- all pieces

-- what is read from here on, of q bytes in all
pub record Came {Rest : Type 0} (t : Leaves TrapAnswer Rest) (value : TrapAnswer) (s : Contents Rest) (after : HostModel) : Type 0 where
  pub answer : t.0 ≡ value
  pub space : t.1 ≡ s
  pub model : still t.2 ≡ after
  pub failing : t.2.failing ≡ []

last-came : {Rest : Type 0} (moved q a : ℕ) (s after : Contents Rest) (got : List ℕ) (r : Result (List ℕ) HostFault) (n : HostModel) → r ≡ Ok got → bytes_stored got a s ≡ (Ok tt, after) →
    n.failing ≡ [] → Came (read_last moved q (piece_got a q s (r, n))) (Value (octa_minus (moved + length got) q)) after (still n)
last-came moved q a s after got r n e h f = rw (e, h) (record { answer = refl; space = refl; model = refl; failing = f })

short-came : {Rest : Type 0} (more : Contents Rest → HostModel → Leaves TrapAnswer Rest) (moved q a : ℕ) (s after : Contents Rest) (got : List ℕ) (r : Result (List ℕ) HostFault) (n : HostModel) →
    r ≡ Ok got → length got ≢ 4096 → bytes_stored got a s ≡ (Ok tt, after) → n.failing ≡ [] →
    Came (read_next more moved q (piece_got a q s (r, n))) (Value (octa_minus (moved + length got) q)) after (still n)
short-came more moved q a s after got r n e l h f = rw (e, h, other-test (length got) 4096 l) (record { answer = refl; space = refl; model = refl; failing = f })

further-is : {Rest : Type 0} (more : Contents Rest → HostModel → Leaves TrapAnswer Rest) (moved q a : ℕ) (s between : Contents Rest) (front : List ℕ) (r : Result (List ℕ) HostFault) (n : HostModel) →
    r ≡ Ok front → length front ≡ 4096 → bytes_stored front a s ≡ (Ok tt, between) → read_next more moved q (piece_got a q s (r, n)) ≡ more between n
further-is more moved q a s between front r n e l h = rw (e, h, l) refl

split-came : {Rest : Type 0} (more : Contents Rest → HostModel → Leaves TrapAnswer Rest) (m : HostModel) (slot r p q moved : ℕ) (got : List ℕ) (after : HostModel) (s s' : Contents Rest) →
    ((between : Contents Rest) (n : HostModel) (back : List ℕ) → n.failing ≡ [] → read_answer (still n) slot r ≡ (Ok back, after) → bytes_stored back (p + (moved + 4096)) between ≡ (Ok tt, s') →
    Came (more between n) (Value (octa_minus (moved + 4096 + length back) q)) s' after) →
    m.failing ≡ [] → bytes_stored got (p + moved) s ≡ (Ok tt, s') → Split m slot r got after →
    Came (read_next more moved q (read_piece slot (p + moved) 4096 q s m)) (Value (octa_minus (moved + length got) q)) s' after
split-came {Rest} more m slot r p q moved got after s s' further-came f h (short _ _ _ _ _ l g) =
    let t : Then (Result (List ℕ) HostFault) = read_answer m slot 4096 in
    let st = read-still m slot 4096 f in
    let eq : (t.0, still t.1) ≡ (Ok got, after) = st.0 ∙ g in
    let came = short-came more moved q (p + moved) s s' got t.0 t.1 (ap (λ (u : Then (Result (List ℕ) HostFault)). u.0) eq) l h st.1 in
    subst (λ x. Came (read_next more moved q (read_piece slot (p + moved) 4096 q s m)) (Value (octa_minus (moved + length got) q)) s' x) (ap (λ (u : Then (Result (List ℕ) HostFault)). u.1) eq) came
split-came {Rest} more m slot r p q moved got after s s' further-came f h (further _ _ _ front back between _ l g g2) =
    let t : Then (Result (List ℕ) HostFault) = read_answer m slot 4096 in
    let st = read-still m slot 4096 f in
    let eq : (t.0, still t.1) ≡ (Ok front, still between) = st.0 ∙ g in
    let parts = split-store front back (p + moved) s s' h in
    let place : p + moved + length front ≡ p + (moved + 4096) = omega (arith, l) in
    let size : moved + 4096 + length back ≡ moved + length (front ++ back) = omega (arith, l, length-append front back) in
    let step = further-is more moved q (p + moved) s parts.0 front t.0 t.1 (ap (λ (u : Then (Result (List ℕ) HostFault)). u.0) eq) l parts.1 in
    let second = ap (λ x. read_answer x slot r) (ap (λ (u : Then (Result (List ℕ) HostFault)). u.1) eq) ∙ g2 in
    let came = further-came parts.0 t.1 back st.1 second (ap (λ x. bytes_stored back x parts.0) (sym place) ∙ parts.2) in
    subst (λ x. Came (read_next more moved q (read_piece slot (p + moved) 4096 q s m)) (Value (octa_minus x q)) s' after) size
    (subst (λ x. Came x (Value (octa_minus (moved + 4096 + length back) q)) s' after) (sym step) came)

pieces-came : {Rest : Type 0} (k slot p q moved : ℕ) (s s' : Contents Rest) (m after : HostModel) (got : List ℕ) → 4096 * k ≤ q - moved → m.failing ≡ [] →
    read_answer (still m) slot (q - moved) ≡ (Ok got, after) → bytes_stored got (p + moved) s ≡ (Ok tt, s') → Came (read_pieces k slot p q moved s m) (Value (octa_minus (moved + length got) q)) s' after
unfolding read_pieces
pieces-came {Rest} zero slot p q moved s s' m after got l f h stored =
    let t : Then (Result (List ℕ) HostFault) = read_answer m slot (q - moved) in
    let st = read-still m slot (q - moved) f in
    let eq : (t.0, still t.1) ≡ (Ok got, after) = st.0 ∙ h in
    let came = last-came moved q (p + moved) s s' got t.0 t.1 (ap (λ (u : Then (Result (List ℕ) HostFault)). u.0) eq) stored st.1 in
    subst (λ x. Came (read_last moved q (read_piece slot (p + moved) (q - moved) q s m)) (Value (octa_minus (moved + length got) q)) s' x) (ap (λ (u : Then (Result (List ℕ) HostFault)). u.1) eq) came
pieces-came {Rest} (suc k) slot p q moved s s' m after got l f h stored =
    let r : ℕ = q - (moved + 4096) in
    let few : 4096 * k ≤ r = omega (arith, l) in
    let whole : q - moved ≡ 4096 + r = omega (arith, l) in
    let split : Split m slot r got after = subst (Splits m slot r) (ap (read_answer (still m) slot) (sym whole) ∙ h) (read-split m slot r) in
    split-came (read_pieces k slot p q (moved + 4096)) m slot r p q moved got after s s'
    (λ between n back g h2 stored2. pieces-came k slot p q (moved + 4096) between s' n after back few g h2 stored2) f stored split

whole-few : (q : ℕ) → 4096 * ((q - 1) / 4096) ≤ q - 0
whole-few q = grind arith

pub fread-joined : {Rest : Type 0} (slot p q : ℕ) (s : Contents Rest) (m : HostModel) (got : List ℕ) → m.failing ≡ [] → (read_answer m slot q).0 ≡ Ok got → (bytes_stored got p s).0 ≡ Ok tt →
    ComesTo (fread slot p q s m) (Value (octa_minus (length got) q)) (bytes_stored got p s).1 (read_answer m slot q).1
fread-joined {Rest} slot p q s m got f h stored =
    let t : Then (Result (List ℕ) HostFault) = read_answer m slot q in
    let st = read-still m slot q f in
    let one : read_answer (still m) slot q ≡ (Ok got, still t.1) = sym st.0 ∙ ap (λ r. (r, still t.1)) h in
    let kept : bytes_stored got p s ≡ (Ok tt, (bytes_stored got p s).1) = ap (λ r. (r, (bytes_stored got p s).1)) stored in
    let here : p + 0 ≡ p = omega arith in
    let all : q - 0 ≡ q = omega arith in
    let none : 0 + length got ≡ length got = omega arith in
    let came = pieces-came (whole_pieces q) slot p q 0 s (bytes_stored got p s).1 m (still t.1) got (whole-few q) f (ap (read_answer (still m) slot) all ∙ one) (ap (λ a. bytes_stored got a s) here ∙ kept) in
    record { answer = came.answer ∙ ap (λ n. Value (octa_minus n q)) none; space = came.space; model = ap unscheduled came.model }

pub pieces-one : {Rest : Type 0} (slot p q : ℕ) (s : Contents Rest) (m : HostModel) (got : List ℕ) → m.failing ≡ [] → (read_answer m slot q).0 ≡ Ok got → (end_of space (moves.bytes_stored got p) s).0 ≡ Ok tt →
    ComesTo (leaving (end_of both (moves.fread slot p q) (s, m))) (Value (octa_minus (length got) q)) (end_of space (moves.bytes_stored got p) s).1 (read_answer m slot q).1
pieces-one slot p q s m got = rw (bytes-same got p s, fread-same slot p q s m) (fread-joined slot p q s m got)

pub ruleset joined = (pieces-one)
