-- Where no call fails, Fgets on standard input reads a line.
use Rattle.std.proofs.Common.{◌≡◌, ℕ, suc, zero, ◌+◌, ◌-◌, ◌<◌, Bool, true, false, cond, List, [], ◌∷◌, ◌++◌, length, take, drop, Ok, Err, refl, sym, ◌∙◌, ap, subst, arith}
use Rattle.std.specs.Prelude.{Result, ◌==◌}
use Rattle.mx_mem.specs.Space.{Contents}
use Rattle.mx_host.specs.declared.faults.HostFault.{HostFault}
use Rattle.mx_host.specs.declared.slots.Slot.TheVariants.{Open}
use Rattle.mx_host.specs.declared.slots.Mode.TheVariants.{TextRead}
use Rattle.mx_host.specs.declared.slots.Lead.TheVariants.{Input}
use Rattle.mx_host.specs.HostModel.{HostModel, slot_at, to_input}
use Rattle.mx_host.specs.HostAnswer.{Then, read_answer}
use Rattle.mx_word.proofs.Comparisons.{other-test}
use Rattle.mx_host.proofs.Still.{still, read-still}
use Rattle.mx_trap.specs.Moves.{Leaves}
use Rattle.mx_plan.specs.Calls.{space, both}
use Rattle.mx_plan.specs.Plan.{end_of}
use Rattle.mx_trap.specs.Moves as moves
use Rattle.mx_trap.specs.Moves.{leaving}
use Rattle.mx_trap.proofs.Walks.{bytes-same, fgets-same, line_bytes, line_byte, line_next, line_end, byte_got, bytes_stored, byte_stored, stored_next, fgets}
use Rattle.mx_plan.specs.Counts.{unscheduled}
use Rattle.mx_trap.specs.Laws.{ComesTo, line_front, line_ends}
use Rattle.mx_trap.specs.declared.answer.TrapAnswer.{TrapAnswer}
use Rattle.mx_trap.specs.declared.answer.TrapAnswer.TheVariants.{Value}
use Rattle.mx_trap.proofs.JoinedReads.{Came, read-open}

abbrev Read : Type 0
Read = Then (Result (List ℕ) HostFault)

-- ---- the first of some bytes is stored, and the others after it

first-of : {Rest : Type 0} (bs : List ℕ) (a : ℕ) (t : Result (Unit {0}) TrapAnswer × Contents Rest) (after : Contents Rest) → stored_next (bytes_stored bs (a + 1)) t ≡ (Ok tt, after) →
    (between : Contents Rest) × (t ≡ (Ok tt, between)) × (bytes_stored bs (a + 1) between ≡ (Ok tt, after))
first-of {Rest} bs a (Ok u, n) after h = (n, refl, h)
first-of {Rest} bs a (Err e, n) after h =
    let apart : ◌≡◌ {A = Result (Unit {0}) TrapAnswer} (Err e) (Ok tt) = ap (λ (t : Result (Unit {0}) TrapAnswer × Contents Rest). t.0) h in absurd (cc)

first-stored : {Rest : Type 0} (b : ℕ) (bs : List ℕ) (a : ℕ) (s after : Contents Rest) → bytes_stored (b ∷ bs) a s ≡ (Ok tt, after) →
    (between : Contents Rest) × (byte_stored a b s ≡ (Ok tt, between)) × (bytes_stored bs (a + 1) between ≡ (Ok tt, after))
unfolding bytes_stored
first-stored b bs a s after h = first-of bs a (byte_stored a b s) after h

none-stored : {Rest : Type 0} (a : ℕ) (s after : Contents Rest) → bytes_stored [] a s ≡ (Ok tt, after) → s ≡ after
unfolding bytes_stored
none-stored {Rest} a s after h = ap (λ (t : Result (Unit {0}) TrapAnswer × Contents Rest). t.1) h

end-stored : {Rest : Type 0} (a : ℕ) (s after : Contents Rest) → bytes_stored (0 ∷ []) a s ≡ (Ok tt, after) → byte_stored a 0 s ≡ (Ok tt, after)
end-stored a s after h = let t = first-stored 0 [] a s after h in t.1 ∙ ap (λ n. (Ok tt, n)) (none-stored (a + 1) t.0 after t.2)

-- ---- a byte of standard input

one-read : (m : HostModel) (slot b place : ℕ) (bs : List ℕ) → slot_at m slot ≡ Open Input TextRead place → m.input ≡ b ∷ bs → read_answer (still m) slot 1 ≡ (Ok (b ∷ []), record (still m) { input = bs })
one-read m slot b place bs e i = read-open m slot 1 Input TextRead place e refl ∙ ap (λ xs. (Ok (take 1 xs), record (still m) { input = drop 1 xs })) i

ended-came : {Rest : Type 0} (p count : ℕ) (s after : Contents Rest) (n : HostModel) → byte_stored (p + count) 0 s ≡ (Ok tt, after) → n.failing ≡ [] →
    Came (line_end p count s n) (Value count) after (still n)
ended-came p count s after n h f = rw h (record { answer = refl; space = refl; model = refl; failing = f })

newline-is : {Rest : Type 0} (more : Contents Rest → HostModel → Leaves TrapAnswer Rest) (p count b : ℕ) (s between : Contents Rest) (r : Result (List ℕ) HostFault) (n : HostModel) →
    r ≡ Ok (b ∷ []) → byte_stored (p + count) b s ≡ (Ok tt, between) → (b == 10) ≡ true → line_next more p count (byte_got (p + count) s (r, n)) ≡ line_end p (count + 1) between n
newline-is more p count b s between r n e h t = rw (e, h, t) refl

further-is : {Rest : Type 0} (more : Contents Rest → HostModel → Leaves TrapAnswer Rest) (p count b : ℕ) (s between : Contents Rest) (r : Result (List ℕ) HostFault) (n : HostModel) →
    r ≡ Ok (b ∷ []) → byte_stored (p + count) b s ≡ (Ok tt, between) → (b == 10) ≡ false → line_next more p count (byte_got (p + count) s (r, n)) ≡ more between n
further-is more p count b s between r n e h t = rw (e, h, t) refl

-- ---- a line

abbrev Line : {Rest : Type 0} → ℕ → ℕ → ℕ → ℕ → Contents Rest → Contents Rest → HostModel → List ℕ → Type 0
Line room slot p count s after m xs =
    Came (line_bytes room slot p count s m) (Value (count + length (line_front room xs))) after (record (still m) { input = drop (length (line_front room xs)) xs })

step-came : {Rest : Type 0} (room slot p count place b : ℕ) (bs : List ℕ) (s after : Contents Rest) (m : HostModel) (t : Bool) → (b == 10) ≡ t → slot_at m slot ≡ Open Input TextRead place → m.failing ≡ [] →
    m.input ≡ b ∷ bs → cond t true (line_ends room bs) ≡ true → bytes_stored (b ∷ (cond t [] (line_front room bs) ++ 0 ∷ [])) (p + count) s ≡ (Ok tt, after) →
    ((between : Contents Rest) (n : HostModel) → slot_at n slot ≡ Open Input TextRead place → n.failing ≡ [] → n.input ≡ bs → line_ends room bs ≡ true →
    bytes_stored (line_front room bs ++ 0 ∷ []) (p + (count + 1)) between ≡ (Ok tt, after) → Line room slot p (count + 1) between after n bs) →
    Came (line_next (line_bytes room slot p (count + 1)) p count (line_byte slot (p + count) s m)) (Value (count + length (b ∷ cond t [] (line_front room bs)))) after
    (record (still m) { input = drop (length (b ∷ cond t [] (line_front room bs))) (b ∷ bs) })
step-came {Rest} room slot p count place b bs s after m true g e f i ends h others =
    let u : Read = read_answer m slot 1 in
    let st = read-still m slot 1 f in
    let eq : (u.0, still u.1) ≡ (Ok (b ∷ []), record (still m) { input = bs }) = st.0 ∙ one-read m slot b place bs e i in
    let parts = first-stored b (0 ∷ []) (p + count) s after h in
    let here : p + (count + 1) ≡ p + count + 1 = omega arith in
    let size : count + 1 ≡ count + length (b ∷ []) = omega arith in
    let zero-stored = end-stored (p + (count + 1)) parts.0 after (ap (λ a. bytes_stored (0 ∷ []) a parts.0) here ∙ parts.2) in
    let is = newline-is (line_bytes room slot p (count + 1)) p count b s parts.0 u.0 u.1 (ap (λ (v : Read). v.0) eq) parts.1 g in
    let came = ended-came p (count + 1) parts.0 after u.1 zero-stored st.1 in
    subst (λ x. Came (line_next (line_bytes room slot p (count + 1)) p count (line_byte slot (p + count) s m)) (Value x) after (record (still m) { input = bs })) size
    (subst (λ x. Came x (Value (count + 1)) after (record (still m) { input = bs })) (sym is)
    (subst (λ x. Came (line_end p (count + 1) parts.0 u.1) (Value (count + 1)) after x) (ap (λ (v : Read). v.1) eq) came))
step-came {Rest} room slot p count place b bs s after m false g e f i ends h others =
    let u : Read = read_answer m slot 1 in
    let st = read-still m slot 1 f in
    let eq : (u.0, still u.1) ≡ (Ok (b ∷ []), record (still m) { input = bs }) = st.0 ∙ one-read m slot b place bs e i in
    let model : still u.1 ≡ record (still m) { input = bs } = ap (λ (v : Read). v.1) eq in
    let parts = first-stored b (line_front room bs ++ 0 ∷ []) (p + count) s after h in
    let here : p + (count + 1) ≡ p + count + 1 = omega arith in
    let size : count + 1 + length (line_front room bs) ≡ count + length (b ∷ line_front room bs) = omega arith in
    let is = further-is (line_bytes room slot p (count + 1)) p count b s parts.0 u.0 u.1 (ap (λ (v : Read). v.0) eq) parts.1 g in
    let came = others parts.0 u.1 (ap (λ n. slot_at n slot) model ∙ e) st.1 (ap (λ (n : HostModel). n.input) model) ends (ap (λ a. bytes_stored (line_front room bs ++ 0 ∷ []) a parts.0) here ∙ parts.2) in
    let left : List ℕ = drop (length (line_front room bs)) bs in
    subst (λ x. Came (line_next (line_bytes room slot p (count + 1)) p count (line_byte slot (p + count) s m)) (Value x) after (record (still m) { input = left })) size
    (subst (λ x. Came x (Value (count + 1 + length (line_front room bs))) after (record (still m) { input = left })) (sym is)
    (subst (λ x. Came (line_bytes room slot p (count + 1) parts.0 u.1) (Value (count + 1 + length (line_front room bs))) after x) (ap (λ (n : HostModel). record n { input = left }) model) came))

line-came : {Rest : Type 0} (room slot p count place : ℕ) (s after : Contents Rest) (m : HostModel) (xs : List ℕ) → slot_at m slot ≡ Open Input TextRead place → m.failing ≡ [] → m.input ≡ xs →
    line_ends room xs ≡ true → bytes_stored (line_front room xs ++ 0 ∷ []) (p + count) s ≡ (Ok tt, after) → Line room slot p count s after m xs
unfolding line_bytes line_front line_ends
line-came {Rest} zero slot p count place s after m xs e f i ends h =
    let here : count ≡ count + 0 = omega arith in
    let came = ended-came p count s after m (end-stored (p + count) s after h) f in
    subst (λ n. Came (line_end p count s m) (Value n) after (record (still m) { input = xs })) here
    (subst (λ ys. Came (line_end p count s m) (Value count) after (record (still m) { input = ys })) i came)
line-came {Rest} (suc room) slot p count place s after m [] e f i ends h = absurd (cc)
line-came {Rest} (suc room) slot p count place s after m (b ∷ bs) e f i ends h =
    step-came room slot p count place b bs s after m (b == 10) refl e f i ends h
    (λ between n e2 f2 i2 ends2 h2. line-came room slot p (count + 1) place between after n bs e2 f2 i2 ends2 h2)

pub fgets-joined : {Rest : Type 0} (slot p q : ℕ) (s : Contents Rest) (m : HostModel) → 0 < q → m.failing ≡ [] → slot_at m slot ≡ to_input → line_ends (q - 1) m.input ≡ true →
    (bytes_stored (line_front (q - 1) m.input ++ 0 ∷ []) p s).0 ≡ Ok tt →
    ComesTo (fgets slot p q s m) (Value (length (line_front (q - 1) m.input))) (bytes_stored (line_front (q - 1) m.input ++ 0 ∷ []) p s).1
    (record m { input = drop (length (line_front (q - 1) m.input)) m.input })
fgets-joined {Rest} slot p q s m l f e ends h =
    let line : List ℕ = line_front (q - 1) m.input in
    let after : Contents Rest = (bytes_stored (line ++ 0 ∷ []) p s).1 in
    let kept : bytes_stored (line ++ 0 ∷ []) p s ≡ (Ok tt, after) = ap (λ r. (r, after)) h in
    let here : p + 0 ≡ p = omega arith in
    let none : 0 + length line ≡ length line = omega arith in
    let came = line-came (q - 1) slot p 0 0 s after m m.input e f refl ends (ap (λ a. bytes_stored (line ++ 0 ∷ []) a s) here ∙ kept) in
    let some : fgets slot p q s m ≡ line_bytes (q - 1) slot p 0 s m = ap (λ b. cond b (Value 0xffff_ffff_ffff_ffff, s, m) (line_bytes (q - 1) slot p 0 s m)) (other-test q 0 (λ z. omega (arith, l, z))) in
    record {
      answer = ap (λ (t : Leaves TrapAnswer Rest). t.0) some ∙ came.answer ∙ ap Value none;
      space = ap (λ (t : Leaves TrapAnswer Rest). t.1) some ∙ came.space;
      model = ap (λ (t : Leaves TrapAnswer Rest). unscheduled t.2) some ∙ ap unscheduled came.model;
    }

-- ---- an input that ends before the line

abbrev Cut : {Rest : Type 0} → ℕ → ℕ → ℕ → ℕ → Contents Rest → Contents Rest → HostModel → Type 0
Cut room slot p count s after m = Came (line_bytes room slot p count s m) (Value 0xffff_ffff_ffff_ffff) after (record (still m) { input = [] })

none-is : {Rest : Type 0} (more : Contents Rest → HostModel → Leaves TrapAnswer Rest) (p count : ℕ) (s : Contents Rest) (r : Result (List ℕ) HostFault) (n : HostModel) →
    r ≡ Ok [] → line_next more p count (byte_got (p + count) s (r, n)) ≡ (Value 0xffff_ffff_ffff_ffff, s, n)
none-is more p count s r n e = rw e refl

end-came : {Rest : Type 0} (room slot p count place : ℕ) (s after : Contents Rest) (m : HostModel) → slot_at m slot ≡ Open Input TextRead place → m.failing ≡ [] → m.input ≡ [] → s ≡ after →
    Came (line_next (line_bytes room slot p (count + 1)) p count (line_byte slot (p + count) s m)) (Value 0xffff_ffff_ffff_ffff) after (record (still m) { input = [] })
end-came {Rest} room slot p count place s after m e f i h =
    let u : Read = read_answer m slot 1 in
    let st = read-still m slot 1 f in
    let one : read_answer (still m) slot 1 ≡ (Ok [], record (still m) { input = [] }) = read-open m slot 1 Input TextRead place e refl ∙ ap (λ xs. (Ok (take 1 xs), record (still m) { input = drop 1 xs })) i in
    let eq : (u.0, still u.1) ≡ (Ok [], record (still m) { input = [] }) = st.0 ∙ one in
    let is = none-is (line_bytes room slot p (count + 1)) p count s u.0 u.1 (ap (λ (v : Read). v.0) eq) in
    record {
      answer = ap (λ (t : Leaves TrapAnswer Rest). t.0) is;
      space = ap (λ (t : Leaves TrapAnswer Rest). t.1) is ∙ h;
      model = ap (λ (t : Leaves TrapAnswer Rest). still t.2) is ∙ ap (λ (v : Read). v.1) eq;
      failing = ap (λ (t : Leaves TrapAnswer Rest). t.2.failing) is ∙ st.1;
    }

more-came : {Rest : Type 0} (room slot p count place b : ℕ) (bs : List ℕ) (s after : Contents Rest) (m : HostModel) (t : Bool) → (b == 10) ≡ t → slot_at m slot ≡ Open Input TextRead place → m.failing ≡ [] →
    m.input ≡ b ∷ bs → cond t true (line_ends room bs) ≡ false → bytes_stored (b ∷ cond t [] (line_front room bs)) (p + count) s ≡ (Ok tt, after) →
    ((between : Contents Rest) (n : HostModel) → slot_at n slot ≡ Open Input TextRead place → n.failing ≡ [] → n.input ≡ bs → line_ends room bs ≡ false →
    bytes_stored (line_front room bs) (p + (count + 1)) between ≡ (Ok tt, after) → Cut room slot p (count + 1) between after n) →
    Came (line_next (line_bytes room slot p (count + 1)) p count (line_byte slot (p + count) s m)) (Value 0xffff_ffff_ffff_ffff) after (record (still m) { input = [] })
more-came {Rest} room slot p count place b bs s after m true g e f i ends h others = absurd (cc)
more-came {Rest} room slot p count place b bs s after m false g e f i ends h others =
    let u : Read = read_answer m slot 1 in
    let st = read-still m slot 1 f in
    let eq : (u.0, still u.1) ≡ (Ok (b ∷ []), record (still m) { input = bs }) = st.0 ∙ one-read m slot b place bs e i in
    let model : still u.1 ≡ record (still m) { input = bs } = ap (λ (v : Read). v.1) eq in
    let parts = first-stored b (line_front room bs) (p + count) s after h in
    let here : p + (count + 1) ≡ p + count + 1 = omega arith in
    let is = further-is (line_bytes room slot p (count + 1)) p count b s parts.0 u.0 u.1 (ap (λ (v : Read). v.0) eq) parts.1 g in
    let came = others parts.0 u.1 (ap (λ n. slot_at n slot) model ∙ e) st.1 (ap (λ (n : HostModel). n.input) model) ends (ap (λ a. bytes_stored (line_front room bs) a parts.0) here ∙ parts.2) in
    subst (λ x. Came x (Value 0xffff_ffff_ffff_ffff) after (record (still m) { input = [] })) (sym is)
    (subst (λ x. Came (line_bytes room slot p (count + 1) parts.0 u.1) (Value 0xffff_ffff_ffff_ffff) after x) (ap (λ (n : HostModel). record n { input = [] }) model) came)

cut-came : {Rest : Type 0} (room slot p count place : ℕ) (s after : Contents Rest) (m : HostModel) (xs : List ℕ) → slot_at m slot ≡ Open Input TextRead place → m.failing ≡ [] → m.input ≡ xs →
    line_ends room xs ≡ false → bytes_stored (line_front room xs) (p + count) s ≡ (Ok tt, after) → Cut room slot p count s after m
unfolding line_bytes line_front line_ends
cut-came {Rest} zero slot p count place s after m xs e f i ends h = absurd (cc)
cut-came {Rest} (suc room) slot p count place s after m [] e f i ends h = end-came room slot p count place s after m e f i (none-stored (p + count) s after h)
cut-came {Rest} (suc room) slot p count place s after m (b ∷ bs) e f i ends h =
    more-came room slot p count place b bs s after m (b == 10) refl e f i ends h
    (λ between n e2 f2 i2 ends2 h2. cut-came room slot p (count + 1) place between after n bs e2 f2 i2 ends2 h2)

pub fgets-cut : {Rest : Type 0} (slot p q : ℕ) (s : Contents Rest) (m : HostModel) → 0 < q → m.failing ≡ [] → slot_at m slot ≡ to_input → line_ends (q - 1) m.input ≡ false →
    (bytes_stored (line_front (q - 1) m.input) p s).0 ≡ Ok tt →
    ComesTo (fgets slot p q s m) (Value 0xffff_ffff_ffff_ffff) (bytes_stored (line_front (q - 1) m.input) p s).1 (record m { input = [] })
fgets-cut {Rest} slot p q s m l f e ends h =
    let line : List ℕ = line_front (q - 1) m.input in
    let after : Contents Rest = (bytes_stored line p s).1 in
    let kept : bytes_stored line p s ≡ (Ok tt, after) = ap (λ r. (r, after)) h in
    let here : p + 0 ≡ p = omega arith in
    let came = cut-came (q - 1) slot p 0 0 s after m m.input e f refl ends (ap (λ a. bytes_stored line a s) here ∙ kept) in
    let some : fgets slot p q s m ≡ line_bytes (q - 1) slot p 0 s m = ap (λ b. cond b (Value 0xffff_ffff_ffff_ffff, s, m) (line_bytes (q - 1) slot p 0 s m)) (other-test q 0 (λ z. omega (arith, l, z))) in
    record {
      answer = ap (λ (t : Leaves TrapAnswer Rest). t.0) some ∙ came.answer;
      space = ap (λ (t : Leaves TrapAnswer Rest). t.1) some ∙ came.space;
      model = ap (λ (t : Leaves TrapAnswer Rest). unscheduled t.2) some ∙ ap unscheduled came.model;
    }

-- ---- the same of the ends of the plans

pub lines-one : {Rest : Type 0} (slot p q : ℕ) (s : Contents Rest) (m : HostModel) → 0 < q → m.failing ≡ [] → slot_at m slot ≡ to_input → line_ends (q - 1) m.input ≡ true →
    (end_of space (moves.bytes_stored (line_front (q - 1) m.input ++ 0 ∷ []) p) s).0 ≡ Ok tt →
    ComesTo (leaving (end_of both (moves.fgets slot p q) (s, m))) (Value (length (line_front (q - 1) m.input))) (end_of space (moves.bytes_stored (line_front (q - 1) m.input ++ 0 ∷ []) p) s).1
    (record m { input = drop (length (line_front (q - 1) m.input)) m.input })
lines-one slot p q s m = rw (bytes-same (line_front (q - 1) m.input ++ 0 ∷ []) p s, fgets-same slot p q s m) (fgets-joined slot p q s m)

pub lines-cut : {Rest : Type 0} (slot p q : ℕ) (s : Contents Rest) (m : HostModel) → 0 < q → m.failing ≡ [] → slot_at m slot ≡ to_input → line_ends (q - 1) m.input ≡ false →
    (end_of space (moves.bytes_stored (line_front (q - 1) m.input) p) s).0 ≡ Ok tt →
    ComesTo (leaving (end_of both (moves.fgets slot p q) (s, m))) (Value 0xffff_ffff_ffff_ffff) (end_of space (moves.bytes_stored (line_front (q - 1) m.input) p) s).1 (record m { input = [] })
lines-cut slot p q s m = rw (bytes-same (line_front (q - 1) m.input) p s, fgets-same slot p q s m) (fgets-cut slot p q s m)

pub ruleset joined = (lines-one, lines-cut)
