-- What was overwritten is put back.
use Rattle.std.proofs.Common.{◌≡◌, ◌≢◌, ℕ, ◌+◌, ◌-◌, ◌^◌, ◌≤◌, ◌<◌, true, false, cond, nat_lt, nat_le, ◌&&◌, List, [], ◌∷◌, ◌++◌, length, take, drop, min, get_or, set, replicate, arith, refl, sym, ◌∙◌, ap, ⊎_elim, ◌⊎◌, inl, inr}
use Rattle.std.proofs.lemmas.Bool.{cases_eq, cases_lt}
use Rattle.std.proofs.lemmas.Bool.Decides.{nat_tests}
use Rattle.std.proofs.lemmas.List.{append_assoc, append-nil, length-append, length-take-le, length-drop, length-set, take_at, drop_at, take-take, take-append-drop, take-append-le, take_all, set-set, set_comm, set-get_or, ext_get_or, get_or-set_same, get_or-set_other, get_or-take, get_or-drop, get_or_append_left, get_or-append_right}
use Rattle.std.proofs.Math.Seq.{take-add}
use Rattle.mx_word.specs.Lists.{with_part}
use Rattle.mx_registers.proofs.Octas.{Fits, length-octas, spilled-below, spilled-octas, room-is, room-none}
use Rattle.mx_registers.proofs.Spilled.{length-with_part}
use Rattle.mx_registers.proofs.Values.{with_value-global, with_value-local, with_value-marginal}
use Rattle.mx_registers.specs.HiddenPart.{HiddenPart, octas_of, with_hidden, with_spilled, with_room, with_first, with_octa, with_stack_first, put_back}
use Rattle.mx_ring.specs.Notes.{some, given_back, registers_undone, above_room, octa_after_spill}
use Rattle.mx_registers.specs.Registers.{Registers, is_marginal, value_of, with_value, with_locals_cut}

-- LISTS

nothing-put : (xs : List ℕ) (s : ℕ) → with_part xs s [] ≡ xs
nothing-put xs s =
    let here : s + 0 ≡ s = omega arith in
    rw here (ap (λ ys. ys ++ drop s xs) (append-nil (take s xs)) ∙ take-append-drop s xs)

-- as many items in place of others, and these back
part-back : (xs ys : List ℕ) (s n : ℕ) → n ≡ length ys → s + n ≤ length xs → with_part (with_part xs s ys) s (take n (drop s xs)) ≡ xs
part-back xs ys s n e f =
    let front : length (take s xs) ≡ s = length-take-le s xs (omega (arith, f)) in
    let size : length (take n (drop s xs)) ≡ n = length-take-le n (drop s xs) (omega (arith, f, length-drop s xs)) in
    let both : length (take s xs ++ ys) ≡ s + n = omega (arith, length-append (take s xs) ys, front, e) in
    let kept : take s (with_part xs s ys) ≡ take s xs =
    ap (take s) (append_assoc (take s xs) ys (drop (s + length ys) xs)) ∙ take_at (take s xs) (ys ++ drop (s + length ys) xs) s front in
    let rest : drop (s + n) (with_part xs s ys) ≡ drop (s + n) xs = drop_at (take s xs ++ ys) (drop (s + length ys) xs) (s + n) both ∙ ap (λ m. drop (s + m) xs) (sym e) in
    rw (size, kept, rest) (ap (λ zs. zs ++ drop (s + n) xs) (sym (take-add s n xs)) ∙ take-append-drop (s + n) xs)

-- REGISTERS

pub same-given : (v : Registers) (k : ℕ) → given_back v k (value_of v k) ≡ v
unfolding value_of
same-given v k = ⊎_elim (λ f. below f) (λ f. global f) (cases_lt k v.first_global)
  where
    global : v.first_global ≤ k → given_back v k (value_of v k) ≡ v
    global f =
        let apart : is_marginal v k ≡ false = grind (arith, nat_tests) in
        let value : value_of v k ≡ get_or v.globals (k - v.first_global) 0 = grind (arith, nat_tests) in
        rw (apart, value) (with_value-global v k _ f ∙ ap (λ (xs : List ℕ). record v { globals = xs }) (set-get_or v.globals (k - v.first_global) 0))

    local : k < v.first_global → k < length v.locals → given_back v k (value_of v k) ≡ v
    local f g =
        let apart : is_marginal v k ≡ false = grind (arith, nat_tests) in
        let value : value_of v k ≡ get_or v.locals k 0 = grind (arith, nat_tests) in
        rw (apart, value) (with_value-local v k _ f g ∙ ap (λ (xs : List ℕ). record v { locals = xs }) (set-get_or v.locals k 0))

    marginal : k < v.first_global → length v.locals ≤ k → given_back v k (value_of v k) ≡ v
    marginal f g =
        let here : is_marginal v k ≡ true = grind (arith, nat_tests) in
        rw here refl

    below : k < v.first_global → given_back v k (value_of v k) ≡ v
    below f = ⊎_elim (λ g. local f g) (λ g. marginal f g) (cases_lt k (length v.locals))

all-locals : (v : Registers) → with_locals_cut v (length v.locals) ≡ v
all-locals v = ap (λ (xs : List ℕ). record v { locals = xs }) (take_all (length v.locals) v.locals (omega arith))

given-is : (v : Registers) (k y : ℕ) → is_marginal v k ≡ false → given_back v k y ≡ with_value v k y
given-is v k y e = ap (λ b. cond b v (with_value v k y)) e

-- $k was given a value, and is given another
twice-given : (v : Registers) (k x y : ℕ) → given_back (with_locals_cut (with_value v k x) (length v.locals)) k y ≡ given_back v k y
twice-given v k x y = ⊎_elim (λ f. below f) (λ f. global f) (cases_lt k v.first_global)
  where
    global : v.first_global ≤ k → given_back (with_locals_cut (with_value v k x) (length v.locals)) k y ≡ given_back v k y
    global f =
        let apart : is_marginal v k ≡ false = grind (arith, nat_tests) in
        let after : Registers = record v { globals = set v.globals (k - v.first_global) x } in
        ap (λ u. given_back (with_locals_cut u (length v.locals)) k y) (with_value-global v k x f) ∙ ap (λ u. given_back u k y) (all-locals after) ∙ given-is after k y apart
        ∙ with_value-global after k y f ∙ ap (λ (xs : List ℕ). record v { globals = xs }) (set-set v.globals (k - v.first_global) x y) ∙ sym (with_value-global v k y f) ∙ sym (given-is v k y apart)

    local : k < v.first_global → k < length v.locals → given_back (with_locals_cut (with_value v k x) (length v.locals)) k y ≡ given_back v k y
    local f g =
        let apart : is_marginal v k ≡ false = grind (arith, nat_tests) in
        let after : Registers = record v { locals = set v.locals k x } in
        let size : length (set v.locals k x) ≡ length v.locals = length-set v.locals k x in
        let cut : with_locals_cut after (length v.locals) ≡ after = ap (with_locals_cut after) (sym size) ∙ all-locals after in
        let still : is_marginal after k ≡ false = ap (λ n. nat_lt k v.first_global && nat_le n k) size ∙ apart in
        ap (λ u. given_back (with_locals_cut u (length v.locals)) k y) (with_value-local v k x f g) ∙ ap (λ u. given_back u k y) cut ∙ given-is after k y still
        ∙ with_value-local after k y f (omega (arith, g, size)) ∙ ap (λ (xs : List ℕ). record v { locals = xs }) (set-set v.locals k x y) ∙ sym (with_value-local v k y f g) ∙ sym (given-is v k y apart)

    marginal : k < v.first_global → length v.locals ≤ k → given_back (with_locals_cut (with_value v k x) (length v.locals)) k y ≡ given_back v k y
    marginal f g =
        let front : take (length v.locals) (v.locals ++ replicate (k - length v.locals) 0 ++ x ∷ []) ≡ v.locals =
        ap (take (length v.locals)) (append_assoc v.locals (replicate (k - length v.locals) 0) (x ∷ [])) ∙ take_at v.locals (replicate (k - length v.locals) 0 ++ x ∷ []) (length v.locals) refl in
        rw (with_value-marginal v k x f g) (ap (λ (xs : List ℕ). given_back (record v { locals = xs }) k y) front)

    below : k < v.first_global → given_back (with_locals_cut (with_value v k x) (length v.locals)) k y ≡ given_back v k y
    below f = ⊎_elim (λ g. local f g) (λ g. marginal f g) (cases_lt k (length v.locals))

pub set-undone : (v : Registers) (k x : ℕ) → registers_undone (some (length v.locals) k (value_of v k) (value_of v 255)) (with_value v k x) ≡ v
set-undone v k x = ap (λ u. given_back u 255 (value_of v 255)) (twice-given v k x (value_of v k) ∙ same-given v k) ∙ same-given v 255

pub none-undone : (v : Registers) → registers_undone (some (length v.locals) 255 (value_of v 255) (value_of v 255)) v ≡ v
none-undone v = ap (λ u. given_back (given_back u 255 (value_of v 255)) 255 (value_of v 255)) (all-locals v) ∙ ap (λ u. given_back u 255 (value_of v 255)) (same-given v 255) ∙ same-given v 255

-- HIDDEN OCTAS

-- the octas in the ring are those after the spilled ones
following : (h : HiddenPart) (xs : List ℕ) → h.spilled ≤ length h.stack → drop h.spilled (take h.spilled h.stack ++ xs) ≡ xs
following h xs f = drop_at (take h.spilled h.stack) xs h.spilled (length-take-le h.spilled h.stack f)

-- what stays and what is gone make the octas in the ring
stay-gone : (xs ys : List ℕ) (n : ℕ) → take n ys ≡ take n xs → take n ys ++ drop n xs ≡ xs
stay-gone xs ys n e = ap (λ zs. zs ++ drop n xs) e ∙ take-append-drop n xs

pub hidden-kept : (h : HiddenPart) (n : ℕ) → h.spilled ≤ length h.stack → put_back h h.spilled [] n (drop n h.resident) ≡ h
unfolding put_back
hidden-kept h n f = rw (nothing-put h.stack h.spilled, following h h.resident f) (ap (λ (xs : List ℕ). record h { resident = xs }) (take-append-drop n h.resident))

-- octas are hidden, and the oldest spill
pub grown-back : (h : HiddenPart) (octas : List ℕ) (n : ℕ) → Fits (with_hidden h octas) (2 ^ 20) → Fits h (2 ^ 20) → n ≤ length (with_hidden h octas).resident →
    put_back (with_spilled (with_hidden h octas) n) h.spilled (take n (drop h.spilled h.stack)) (length h.resident) (drop (length h.resident) h.resident) ≡ h
unfolding put_back with_spilled
grown-back h octas n f g low =
    let low' : h.spilled ≤ length h.stack = spilled-below h (2 ^ 20) g in
    let size : n ≡ length (take n (h.resident ++ octas)) = sym (length-take-le n (h.resident ++ octas) low) in
    let count : length (octas_of (with_hidden h octas)) ≡ h.spilled + length (h.resident ++ octas) = length-octas (with_hidden h octas) (2 ^ 20) f in
    let room : h.spilled + n ≤ length h.stack = omega (arith, f.area, f.has_room, low, count) in
    let same : octas_of (with_spilled (with_hidden h octas) n) ≡ take h.spilled h.stack ++ (h.resident ++ octas) = spilled-octas (with_hidden h octas) (2 ^ 20) n f low in
    let left : take (length h.resident) (drop h.spilled (octas_of (with_spilled (with_hidden h octas) n))) ≡ take (length h.resident) h.resident =
    ap (λ xs. take (length h.resident) (drop h.spilled xs)) same ∙ ap (take (length h.resident)) (following h (h.resident ++ octas) low') ∙ take-append-le (length h.resident) h.resident octas (omega arith) in
    rw (part-back h.stack (take n (h.resident ++ octas)) h.spilled n size room) (ap (λ (xs : List ℕ). record h { resident = xs }) (stay-gone h.resident _ (length h.resident) left))

pub nothing-spilled : (h : HiddenPart) → with_spilled h 0 ≡ h
unfolding with_spilled
nothing-spilled h =
    let here : h.spilled + 0 ≡ h.spilled = omega arith in
    λ i. record { stack = nothing-put h.stack h.spilled i; spilled = here i; resident = h.resident }

-- a window spills what is above its room
pub room-spilled : (h : HiddenPart) (l size : ℕ) → with_room h l size ≡ with_spilled h (above_room (length h.resident + l) size)
room-spilled h l size = ⊎_elim (λ f. none f) (λ f. some' f) (cases_lt (length h.resident + l) size)
  where
    none : length h.resident + l < size → with_room h l size ≡ with_spilled h (above_room (length h.resident + l) size)
    none f =
        let zero' : above_room (length h.resident + l) size ≡ 0 = grind (arith, nat_tests) in
        room-none h l size f ∙ sym (ap (with_spilled h) zero' ∙ nothing-spilled h)

    some' : size ≤ length h.resident + l → with_room h l size ≡ with_spilled h (above_room (length h.resident + l) size)
    some' f =
        let all' : above_room (length h.resident + l) size ≡ length h.resident + l + 1 - size = grind (arith, nat_tests) in
        room-is h l size f ∙ sym (ap (with_spilled h) all')

-- only the first m octas stay hidden
pub first-back : (h : HiddenPart) (m n : ℕ) → h.spilled ≤ length h.stack → n ≤ m - h.spilled → put_back (with_first h m) h.spilled [] n (drop n h.resident) ≡ h
unfolding put_back with_first
first-back h m n f g =
    rw (nothing-put h.stack h.spilled) (ap (λ (xs : List ℕ). record h { resident = xs }) (stay-gone h.resident _ n (⊎_elim (λ e. low e) (λ e. high e) (cases_lt m h.spilled))))
  where
    low : m < h.spilled → take n (drop h.spilled (take (min h.spilled m) h.stack ++ take (m - h.spilled) h.resident)) ≡ take n h.resident
    low e =
        let zero' : n ≡ 0 = omega (arith, e, g) in
        rw zero' refl

    high : h.spilled ≤ m → take n (drop h.spilled (take (min h.spilled m) h.stack ++ take (m - h.spilled) h.resident)) ≡ take n h.resident
    high e =
        let same : min h.spilled m ≡ h.spilled = omega arith in
        rw same (ap (take n) (following h (take (m - h.spilled) h.resident) f) ∙ take-take n (m - h.spilled) h.resident g)

-- the first m octas of the stack area are the hidden ones
pub read-back : (h : HiddenPart) (m : ℕ) → put_back (with_stack_first h m) h.spilled [] 0 (drop 0 h.resident) ≡ h
unfolding put_back
read-back h m = rw (nothing-put h.stack h.spilled) refl

-- an octa is overwritten
pub octa-back : (h : HiddenPart) (i x : ℕ) → with_octa (with_octa h i x) i (get_or h.stack i 0) ≡ h
octa-back h i x = ap (λ (xs : List ℕ). record h { stack = xs }) (set-set h.stack i x (get_or h.stack i 0) ∙ set-get_or h.stack i 0)

-- REGISTERS, where $255 was given a value last

set-between : (xs : List ℕ) (j m y a b : ℕ) → set (set (set xs j y) m a) j b ≡ set (set xs m a) j b
set-between xs j m y a b = ⊎_elim (λ e. same e) (λ ne. apart ne) (cases_eq m j)
  where
    same : m ≡ j → set (set (set xs j y) m a) j b ≡ set (set xs m a) j b
    same e = ap (λ n. set (set (set xs j y) n a) j b) e ∙ ap (λ ys. set ys j b) (set-set xs j y a) ∙ ap (λ n. set (set xs n a) j b) (sym e)

    apart : m ≢ j → set (set (set xs j y) m a) j b ≡ set (set xs m a) j b
    apart ne = set_comm (set xs j y) m j a b ne ∙ ap (λ ys. set ys m a) (set-set xs j y b) ∙ sym (set_comm xs m j a b ne)

last-given : (v : Registers) (b : ℕ) → v.first_global ≤ 255 → given_back v 255 b ≡ record v { globals = set v.globals (255 - v.first_global) b }
last-given v b f =
    let apart : is_marginal v 255 ≡ false = grind (arith, nat_tests) in
    given-is v 255 b apart ∙ with_value-global v 255 b f

-- with these globals
abbrev globals-set : Registers → List ℕ → Registers
globals-set v xs = record v { globals = xs }

given-between : (v : Registers) (k y a b : ℕ) → v.first_global ≤ 255 → given_back (given_back (globals-set v (set v.globals (255 - v.first_global) y)) k a) 255 b ≡ given_back (given_back v k a) 255 b
given-between v k y a b f = ⊎_elim (λ l. below l) (λ g. global g) (cases_lt k v.first_global)
  where
    j : ℕ
    j = 255 - v.first_global

    u : Registers
    u = globals-set v (set v.globals j y)

    global : v.first_global ≤ k → given_back (given_back u k a) 255 b ≡ given_back (given_back v k a) 255 b
    global g =
        let apart : is_marginal v k ≡ false = grind (arith, nat_tests) in
        let m : ℕ = k - v.first_global in
        ap (λ w. given_back w 255 b) (given-is u k a apart ∙ with_value-global u k a g) ∙ last-given (globals-set v (set (set v.globals j y) m a)) b f
        ∙ ap (globals-set v) (set-between v.globals j m y a b)
        ∙ sym (ap (λ w. given_back w 255 b) (given-is v k a apart ∙ with_value-global v k a g) ∙ last-given (globals-set v (set v.globals m a)) b f)

    local : k < v.first_global → k < length v.locals → given_back (given_back u k a) 255 b ≡ given_back (given_back v k a) 255 b
    local l m =
        let apart : is_marginal v k ≡ false = grind (arith, nat_tests) in
        let w : Registers = record v { locals = set v.locals k a } in
        ap (λ z. given_back z 255 b) (given-is u k a apart ∙ with_value-local u k a l m) ∙ last-given (globals-set w (set v.globals j y)) b f
        ∙ ap (globals-set w) (set-set v.globals j y b)
        ∙ sym (ap (λ z. given_back z 255 b) (given-is v k a apart ∙ with_value-local v k a l m) ∙ last-given w b f)

    marginal : k < v.first_global → length v.locals ≤ k → given_back (given_back u k a) 255 b ≡ given_back (given_back v k a) 255 b
    marginal l m =
        let here : is_marginal v k ≡ true = grind (arith, nat_tests) in
        ap (λ t. given_back (cond t u (with_value u k a)) 255 b) here ∙ last-given u b f ∙ ap (globals-set v) (set-set v.globals j y b)
        ∙ sym (ap (λ t. given_back (cond t v (with_value v k a)) 255 b) here ∙ last-given v b f)

    below : k < v.first_global → given_back (given_back u k a) 255 b ≡ given_back (given_back v k a) 255 b
    below l = ⊎_elim (λ m. local l m) (λ m. marginal l m) (cases_lt k (length v.locals))

pub last-undone : (v : Registers) (l k y a b : ℕ) → v.first_global ≤ 255 → registers_undone (some l k a b) (with_value v 255 y) ≡ registers_undone (some l k a b) v
last-undone v l k y a b f =
    ap (λ u. given_back (given_back (with_locals_cut u l) k a) 255 b) (with_value-global v 255 y f) ∙ given-between (with_locals_cut v l) k y a b f

-- AN OCTA THAT WAS OVERWRITTEN BEFORE OTHERS SPILLED

outside-part : (xs ys : List ℕ) (s j : ℕ) → s + length ys ≤ length xs → (j < s) ⊎ (s + length ys ≤ j) → get_or (with_part xs s ys) j 0 ≡ get_or xs j 0
outside-part xs ys s j f o = ⊎_elim (λ l. below l) (λ g. above g) o
  where
    front : length (take s xs) ≡ s
    front = length-take-le s xs (omega (arith, f))

    both : length (take s xs ++ ys) ≡ s + length ys
    both = length-append (take s xs) ys ∙ ap (λ n. n + length ys) front

    below : j < s → get_or (with_part xs s ys) j 0 ≡ get_or xs j 0
    below l = get_or_append_left (take s xs ++ ys) (drop (s + length ys) xs) 0 j (omega (arith, both, l)) ∙ get_or_append_left (take s xs) ys 0 j (omega (arith, front, l)) ∙ get_or-take s xs j 0 l

    above : s + length ys ≤ j → get_or (with_part xs s ys) j 0 ≡ get_or xs j 0
    above g =
        let here : s + length ys + (j - (s + length ys)) ≡ j = omega (arith, g) in
        get_or-append_right (take s xs ++ ys) (drop (s + length ys) xs) (s + length ys) j 0 both g ∙ get_or-drop (s + length ys) xs (j - (s + length ys)) 0 ∙ ap (λ n. get_or xs n 0) here

within-part : (xs ys : List ℕ) (s j : ℕ) → s + length ys ≤ length xs → s ≤ j → j < s + length ys → get_or (with_part xs s ys) j 0 ≡ get_or ys (j - s) 0
within-part xs ys s j f g l =
    let front : length (take s xs) ≡ s = length-take-le s xs (omega (arith, f)) in
    let both : length (take s xs ++ ys) ≡ s + length ys = length-append (take s xs) ys ∙ ap (λ n. n + length ys) front in
    get_or_append_left (take s xs ++ ys) (drop (s + length ys) xs) 0 j (omega (arith, both, l)) ∙ get_or-append_right (take s xs) ys s j 0 front g

-- an item is given what it is without the one that was overwritten before
overwritten-back : (xs ys : List ℕ) (s i z : ℕ) → s + length ys ≤ length xs → i < length xs → set (with_part (set xs i z) s ys) i (get_or (with_part xs s ys) i 0) ≡ with_part xs s ys
overwritten-back xs ys s i z f inside = ext_get_or 0 _ _ (long ∙ sym whole) (λ j l. each j)
  where
    changed : List ℕ
    changed = with_part (set xs i z) s ys

    own : ℕ
    own = get_or (with_part xs s ys) i 0

    room : s + length ys ≤ length (set xs i z)
    room = omega (arith, length-set xs i z, f)

    whole : length (with_part xs s ys) ≡ length xs
    whole = length-with_part xs ys s f

    same-length : length changed ≡ length xs
    same-length = length-with_part (set xs i z) ys s room ∙ length-set xs i z

    long : length (set changed i own) ≡ length xs
    long = length-set changed i own ∙ same-length

    outside : (j : ℕ) → j ≢ i → (j < s) ⊎ (s + length ys ≤ j) → get_or changed j 0 ≡ get_or (with_part xs s ys) j 0
    outside j ne o = outside-part (set xs i z) ys s j room o ∙ get_or-set_other xs i j z 0 ne ∙ sym (outside-part xs ys s j f o)

    within : (j : ℕ) → s ≤ j → j < s + length ys → get_or changed j 0 ≡ get_or (with_part xs s ys) j 0
    within j g l = within-part (set xs i z) ys s j room g l ∙ sym (within-part xs ys s j f g l)

    beside : (j : ℕ) → j ≢ i → get_or changed j 0 ≡ get_or (with_part xs s ys) j 0
    beside j ne = ⊎_elim (λ b. outside j ne (inl b)) (λ g. ⊎_elim (λ b. within j g b) (λ h. outside j ne (inr h)) (cases_lt j (s + length ys))) (cases_lt j s)

    each : (j : ℕ) → get_or (set changed i own) j 0 ≡ get_or (with_part xs s ys) j 0
    each j = ⊎_elim (λ d. ap (λ k. get_or (set changed i own) k 0) d ∙ get_or-set_same changed i own 0 (omega (arith, inside, same-length)) ∙ ap (λ k. get_or (with_part xs s ys) k 0) (sym d))
        (λ ne. get_or-set_other changed i j own 0 ne ∙ beside j ne) (cases_eq j i)

pub stored-back : (h : HiddenPart) (i z n : ℕ) → n ≤ length h.resident → h.spilled + n ≤ length h.stack → i < length h.stack →
    with_octa (with_spilled (with_octa h i z) n) i (octa_after_spill h n i) ≡ with_spilled h n
unfolding with_spilled
stored-back h i z n low room inside =
    let size : length (take n h.resident) ≡ n = length-take-le n h.resident low in
    λ t. record { stack = overwritten-back h.stack (take n h.resident) h.spilled i z (omega (arith, size, room)) inside t; spilled = h.spilled + n; resident = drop n h.resident }

-- an octa of the stack area once others are spilled: it is one of the hidden ones, or it stays
pub octa-spilled : (h : HiddenPart) (n i : ℕ) → n ≤ length h.resident → h.spilled + n ≤ length h.stack → i < h.spilled + n → get_or (octas_of h) i 0 ≡ octa_after_spill h n i
unfolding with_spilled
octa-spilled h n i low room inside = ⊎_elim (λ b. below b) (λ g. above g) (cases_lt i h.spilled)
  where
    size : length (take n h.resident) ≡ n
    size = length-take-le n h.resident low

    front : length (take h.spilled h.stack) ≡ h.spilled
    front = length-take-le h.spilled h.stack (omega (arith, room))

    fits : h.spilled + length (take n h.resident) ≤ length h.stack
    fits = omega (arith, size, room)

    below : i < h.spilled → get_or (octas_of h) i 0 ≡ get_or (with_part h.stack h.spilled (take n h.resident)) i 0
    below b = get_or_append_left (take h.spilled h.stack) h.resident 0 i (omega (arith, front, b)) ∙ get_or-take h.spilled h.stack i 0 b ∙ sym (outside-part h.stack (take n h.resident) h.spilled i fits (inl b))

    above : h.spilled ≤ i → get_or (octas_of h) i 0 ≡ get_or (with_part h.stack h.spilled (take n h.resident)) i 0
    above g =
        get_or-append_right (take h.spilled h.stack) h.resident h.spilled i 0 front g ∙ sym (get_or-take n h.resident (i - h.spilled) 0 (omega (arith, g, inside)))
        ∙ sym (within-part h.stack (take n h.resident) h.spilled i fits g (omega (arith, inside, size)))

pub octa-left : (h : HiddenPart) (n i : ℕ) → n ≤ length h.resident → h.spilled + n ≤ length h.stack → h.spilled + n ≤ i → get_or h.stack i 0 ≡ octa_after_spill h n i
unfolding with_spilled
octa-left h n i low room g =
    let size : length (take n h.resident) ≡ n = length-take-le n h.resident low in
    sym (outside-part h.stack (take n h.resident) h.spilled i (omega (arith, size, room)) (inr (omega (arith, size, g))))
