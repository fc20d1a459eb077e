-- The hidden octas of a window after it spills, and once fewer stay hidden.
use Rattle.std.proofs.Common.{◌≡◌, ℕ, ◌+◌, ◌-◌, ◌≤◌, ◌<◌, List, ◌++◌, length, take, drop, min, arith, refl, sym, subst, ◌∙◌, ap, ⊎_elim}
use Rattle.std.proofs.lemmas.Bool.{cases_lt}
use Rattle.std.proofs.lemmas.Bool.Decides.{nat_tests}
use Rattle.std.proofs.lemmas.List.{append_assoc, append-nil, length-take, length-take-le, length-drop, length-append, take-append-drop, take-append-le, take-take}
use Rattle.std.proofs.Math.Seq.{take-append-add}
use Rattle.mx_registers.proofs.Spilled.{take-with_part, length-with_part, resident-first}
use Rattle.mx_registers.specs.HiddenPart.{HiddenPart, octas_of, with_spilled, with_room, with_first, with_hidden}

-- the hidden part lies in its bounds: what is spilled is hidden, and there is room in the stack area
pub record Fits (h : HiddenPart) (room : ℕ) : Type 0 where
  pub area : length h.stack ≡ room
  pub spilled_are_hidden : h.spilled ≤ length (octas_of h)
  pub has_room : length (octas_of h) ≤ room

pub length-octas : (h : HiddenPart) (room : ℕ) → Fits h room → length (octas_of h) ≡ h.spilled + length h.resident
length-octas h room f =
    let all : length (octas_of h) ≡ min h.spilled (length h.stack) + length h.resident = simp (length-append, length-take) refl in
    omega (arith, all, f.area, f.spilled_are_hidden, f.has_room)

pub spilled-below : (h : HiddenPart) (room : ℕ) → Fits h room → h.spilled ≤ length h.stack
spilled-below h room f = omega (arith, f.area, f.spilled_are_hidden, f.has_room)

-- the oldest n octas of the ring spill
pub spilled-octas : (h : HiddenPart) (room n : ℕ) → Fits h room → n ≤ length h.resident → octas_of (with_spilled h n) ≡ octas_of h
unfolding with_spilled
spilled-octas h room n f g =
    let size : length (take n h.resident) ≡ n = length-take-le n h.resident g in
    rw (take-with_part h.stack (take n h.resident) h.spilled n (spilled-below h room f) (sym size)) (append_assoc (take h.spilled h.stack) (take n h.resident) (drop n h.resident) ∙ ap (λ xs. take h.spilled h.stack ++ xs) (take-append-drop n h.resident))

pub spilled-fits : (h : HiddenPart) (room n : ℕ) → Fits h room → n ≤ length h.resident → Fits (with_spilled h n) room
unfolding with_spilled
spilled-fits h room n f g =
    let size : length (take n h.resident) ≡ n = length-take-le n h.resident g in
    let same : length (octas_of (with_spilled h n)) ≡ length (octas_of h) = ap length (spilled-octas h room n f g) in
    let all : length (octas_of h) ≡ h.spilled + length h.resident = length-octas h room f in
    record {
      area = length-with_part h.stack (take n h.resident) h.spilled (omega (arith, f.area, f.has_room)) ∙ f.area;
      spilled_are_hidden = omega arith;
      has_room = omega (arith, f.has_room);
    }

-- a window spills as far as it must
pub room-is : (h : HiddenPart) (l size : ℕ) → size ≤ length h.resident + l → with_room h l size ≡ with_spilled h (length h.resident + l + 1 - size)
unfolding with_room
room-is h l size f = grind (arith, nat_tests)

pub room-none : (h : HiddenPart) (l size : ℕ) → length h.resident + l < size → with_room h l size ≡ h
unfolding with_room
room-none h l size f = grind (arith, nat_tests)

pub room-octas : (h : HiddenPart) (room l size : ℕ) → Fits h room → l < size → octas_of (with_room h l size) ≡ octas_of h
room-octas h room l size f g = ⊎_elim (λ e. ap octas_of (room-none h l size e)) (λ e. some e) (cases_lt (length h.resident + l) size)
  where
    some : size ≤ length h.resident + l → octas_of (with_room h l size) ≡ octas_of h
    some e = ap octas_of (room-is h l size e) ∙ spilled-octas h room _ f (omega arith)

pub room-fits : (h : HiddenPart) (room l size : ℕ) → Fits h room → l < size → Fits (with_room h l size) room
room-fits h room l size f g = ⊎_elim (λ e. subst (λ (p : HiddenPart). Fits p room) (sym (room-none h l size e)) f) (λ e. some e) (cases_lt (length h.resident + l) size)
  where
    some : size ≤ length h.resident + l → Fits (with_room h l size) room
    some e = subst (λ (p : HiddenPart). Fits p room) (sym (room-is h l size e)) (spilled-fits h room _ f (omega arith))

pub length-spilled : (h : HiddenPart) (n : ℕ) → length (with_spilled h n).resident ≡ length h.resident - n
unfolding with_spilled
length-spilled h n = length-drop n h.resident

pub room-shorter : (h : HiddenPart) (l size : ℕ) → l < size → length (with_room h l size).resident + l < size
room-shorter h l size g = ⊎_elim (λ e. none e) (λ e. some e) (cases_lt (length h.resident + l) size)
  where
    none : length h.resident + l < size → length (with_room h l size).resident + l < size
    none e = subst (λ (p : HiddenPart). length p.resident + l < size) (sym (room-none h l size e)) e

    some : size ≤ length h.resident + l → length (with_room h l size).resident + l < size
    some e = subst (λ (p : HiddenPart). length p.resident + l < size) (sym (room-is h l size e)) (omega (arith, length-spilled h (length h.resident + l + 1 - size)))

-- spilling never lowers the number of spilled octas
pub room-spills : (h : HiddenPart) (l size : ℕ) → h.spilled ≤ (with_room h l size).spilled
unfolding with_room with_spilled
room-spills h l size = grind (arith, nat_tests)

-- only the first n stay hidden
first-split : (h : HiddenPart) (n : ℕ) → h.spilled ≤ length h.stack → take (min h.spilled n) h.stack ++ take (n - h.spilled) h.resident ≡ take n (octas_of h)
first-split h n f = ⊎_elim (λ e. low e) (λ e. high e) (cases_lt n h.spilled)
  where
    size : length (take h.spilled h.stack) ≡ h.spilled
    size = length-take-le h.spilled h.stack f

    low : n < h.spilled → take (min h.spilled n) h.stack ++ take (n - h.spilled) h.resident ≡ take n (octas_of h)
    low e =
        let a : min h.spilled n ≡ n = omega arith in
        let b : n - h.spilled ≡ 0 = omega arith in
        rw (a, b) (append-nil (take n h.stack) ∙ sym (take-take n h.spilled h.stack (omega arith)) ∙ sym (take-append-le n (take h.spilled h.stack) h.resident (omega (arith, size))))

    high : h.spilled ≤ n → take (min h.spilled n) h.stack ++ take (n - h.spilled) h.resident ≡ take n (octas_of h)
    high e =
        let a : min h.spilled n ≡ h.spilled = omega arith in
        let b : length (take h.spilled h.stack) + (n - h.spilled) ≡ n = omega (arith, size) in
        rw a (sym (take-append-add (take h.spilled h.stack) h.resident (n - h.spilled)) ∙ ap (λ m. take m (octas_of h)) b)

pub first-octas : (h : HiddenPart) (room n : ℕ) → Fits h room → octas_of (with_first h n) ≡ take n (octas_of h)
unfolding with_first
first-octas h room n f = first-split h n (spilled-below h room f)

-- so it is where the hidden octas are one list
pub first-in-list : (stack octas : List ℕ) (s n m : ℕ) → m ≡ min s n → record { stack = stack; spilled = m; resident = drop m (take n octas) } ≡ with_first (record { stack = stack; spilled = s; resident = drop s octas }) n
unfolding with_first
first-in-list stack octas s n m e = rw (e, resident-first octas s n) refl

length-first : (h : HiddenPart) (n : ℕ) → (with_first h n).spilled ≡ min h.spilled n
unfolding with_first
length-first h n = refl

same-stack : (h : HiddenPart) (n : ℕ) → (with_first h n).stack ≡ h.stack
unfolding with_first
same-stack h n = refl

pub first-resident : (h : HiddenPart) (n : ℕ) → length (with_first h n).resident ≡ min (n - h.spilled) (length h.resident)
unfolding with_first
first-resident h n = length-take (n - h.spilled) h.resident

pub first-fits : (h : HiddenPart) (room n : ℕ) → Fits h room → n ≤ length (octas_of h) → Fits (with_first h n) room
first-fits h room n f g =
    let all : length (octas_of (with_first h n)) ≡ n = ap length (first-octas h room n f) ∙ length-take-le n (octas_of h) g in
    record {
      area = ap length (same-stack h n) ∙ f.area;
      spilled_are_hidden = omega (arith, length-first h n);
      has_room = omega (arith, f.has_room);
    }

-- more octas are hidden
pub hidden-octas : (h : HiddenPart) (octas : List ℕ) → octas_of (with_hidden h octas) ≡ octas_of h ++ octas
hidden-octas h octas = sym (append_assoc (take h.spilled h.stack) h.resident octas)

pub hidden-fits : (h : HiddenPart) (room : ℕ) (octas : List ℕ) → Fits h room → length (octas_of h) + length octas ≤ room → Fits (with_hidden h octas) room
hidden-fits h room octas f g =
    let all : length (octas_of (with_hidden h octas)) ≡ length (octas_of h) + length octas = ap length (hidden-octas h octas) ∙ length-append (octas_of h) octas in
    record {
      area = f.area;
      spilled_are_hidden = omega (arith, f.spilled_are_hidden);
      has_room = omega arith;
    }
