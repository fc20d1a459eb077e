-- Notes in two lists.
use Rattle.std.proofs.Common.{◌≡◌, ℕ, zero, suc, ◌+◌, ◌-◌, ◌≤◌, ◌<◌, min, Bool, true, false, ◌==◌, nat_le, List, [], ◌∷◌, ◌++◌, Option, None, Some, length, take, drop, reverse, slice_get, arith, refl, sym, subst, ◌∙◌, ap, ⊎_elim}
use Rattle.std.proofs.lemmas.Bool.{cases_lt}
use Rattle.std.proofs.lemmas.Bool.Decides.{nat_tests}
use Rattle.std.proofs.lemmas.List.{length-append, length-reverse, length-take, length-take-le, reverse-append, take_all, take-append-le, take-take}
use Rattle.std.specs.Option.{option_to_list}
use Rattle.std.specs.Prelude.{IsSome}
use Rattle.mx_core.specs.Undoing.{StateWas}
use Rattle.mx_back.specs.NoteLists.{PopsNote, notes_of}

-- the last item of a list is the first of those the other way round
last-first : (xs : List StateWas) (x : StateWas) → reverse (xs ++ x ∷ []) ≡ x ∷ reverse xs
last-first xs x = reverse-append xs (x ∷ [])

-- as many as are kept, with one more in front
one-more : (m kept : ℕ) (x : StateWas) (xs : List StateWas) → take (min (kept + 1) m) (x ∷ xs) ≡ take m (x ∷ take kept xs)
one-more zero kept x xs = let none : min (kept + 1) 0 ≡ 0 = omega arith in ap (λ n. take n (x ∷ xs)) none
one-more (suc m) kept x xs =
    let count : min (kept + 1) (suc m) ≡ suc (min kept m) = omega arith in
    ap (λ n. take n (x ∷ xs)) count ∙ ap (λ (ys : List StateWas). x ∷ ys) (⊎_elim (λ e. above e) (λ e. below e) (cases_lt m kept))
  where
    above : m < kept → take (min kept m) xs ≡ take m (take kept xs)
    above e =
        let same : min kept m ≡ m = omega arith in
        ap (λ n. take n xs) same ∙ sym (take-take m kept xs (omega arith))

    below : kept ≤ m → take (min kept m) xs ≡ take m (take kept xs)
    below e =
        let same : min kept m ≡ kept = omega arith in
        ap (λ n. take n xs) same ∙ sym (take_all m (take kept xs) (omega (arith, length-take kept xs)))

pub pushed-notes : (newer older : List StateWas) (x : StateWas) (kept m : ℕ) → notes_of (newer ++ x ∷ []) older (min (kept + 1) m) ≡ take m (x ∷ notes_of newer older kept)
pushed-notes newer older x kept m = ap (λ xs. take (min (kept + 1) m) (xs ++ reverse older)) (last-first newer x) ∙ one-more m kept x (reverse newer ++ reverse older)

-- the newer ones take the place of the older ones
pub turned-notes : (newer older now gone : List StateWas) (kept m : ℕ) → m ≤ length newer → kept ≤ m → now ≡ [] → gone ≡ newer → notes_of now gone kept ≡ notes_of newer older kept
turned-notes newer older now gone kept m few l e f =
    ap (λ xs. take kept (reverse xs ++ reverse gone)) e ∙ ap (λ xs. take kept (reverse xs)) f
    ∙ sym (take-append-le kept (reverse newer) (reverse older) (omega (arith, few, l, length-reverse newer)))

-- the newest one goes
popped : (x : StateWas) (xs notes left : List StateWas) (kept : ℕ) → notes ≡ x ∷ xs → left ≡ xs → PopsNote (Some x) (take (kept + 1) notes) (take kept left)
popped x xs notes left kept e f =
    let count : kept + 1 ≡ suc kept = omega arith in
    let all : take (kept + 1) notes ≡ x ∷ take kept xs = ap (λ n. take n notes) count ∙ ap (take (suc kept)) e in
    (sym (ap (λ ys. slice_get ys 0) all), ap (take kept) f ∙ sym (ap (drop 1) all))

pub newer-popped : (newer older left : List StateWas) (x : StateWas) (kept : ℕ) → newer ≡ left ++ x ∷ [] → PopsNote (Some x) (notes_of newer older (kept + 1)) (notes_of left older kept)
newer-popped newer older left x kept e =
    popped x (reverse left ++ reverse older) (reverse newer ++ reverse older) (reverse left ++ reverse older) kept
    (ap (λ xs. reverse xs ++ reverse older) e ∙ ap (λ xs. xs ++ reverse older) (last-first left x)) refl

pub older-popped : (newer older now left : List StateWas) (note : Option StateWas) (kept : ℕ) → newer ≡ [] → now ≡ [] → older ≡ left ++ option_to_list note → (0 < length older → IsSome note) → kept < length newer + length older →
    PopsNote note (notes_of newer older (kept + 1)) (notes_of now left kept)
older-popped newer older now left None kept e f g some l = let there = some (omega (arith, l, ap length e)) in absurd (cc)
older-popped newer older now left (Some x) kept e f g some l =
    popped x (reverse left) (reverse newer ++ reverse older) (reverse now ++ reverse left) kept
    (ap (λ xs. reverse xs ++ reverse older) e ∙ ap reverse g ∙ last-first left x) (ap (λ xs. reverse xs ++ reverse left) f)

-- how many there are
pub count-notes : (newer older : List StateWas) (kept : ℕ) → kept ≤ length newer + length older → length (notes_of newer older kept) ≡ kept
count-notes newer older kept l =
    length-take-le kept (reverse newer ++ reverse older) (omega (arith, l, length-append (reverse newer) (reverse older), length-reverse newer, length-reverse older))

-- FOR THE CODE

pub full-notes : (b : Bool) (count : ℕ) → b ≡ nat_le 1024 count → b ≡ true → 1024 ≤ count
full-notes b count e f = let full : nat_le 1024 count ≡ true = sym e ∙ f in grind (arith, nat_tests)

pub is-none : (b : Bool) (count : ℕ) → b ≡ (count == 0) → b ≡ true → count ≡ 0
is-none b count e f = let none : (count == 0) ≡ true = sym e ∙ f in grind (arith, nat_tests)

pub is-some : (b : Bool) (count : ℕ) → b ≡ (count == 0) → b ≡ false → 0 < count
is-some b count e f = let some : (count == 0) ≡ false = sym e ∙ f in grind (arith, nat_tests)

pub no-items : (notes : List StateWas) → length notes ≡ 0 → notes ≡ []
no-items [] e = refl
no-items (n ∷ notes) e = absurd (omega (arith, e))

pub few-more : (notes left : List StateWas) (note : Option StateWas) → notes ≡ left ++ option_to_list note → length notes ≤ length left + 1
few-more notes left None e = omega (arith, ap length e, length-append left [])
few-more notes left (Some n) e = omega (arith, ap length e, length-append left (n ∷ []))
