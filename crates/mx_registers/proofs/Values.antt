-- What a change of the array of all values does to the registers.
use Rattle.std.proofs.Common.{◌≡◌, ℕ, ◌+◌, ◌-◌, ◌≤◌, ◌<◌, List, [], ◌∷◌, ◌++◌, length, take, drop, set, replicate, max, false, true, arith, refl, sym, subst, ◌∙◌, ap, ⊎_elim}
use Rattle.std.proofs.lemmas.Bool.{cases_lt}
use Rattle.std.proofs.lemmas.Bool.Decides.{nat_tests}
use Rattle.std.proofs.lemmas.List.{append_assoc, length-append, length-replicate, length-set, length-drop, length-take-le, take_at, drop_at, take-append-le, drop-append-le, drop_all, drop-drop, replicate-append-replicate, set-append_left, set-append_right, set_at}
use Rattle.mx_registers.specs.Bounds.{AreInBounds}
use Rattle.mx_registers.specs.Parts.{all_values, registers_in, HoldsRegisters, with_zeros_at}
use Rattle.mx_registers.specs.Registers.{Registers, is_marginal, with_value, with_locals_cut, with_globals_from, registers_from}
use Rattle.mx_registers.specs.declared.visible.Visible.TheInside.{Inside}

-- the registers below G: the locals and zeros
abbrev front : Registers → List ℕ
front v = v.locals ++ replicate (v.first_global - length v.locals) 0

length-front : (v : Registers) → AreInBounds v → length (front v) ≡ v.first_global
length-front v b = simp (length-append, length-replicate) (omega (arith, b.locals_below_globals))

take-locals : (v : Registers) → take (length v.locals) (all_values v) ≡ v.locals
take-locals v = rw append_assoc (take_at v.locals _ (length v.locals) refl)

drop-locals : (v : Registers) → drop (length v.locals) (all_values v) ≡ replicate (v.first_global - length v.locals) 0 ++ v.globals
drop-locals v = rw append_assoc (drop_at v.locals _ (length v.locals) refl)

pub take-front : (v : Registers) → AreInBounds v → take v.first_global (all_values v) ≡ front v
take-front v b = take_at (front v) v.globals v.first_global (length-front v b)

pub drop-front : (v : Registers) → AreInBounds v → drop v.first_global (all_values v) ≡ v.globals
drop-front v b = drop_at (front v) v.globals v.first_global (length-front v b)

-- the fields hold, and mean these registers
abbrev pub HasRegisters : Inside → Registers → Type 0
HasRegisters i v = HoldsRegisters i × (registers_in i ≡ v)

-- so do those with the array of all values
pub registers-has : (v : Registers) (xs : List ℕ) (l g : ℕ) → AreInBounds v → xs ≡ all_values v → l ≡ length v.locals → g ≡ v.first_global → HasRegisters (record { values = xs; local_count = l; first_global = g }) v
registers-has v xs l g b e el eg =
    let view : registers_in (record { values = xs; local_count = l; first_global = g }) ≡ v = rw (e, el, eg, take-locals v, drop-front v b) refl in
    let holds : HoldsRegisters (record { values = xs; local_count = l; first_global = g }) = record {
      in_bounds = subst AreInBounds (sym view) b;
      all_locals = rw (e, el, take-locals v) refl;
      all_shown = subst (λ (u : Registers). xs ≡ all_values u) (sym view) e;
    } in
    (holds, view)

-- SET

set-global : (v : Registers) (k x : ℕ) → AreInBounds v → v.first_global ≤ k → set (all_values v) k x ≡ front v ++ set v.globals (k - v.first_global) x
set-global v k x b f = set-append_right (front v) v.globals v.first_global k x (length-front v b) f

set-local : (v : Registers) (k x : ℕ) → k < length v.locals → set (all_values v) k x ≡ set v.locals k x ++ replicate (v.first_global - length v.locals) 0 ++ v.globals
set-local v k x f =
    let zs : List ℕ = replicate (v.first_global - length v.locals) 0 in
    let within : k < length (v.locals ++ zs) = omega (arith, length-append v.locals zs) in
    set-append_left (v.locals ++ zs) v.globals k x within ∙ ap (λ ws. ws ++ v.globals) (set-append_left v.locals zs k x f)

-- zeros with a place among them
zeros-parted : (n k : ℕ) → k < n → replicate {A = ℕ} n 0 ≡ replicate k 0 ++ 0 ∷ replicate (n - (k + 1)) 0
zeros-parted n k f =
    let e : k + (1 + (n - (k + 1))) ≡ n = omega arith in
    let one : replicate {A = ℕ} (1 + (n - (k + 1))) 0 ≡ 0 ∷ replicate (n - (k + 1)) 0 = sym (replicate-append-replicate 1 (n - (k + 1)) 0) in
    rw (← e) (sym (replicate-append-replicate k (1 + (n - (k + 1))) 0) ∙ ap (λ (zs : List ℕ). replicate k 0 ++ zs) (subst (λ (m : ℕ). replicate {A = ℕ} (1 + (n - (k + 1))) 0 ≡ 0 ∷ replicate m 0) (omega arith) one))

set-marginal : (v : Registers) (k x : ℕ) → length v.locals ≤ k → k < v.first_global → set (all_values v) k x ≡ (v.locals ++ replicate (k - length v.locals) 0 ++ x ∷ []) ++ replicate (v.first_global - (k + 1)) 0 ++ v.globals
set-marginal v k x f g =
    let d : ℕ = k - length v.locals in
    let n : ℕ = v.first_global - length v.locals in
    let m : n - (d + 1) ≡ v.first_global - (k + 1) = omega arith in
    let parted : replicate {A = ℕ} n 0 ≡ replicate d 0 ++ 0 ∷ replicate (v.first_global - (k + 1)) 0 = zeros-parted n d (omega arith) ∙ ap (λ j. replicate d 0 ++ 0 ∷ replicate j 0) m in
    let size : length (v.locals ++ replicate d 0) ≡ k = simp (length-append, length-replicate) (omega arith) in
    let all : all_values v ≡ (v.locals ++ replicate d 0) ++ 0 ∷ (replicate (v.first_global - (k + 1)) 0 ++ v.globals) = rw parted (simp append_assoc) in
    rw (all, set_at (v.locals ++ replicate d 0) 0 (replicate (v.first_global - (k + 1)) 0 ++ v.globals) x k size) (simp append_assoc)

-- the registers, by cases
pub with_value-global : (v : Registers) (k x : ℕ) → v.first_global ≤ k → with_value v k x ≡ record v { globals = set v.globals (k - v.first_global) x }
unfolding with_value
with_value-global v k x f = grind (arith, nat_tests)

pub with_value-local : (v : Registers) (k x : ℕ) → k < v.first_global → k < length v.locals → with_value v k x ≡ record v { locals = set v.locals k x }
unfolding with_value
with_value-local v k x f g = grind (arith, nat_tests)

pub with_value-marginal : (v : Registers) (k x : ℕ) → k < v.first_global → length v.locals ≤ k → with_value v k x ≡ record v { locals = v.locals ++ replicate (k - length v.locals) 0 ++ x ∷ [] }
unfolding with_value
with_value-marginal v k x f g = grind (arith, nat_tests)

length-marginal : (v : Registers) (k x : ℕ) → length v.locals ≤ k → length (v.locals ++ replicate (k - length v.locals) 0 ++ x ∷ []) ≡ k + 1
length-marginal v k x f = simp (length-append, length-replicate) (omega arith)

global-bounds : (v : Registers) (k x : ℕ) → AreInBounds v → AreInBounds (record v { globals = set v.globals k x })
global-bounds v k x b = record {
  locals_below_globals = b.locals_below_globals;
  least_global = b.least_global;
  one_is_global = b.one_is_global;
  all_globals = rw length-set b.all_globals;
}

-- bounds with other locals
pub locals-bounds : (v : Registers) (ls : List ℕ) → AreInBounds v → length ls ≤ v.first_global → AreInBounds (record v { locals = ls })
locals-bounds v ls b f = record {
  locals_below_globals = f;
  least_global = b.least_global;
  one_is_global = b.one_is_global;
  all_globals = b.all_globals;
}

pub with_value-bounds : (v : Registers) (k x : ℕ) → AreInBounds v → AreInBounds (with_value v k x)
with_value-bounds v k x b = ⊎_elim (λ f. ⊎_elim (λ g. local f g) (λ g. marginal f g) (cases_lt k (length v.locals))) (λ f. global f) (cases_lt k v.first_global)
  where
    global : v.first_global ≤ k → AreInBounds (with_value v k x)
    global f = subst AreInBounds (sym (with_value-global v k x f)) (global-bounds v (k - v.first_global) x b)

    local : k < v.first_global → k < length v.locals → AreInBounds (with_value v k x)
    local f g = subst AreInBounds (sym (with_value-local v k x f g)) (locals-bounds v _ b (rw length-set b.locals_below_globals))

    marginal : k < v.first_global → length v.locals ≤ k → AreInBounds (with_value v k x)
    marginal f g = subst AreInBounds (sym (with_value-marginal v k x f g)) (locals-bounds v _ b (omega (arith, length-marginal v k x g)))

same-global : (v : Registers) (k x : ℕ) → (with_value v k x).first_global ≡ v.first_global
unfolding with_value
same-global v k x = grind (arith, nat_tests)

-- the array once a value is written
pub set-values : (v : Registers) (k x : ℕ) → AreInBounds v → set (all_values v) k x ≡ all_values (with_value v k x)
set-values v k x b = ⊎_elim (λ f. ⊎_elim (λ g. local f g) (λ g. marginal f g) (cases_lt k (length v.locals))) (λ f. global f) (cases_lt k v.first_global)
  where
    global : v.first_global ≤ k → set (all_values v) k x ≡ all_values (with_value v k x)
    global f = rw (with_value-global v k x f) (set-global v k x b f)

    local : k < v.first_global → k < length v.locals → set (all_values v) k x ≡ all_values (with_value v k x)
    local f g = rw (with_value-local v k x f g, length-set) (set-local v k x g)

    marginal : k < v.first_global → length v.locals ≤ k → set (all_values v) k x ≡ all_values (with_value v k x)
    marginal f g = rw (with_value-marginal v k x f g, length-marginal v k x g) (set-marginal v k x g f)

-- L afterwards
pub locals-kept : (v : Registers) (k x : ℕ) → (k < v.first_global → k < length v.locals) → length (with_value v k x).locals ≡ length v.locals
locals-kept v k x h = ⊎_elim (λ f. below f) (λ f. rw (with_value-global v k x f) refl) (cases_lt k v.first_global)
  where
    below : k < v.first_global → length (with_value v k x).locals ≡ length v.locals
    below f = rw (with_value-local v k x f (h f), length-set) refl

pub locals-grown : (v : Registers) (k x : ℕ) → k < v.first_global → length v.locals ≤ k → length (with_value v k x).locals ≡ k + 1
locals-grown v k x f g = rw (with_value-marginal v k x f g) (length-marginal v k x g)

-- CUT

pub cut-values : (v : Registers) (l : ℕ) → AreInBounds v → l ≤ length v.locals → with_zeros_at (all_values v) l (length v.locals) ≡ all_values (with_locals_cut v l)
cut-values v l b f =
    let size : length (take l v.locals) ≡ l = length-take-le l v.locals f in
    let low : take l (all_values v) ≡ take l v.locals = rw append_assoc (take-append-le l v.locals _ f) in
    let zeros : (length v.locals - l) + (v.first_global - length v.locals) ≡ v.first_global - l = omega (arith, b.locals_below_globals) in
    let joined : replicate {A = ℕ} (length v.locals - l) 0 ++ replicate (v.first_global - length v.locals) 0 ≡ replicate (v.first_global - l) 0 =
    replicate-append-replicate (length v.locals - l) (v.first_global - length v.locals) 0 ∙ ap (λ n. replicate {A = ℕ} n 0) zeros in
    rw (low, drop-locals v, size, ← joined) (simp append_assoc)

pub cut-bounds : (v : Registers) (l : ℕ) → AreInBounds v → l ≤ length v.locals → AreInBounds (with_locals_cut v l)
cut-bounds v l b f = locals-bounds v _ b (omega (arith, length-take-le l v.locals f, b.locals_below_globals))

-- REGISTERS FROM A PLACE ON

-- the locals that stay
locals-from : (ls : List ℕ) (n c : ℕ) → c ≡ length ls - n → drop (length ls - c) ls ≡ drop n ls
locals-from ls n c e = ⊎_elim (λ f. some f) (λ f. none f) (cases_lt n (length ls))
  where
    some : n < length ls → drop (length ls - c) ls ≡ drop n ls
    some f = ap (λ m. drop m ls) (omega arith)

    none : length ls ≤ n → drop (length ls - c) ls ≡ drop n ls
    none f = drop_all (length ls - c) ls (omega arith) ∙ sym (drop_all n ls f)

pub from-values : (v : Registers) (n c : ℕ) (xs ys zs : List ℕ) → AreInBounds v → c ≡ length v.locals - n → xs ≡ all_values v → ys ≡ take 0 xs ++ take (length v.locals - (length v.locals - c)) (drop (length v.locals - c) xs) ++ drop (0 + (length v.locals - (length v.locals - c))) xs → zs ≡ with_zeros_at ys c (length v.locals) → zs ≡ all_values (registers_from v n)
from-values v n c xs ys zs b ec ex ey ez =
    let l : ℕ = length v.locals in
    let rest : List ℕ = replicate (v.first_global - l) 0 ++ v.globals in
    let back : l - (l - c) ≡ c = omega arith in
    let size : length (drop n v.locals) ≡ c = omega (arith, length-drop n v.locals) in
    let parted : xs ≡ v.locals ++ rest = ex ∙ append_assoc v.locals (replicate (v.first_global - l) 0) v.globals in
    let above : drop (l - c) xs ≡ drop n v.locals ++ rest = ap (drop (l - c)) parted ∙ drop-append-le (l - c) v.locals rest (omega arith) ∙ ap (λ ws. ws ++ rest) (locals-from v.locals n c ec) in
    let moved : take c (drop (l - c) xs) ≡ drop n v.locals = ap (take c) above ∙ take_at (drop n v.locals) rest c size in
    let whole : ys ≡ drop n v.locals ++ drop c xs = ey ∙ ap (λ m. take m (drop (l - c) xs) ++ drop (0 + m) xs) back ∙ ap (λ m. take c (drop (l - c) xs) ++ drop m xs) (omega arith) ∙ ap (λ ws. ws ++ drop c xs) moved in
    let low : take c ys ≡ drop n v.locals = ap (take c) whole ∙ take_at (drop n v.locals) (drop c xs) c size in
    let middle : drop c ys ≡ drop c xs = ap (drop c) whole ∙ drop_at (drop n v.locals) (drop c xs) c size in
    let split : c + (l - c) ≡ l = omega arith in
    let high : drop l ys ≡ rest =
    ap (λ m. drop m ys) (sym split) ∙ sym (drop-drop (l - c) c ys) ∙ ap (drop (l - c)) middle ∙ drop-drop (l - c) c xs ∙ ap (λ m. drop m xs) split ∙ ap (drop l) parted ∙ drop_at v.locals rest l refl in
    let zeros : (l - c) + (v.first_global - l) ≡ v.first_global - c = omega (arith, b.locals_below_globals) in
    let joined : replicate {A = ℕ} (l - c) 0 ++ replicate (v.first_global - l) 0 ≡ replicate (v.first_global - c) 0 =
    replicate-append-replicate (l - c) (v.first_global - l) 0 ∙ ap (λ m. replicate {A = ℕ} m 0) zeros in
    rw (ez, low, high, size, ← joined) (simp append_assoc)

pub from-bounds : (v : Registers) (n : ℕ) → AreInBounds v → AreInBounds (registers_from v n)
from-bounds v n b = locals-bounds v _ b (omega (arith, length-drop n v.locals, b.locals_below_globals))

-- GLOBALS FROM A PLACE ON

pub globals-values : (v : Registers) (g to : ℕ) → AreInBounds v → length v.locals ≤ g → to ≡ max g v.first_global → with_zeros_at (all_values v) v.first_global to ≡ all_values (with_globals_from v g)
globals-values v g to b f e =
    let a : ℕ = v.first_global in
    let l : ℕ = length v.locals in
    let more : to - a ≡ g - a = omega arith in
    let split : a + (g - a) ≡ to = omega arith in
    let high : drop to (all_values v) ≡ drop (g - a) v.globals =
    ap (λ m. drop m (all_values v)) (sym split) ∙ sym (drop-drop (g - a) a (all_values v)) ∙ ap (drop (g - a)) (drop-front v b) in
    let sums : (a - l) + (g - a) ≡ (g - l) + (a - g) = omega (arith, b.locals_below_globals) in
    let joined : replicate {A = ℕ} (a - l) 0 ++ replicate (g - a) 0 ≡ replicate (g - l) 0 ++ replicate (a - g) 0 =
    replicate-append-replicate (a - l) (g - a) 0 ∙ ap (λ m. replicate {A = ℕ} m 0) sums ∙ sym (replicate-append-replicate (g - l) (a - g) 0) in
    let left : front v ++ replicate (g - a) 0 ++ drop (g - a) v.globals ≡ v.locals ++ ((replicate (a - l) 0 ++ replicate (g - a) 0) ++ drop (g - a) v.globals) = simp append_assoc in
    rw (take-front v b, more, high) (left ∙ ap (λ zs. v.locals ++ (zs ++ drop (g - a) v.globals)) joined ∙ simp append_assoc)

pub globals-bounds : (v : Registers) (g : ℕ) → AreInBounds v → length v.locals ≤ g → 32 ≤ g → g ≤ 255 → AreInBounds (with_globals_from v g)
globals-bounds v g b f least most =
    let size : length (replicate (v.first_global - g) 0 ++ drop (g - v.first_global) v.globals) ≡ (v.first_global - g) + (length v.globals - (g - v.first_global)) = simp (length-append, length-replicate, length-drop) refl in
    record {
      locals_below_globals = f;
      least_global = least;
      one_is_global = most;
      all_globals = omega (arith, size, b.all_globals);
    }

-- THE FIELDS AFTER EACH CHANGE

count-of : (i : Inside) → HoldsRegisters i → i.local_count ≡ length (registers_in i).locals
count-of i h = sym h.all_locals

pub set-has : (i : Inside) (k x : ℕ) → HoldsRegisters i → is_marginal (registers_in i) k ≡ false → HasRegisters (record i { values = set i.values k x }) (with_value (registers_in i) k x)
set-has i k x h m =
    let v : Registers = registers_in i in
    let local : k < v.first_global → k < length v.locals = grind (arith, nat_tests) in
    registers-has (with_value v k x) _ _ _ (with_value-bounds v k x h.in_bounds) (ap (λ xs. set xs k x) h.all_shown ∙ set-values v k x h.in_bounds) (count-of i h ∙ sym (locals-kept v k x local)) (sym (same-global v k x))

pub add-has : (i : Inside) (k x : ℕ) → HoldsRegisters i → is_marginal (registers_in i) k ≡ true → HasRegisters (record i { values = set i.values k x; local_count = k + 1 }) (with_value (registers_in i) k x)
add-has i k x h m =
    let v : Registers = registers_in i in
    let below : k < v.first_global = grind (arith, nat_tests) in
    let above : length v.locals ≤ k = grind (arith, nat_tests) in
    registers-has (with_value v k x) _ _ _ (with_value-bounds v k x h.in_bounds) (ap (λ xs. set xs k x) h.all_shown ∙ set-values v k x h.in_bounds) (sym (locals-grown v k x below above)) (sym (same-global v k x))

pub cut-has : (i : Inside) (l : ℕ) (xs : List ℕ) → HoldsRegisters i → l ≤ length (registers_in i).locals → xs ≡ with_zeros_at i.values l i.local_count → HasRegisters (record i { values = xs; local_count = l }) (with_locals_cut (registers_in i) l)
cut-has i l xs h f e =
    let v : Registers = registers_in i in
    registers-has (with_locals_cut v l) _ _ _ (cut-bounds v l h.in_bounds f) (e ∙ ap (λ ys. with_zeros_at ys l i.local_count) h.all_shown ∙ ap (λ n. with_zeros_at (all_values v) l n) (count-of i h) ∙ cut-values v l h.in_bounds f) (sym (length-take-le l v.locals f)) refl

-- how many locals stay
pub stays : (i : Inside) (n c : ℕ) → HoldsRegisters i → c ≡ length (registers_in i).locals - n → c ≡ i.local_count - n
stays i n c h e = rw (count-of i h) e

pub from-has : (i : Inside) (n c : ℕ) (ys zs : List ℕ) → HoldsRegisters i → c ≡ i.local_count - n → ys ≡ take 0 i.values ++ take (i.local_count - (i.local_count - c)) (drop (i.local_count - c) i.values) ++ drop (0 + (i.local_count - (i.local_count - c))) i.values → zs ≡ with_zeros_at ys c i.local_count → HasRegisters (record i { values = zs; local_count = c }) (registers_from (registers_in i) n)
from-has i n c ys zs h ec ey ez =
    let v : Registers = registers_in i in
    let size : c ≡ length (drop n v.locals) = omega (arith, length-drop n v.locals, h.all_locals) in
    let e = count-of i h in
    registers-has (registers_from v n) _ _ _ (from-bounds v n h.in_bounds) (from-values v n c i.values ys zs h.in_bounds (rw e at ec) h.all_shown (rw e at ey) (rw e at ez)) size refl

pub globals-has : (i : Inside) (g to : ℕ) (xs : List ℕ) → HoldsRegisters i → length (registers_in i).locals ≤ g → 32 ≤ g → g ≤ 255 → to ≡ max g i.first_global → xs ≡ with_zeros_at i.values i.first_global to → HasRegisters (record i { values = xs; first_global = g }) (with_globals_from (registers_in i) g)
globals-has i g to xs h f least most et e =
    let v : Registers = registers_in i in
    registers-has (with_globals_from v g) _ _ _ (globals-bounds v g h.in_bounds f least most) (e ∙ ap (λ ys. with_zeros_at ys i.first_global to) h.all_shown ∙ globals-values v g to h.in_bounds f et) (count-of i h) refl
