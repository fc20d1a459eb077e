-- What it means that a register is local already, where it gets a value.
use Rattle.std.proofs.Common.{◌≡◌, ◌<◌, ◌≤◌, ℕ, ◌+◌, ◌-◌, ◌⊎◌, inl, inr, Bool, true, false, List, [], ◌∷◌, ◌++◌, length, replicate, slice_index, slice_set, get_or, set, refl, sym, ap, ◌∙◌, arith, append_assoc, length-append}
use Rattle.std.proofs.lemmas.Bool.{cases_lt}
use Rattle.std.proofs.lemmas.Bool.Decides.{nat_tests}
use Rattle.std.proofs.lemmas.List.{set-set, set-get_or, length-set, length-replicate, set-append_right, get_or-append_right, get_or_append_left, get_or-replicate, get_or-set_same, replicate-append-replicate}
use Rattle.mx_registers.specs.Bounds.{AreInBounds}
use Rattle.mx_registers.specs.Registers.{Registers, is_marginal, value_of, with_value}
use Rattle.mx_ring.specs.Stack.{Stack, listed, windowed, visible, with_visible, after_growth, register, with_register, set_overfills}

-- THE THREE CASES

global-set : (v : Registers) (k x : ℕ) → v.first_global ≤ k → with_value v k x ≡ record v { globals = slice_set v.globals (k - v.first_global) x }
unfolding with_value
global-set v k x f = grind (arith, nat_tests)

local-set : (v : Registers) (k x : ℕ) → k < v.first_global → k < length v.locals → with_value v k x ≡ record v { locals = slice_set v.locals k x }
unfolding with_value
local-set v k x f l = grind (arith, nat_tests)

marginal-set : (v : Registers) (k x : ℕ) → k < v.first_global → length v.locals ≤ k → with_value v k x ≡ record v { locals = v.locals ++ replicate (k - length v.locals) 0 ++ x ∷ [] }
unfolding with_value
marginal-set v k x f l = grind (arith, nat_tests)

-- the length of the locals with zeros after them
length-front : (xs : List ℕ) (k : ℕ) → length xs ≤ k → length (xs ++ replicate (k - length xs) 0) ≡ k
length-front xs k f = simp (length-append, length-replicate) (omega arith)

length-grown : (xs : List ℕ) (k x : ℕ) → length xs ≤ k → length (xs ++ replicate (k - length xs) 0 ++ x ∷ []) ≡ k + 1
length-grown xs k x f = simp (length-append, length-replicate) (omega arith)

set-grown : (xs : List ℕ) (k a b : ℕ) → length xs ≤ k → set (xs ++ replicate (k - length xs) 0 ++ a ∷ []) k b ≡ xs ++ replicate (k - length xs) 0 ++ b ∷ []
set-grown xs k a b f =
    let e : k - k ≡ 0 = omega arith in
    set-append_right (xs ++ replicate (k - length xs) 0) (a ∷ []) k k b (length-front xs k f) (omega arith) ∙ rw e refl

pub value-twice : (v : Registers) (k a b : ℕ) → with_value (with_value v k a) k b ≡ with_value v k b
value-twice v k a b = by-global (cases_lt k v.first_global)
  where
    by-local : k < v.first_global → (k < length v.locals) ⊎ (length v.locals ≤ k) → with_value (with_value v k a) k b ≡ with_value v k b
    by-local f (inl l) =
        let within : k < length (slice_set v.locals k a) = omega (arith, length-set v.locals k a) in
        rw (local-set v k a f l, local-set v k b f l, local-set (record v { locals = slice_set v.locals k a }) k b f within)
        (rw (set-set v.locals k a b) refl)
    by-local f (inr l) =
        let within : k < length (v.locals ++ replicate (k - length v.locals) 0 ++ a ∷ []) = omega (arith, length-grown v.locals k a l) in
        rw (marginal-set v k a f l, marginal-set v k b f l, local-set (record v { locals = v.locals ++ replicate (k - length v.locals) 0 ++ a ∷ [] }) k b f within)
        (rw (set-grown v.locals k a b l) refl)

    by-global : (k < v.first_global) ⊎ (v.first_global ≤ k) → with_value (with_value v k a) k b ≡ with_value v k b
    by-global (inl f) = by-local f (cases_lt k (length v.locals))
    by-global (inr f) =
        rw (global-set v k a f, global-set v k b f, global-set (record v { globals = slice_set v.globals (k - v.first_global) a }) k b f)
        (rw (set-set v.globals (k - v.first_global) a b) refl)

pub no-longer-marginal : (v : Registers) (k a : ℕ) → is_marginal (with_value v k a) k ≡ false
no-longer-marginal v k a = by-global (cases_lt k v.first_global)
  where
    by-local : k < v.first_global → (k < length v.locals) ⊎ (length v.locals ≤ k) → is_marginal (with_value v k a) k ≡ false
    by-local f (inl l) = rw (local-set v k a f l) (grind (arith, nat_tests, length-set v.locals k a))
    by-local f (inr l) = rw (marginal-set v k a f l) (grind (arith, nat_tests, length-grown v.locals k a l))

    by-global : (k < v.first_global) ⊎ (v.first_global ≤ k) → is_marginal (with_value v k a) k ≡ false
    by-global (inl f) = by-local f (cases_lt k (length v.locals))
    by-global (inr f) = rw (global-set v k a f) (grind (arith, nat_tests))

-- what $k has, in the three cases
global-value : (v : Registers) (k : ℕ) → v.first_global ≤ k → value_of v k ≡ slice_index v.globals (k - v.first_global)
unfolding value_of
global-value v k f = grind (arith, nat_tests)

local-value : (v : Registers) (k : ℕ) → k < v.first_global → k < length v.locals → value_of v k ≡ slice_index v.locals k
unfolding value_of
local-value v k f l = grind (arith, nat_tests)

marginal-value : (v : Registers) (k : ℕ) → k < v.first_global → length v.locals ≤ k → value_of v k ≡ 0
unfolding value_of
marginal-value v k f l = grind (arith, nat_tests)

-- zeros, read within them
zero-tail : (n i : ℕ) → i ≤ n → get_or (replicate {A = ℕ} n 0 ++ 0 ∷ []) i 0 ≡ 0
zero-tail n i f =
    let e : replicate {A = ℕ} n 0 ++ 0 ∷ [] ≡ replicate (n + 1) 0 = replicate-append-replicate n 1 0 in
    rw e (get_or-replicate (n + 1) i 0 0 (omega arith))

grown-octa : (xs : List ℕ) (k j : ℕ) → length xs ≤ j → j ≤ k → get_or (xs ++ replicate (k - length xs) 0 ++ 0 ∷ []) j 0 ≡ 0
grown-octa xs k j f l =
    rw (append_assoc xs (replicate (k - length xs) 0) (0 ∷ []))
    (get_or-append_right xs (replicate (k - length xs) 0 ++ 0 ∷ []) (length xs) j 0 refl f ∙ zero-tail (k - length xs) (j - length xs) (omega arith))

old-octa : (xs : List ℕ) (k j : ℕ) → j < length xs → get_or (xs ++ replicate (k - length xs) 0 ++ 0 ∷ []) j 0 ≡ get_or xs j 0
old-octa xs k j f = rw (append_assoc xs (replicate (k - length xs) 0) (0 ∷ [])) (get_or_append_left xs (replicate (k - length xs) 0 ++ 0 ∷ []) 0 j f)

-- a register that becomes local with the value 0 shows nothing new
abbrev grown : Registers → ℕ → Registers
grown v k = record v { locals = v.locals ++ replicate (k - length v.locals) 0 ++ 0 ∷ [] }

grown-same : (v : Registers) (k j : ℕ) → k < v.first_global → length v.locals ≤ k → value_of (grown v k) j ≡ value_of v j
grown-same v k j f l = by-global (cases_lt j v.first_global)
  where
    by-new : j < v.first_global → length v.locals ≤ j → (j < k + 1) ⊎ (k + 1 ≤ j) → value_of (grown v k) j ≡ value_of v j
    by-new g m (inl n) =
        let within : j < length (v.locals ++ replicate (k - length v.locals) 0 ++ 0 ∷ []) = omega (arith, length-grown v.locals k 0 l) in
        rw (marginal-value v j g m, local-value (grown v k) j g within) (grown-octa v.locals k j m (omega arith))
    by-new g m (inr n) =
        let outside : length (v.locals ++ replicate (k - length v.locals) 0 ++ 0 ∷ []) ≤ j = omega (arith, length-grown v.locals k 0 l) in
        rw (marginal-value v j g m, marginal-value (grown v k) j g outside) refl

    by-local : j < v.first_global → (j < length v.locals) ⊎ (length v.locals ≤ j) → value_of (grown v k) j ≡ value_of v j
    by-local g (inl m) =
        let within : j < length (v.locals ++ replicate (k - length v.locals) 0 ++ 0 ∷ []) = omega (arith, length-grown v.locals k 0 l) in
        rw (local-value v j g m, local-value (grown v k) j g within) (old-octa v.locals k j m)
    by-local g (inr m) = by-new g m (cases_lt j (k + 1))

    by-global : (j < v.first_global) ⊎ (v.first_global ≤ j) → value_of (grown v k) j ≡ value_of v j
    by-global (inl g) = by-local g (cases_lt j (length v.locals))
    by-global (inr g) = rw (global-value v j g, global-value (grown v k) j g) refl

pub value-kept : (v : Registers) (k j : ℕ) → value_of (with_value v k (value_of v k)) j ≡ value_of v j
value-kept v k j = by-global (cases_lt k v.first_global)
  where
    by-local : k < v.first_global → (k < length v.locals) ⊎ (length v.locals ≤ k) → value_of (with_value v k (value_of v k)) j ≡ value_of v j
    by-local f (inl l) = rw (local-value v k f l, local-set v k (slice_index v.locals k) f l) (rw (set-get_or v.locals k 0) refl)
    by-local f (inr l) = rw (marginal-value v k f l, marginal-set v k 0 f l) (grown-same v k j f l)

    by-global : (k < v.first_global) ⊎ (v.first_global ≤ k) → value_of (with_value v k (value_of v k)) j ≡ value_of v j
    by-global (inl f) = by-local f (cases_lt k (length v.locals))
    by-global (inr f) = rw (global-value v k f, global-set v k (slice_index v.globals (k - v.first_global)) f) (rw (set-get_or v.globals (k - v.first_global) 0) refl)

-- a register has the value that it was given
pub own-value : (v : Registers) (k x : ℕ) → AreInBounds v → k < 256 → value_of (with_value v k x) k ≡ x
own-value v k x b below = by-global (cases_lt k v.first_global)
  where
    by-local : k < v.first_global → (k < length v.locals) ⊎ (length v.locals ≤ k) → value_of (with_value v k x) k ≡ x
    by-local f (inl l) =
        let within : k < length (slice_set v.locals k x) = omega (arith, length-set v.locals k x, l) in
        rw (local-set v k x f l, local-value (record v { locals = slice_set v.locals k x }) k f within) (get_or-set_same v.locals k x 0 l)
    by-local f (inr l) =
        let within : k < length (v.locals ++ replicate (k - length v.locals) 0 ++ x ∷ []) = omega (arith, length-grown v.locals k x l) in
        let e : k - k ≡ 0 = omega arith in
        rw (marginal-set v k x f l, local-value (record v { locals = v.locals ++ replicate (k - length v.locals) 0 ++ x ∷ [] }) k f within)
        (get_or-append_right (v.locals ++ replicate (k - length v.locals) 0) (x ∷ []) k k 0 (length-front v.locals k l) (omega arith) ∙ rw e refl)

    by-global : (k < v.first_global) ⊎ (v.first_global ≤ k) → value_of (with_value v k x) k ≡ x
    by-global (inl f) = by-local f (cases_lt k (length v.locals))
    by-global (inr f) =
        let within : k - v.first_global < length v.globals = omega (arith, b.all_globals, f, below) in
        rw (global-set v k x f, global-value (record v { globals = slice_set v.globals (k - v.first_global) x }) k f) (get_or-set_same v.globals (k - v.first_global) x 0 within)

-- OVER THE REGISTER STACK

shown-with : (s : Stack) (v : Registers) → visible (with_visible s v) ≡ v
shown-with (listed r) v = refl
shown-with (windowed w) v = refl

shown-grown : (s : Stack) → visible (after_growth s) ≡ visible s
shown-grown (listed r) = refl
shown-grown (windowed w) = refl

twice-with : (s : Stack) (u v : Registers) → with_visible (with_visible s u) v ≡ with_visible s v
twice-with (listed r) u v = refl
twice-with (windowed w) u v = refl

twice-grown : (s : Stack) (u v : Registers) → length u.locals ≡ length v.locals → with_visible (after_growth (with_visible s u)) v ≡ after_growth (with_visible s v)
twice-grown (listed r) u v e = refl
twice-grown (windowed w) u v e = rw e refl

-- the two cases of a value for a register
set-grown-stack : (s : Stack) (k x : ℕ) → is_marginal (visible s) k ≡ true → with_register s k x ≡ after_growth (with_visible s (with_value (visible s) k x))
unfolding with_register
set-grown-stack s k x e = rw e refl

set-old-stack : (s : Stack) (k x : ℕ) → is_marginal (visible s) k ≡ false → with_register s k x ≡ with_visible s (with_value (visible s) k x)
unfolding with_register
set-old-stack s k x e = rw e refl

pub shown-set : (s : Stack) (k x : ℕ) → visible (with_register s k x) ≡ with_value (visible s) k x
shown-set s k x = by (is_marginal (visible s) k) refl
  where
    by : (m : Bool) → is_marginal (visible s) k ≡ m → visible (with_register s k x) ≡ with_value (visible s) k x
    by true e = rw (set-grown-stack s k x e) (shown-grown (with_visible s (with_value (visible s) k x)) ∙ shown-with s (with_value (visible s) k x))
    by false e = rw (set-old-stack s k x e) (shown-with s (with_value (visible s) k x))

-- two values make as many registers local
same-length : (v : Registers) (k a b : ℕ) → is_marginal v k ≡ true → length (with_value v k a).locals ≡ length (with_value v k b).locals
same-length v k a b e =
    let f : k < v.first_global = grind (arith, nat_tests) in
    let l : length v.locals ≤ k = grind (arith, nat_tests) in
    rw (marginal-set v k a f l, marginal-set v k b f l) (length-grown v.locals k a l ∙ sym (length-grown v.locals k b l))

-- a value for a register that was made local before
pub stack-twice : (s : Stack) (k a b : ℕ) → with_register (with_register s k a) k b ≡ with_register s k b
stack-twice s k a b = second ∙ by (is_marginal (visible s) k) refl
  where
    second : with_register (with_register s k a) k b ≡ with_visible (with_register s k a) (with_value (visible s) k b)
    second =
        set-old-stack (with_register s k a) k b (ap (λ v. is_marginal v k) (shown-set s k a) ∙ no-longer-marginal (visible s) k a)
        ∙ ap (λ v. with_visible (with_register s k a) (with_value v k b)) (shown-set s k a)
        ∙ ap (λ v. with_visible (with_register s k a) v) (value-twice (visible s) k a b)

    by : (m : Bool) → is_marginal (visible s) k ≡ m → with_visible (with_register s k a) (with_value (visible s) k b) ≡ with_register s k b
    by true e = rw (set-grown-stack s k a e, set-grown-stack s k b e) (twice-grown s (with_value (visible s) k a) (with_value (visible s) k b) (same-length (visible s) k a b e))
    by false e = rw (set-old-stack s k a e, set-old-stack s k b e) (twice-with s (with_value (visible s) k a) (with_value (visible s) k b))

-- a register that is made local shows what it had, and so do the others
pub stack-kept : (s : Stack) (k j : ℕ) → register (with_register s k (register s k)) j ≡ register s j
unfolding register
stack-kept s k j = ap (λ v. value_of v j) (shown-set s k (value_of (visible s) k)) ∙ value-kept (visible s) k j

pub own-register : (s : Stack) (k x : ℕ) → AreInBounds (visible s) → k < 256 → register (with_register s k x) k ≡ x
unfolding register
own-register s k x b f = ap (λ v. value_of v k) (shown-set s k x) ∙ own-value (visible s) k x b f

-- then there is room for it
pub stack-fits : (s : Stack) (k a : ℕ) → set_overfills (with_register s k a) k ≡ false
unfolding set_overfills
stack-fits s k a = rw (ap (λ v. is_marginal v k) (shown-set s k a) ∙ no-longer-marginal (visible s) k a) refl
