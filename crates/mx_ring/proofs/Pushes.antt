-- PUSH by the place of its register.
use Rattle.std.proofs.Common.{◌≡◌, ℕ, ◌+◌, ◌-◌, ◌≤◌, ◌<◌, true, List, [], ◌∷◌, ◌++◌, length, take, drop, replicate, arith, refl, ◌∙◌, ap}
use Rattle.std.proofs.lemmas.Bool.Decides.{nat_tests}
use Rattle.std.proofs.lemmas.List.{append-nil, take_all, drop_all}
use Rattle.mx_registers.specs.Bounds.{AreInBounds}
use Rattle.mx_ring.specs.Laws.{HidesLocals}
use Rattle.mx_ring.specs.RegisterList.{RegisterList}
use Rattle.mx_registers.specs.Registers.{Registers, is_marginal, push_number, registers_below, registers_from}
use Rattle.mx_ring.specs.Stack.{listed, pushed}

number-below : (v : Registers) (x : ℕ) → x < v.first_global → push_number v x ≡ x
number-below v x f = grind (arith, nat_tests)

number-global : (v : Registers) (x : ℕ) → v.first_global ≤ x → push_number v x ≡ length v.locals
number-global v x f = grind (arith, nat_tests)

hides : (r : RegisterList) (x n : ℕ) (octas locals : List ℕ) → push_number r.visible x ≡ n → registers_below r.visible n ++ n ∷ [] ≡ octas → drop (n + 1) r.visible.locals ≡ locals → HidesLocals r x octas locals
unfolding pushed
hides r x n octas locals e eo el = rw e (ap (λ (os : List ℕ). listed (record { hidden = r.hidden ++ os; visible = registers_from r.visible (n + 1) })) eo ∙ ap (λ (ls : List ℕ). listed (record { hidden = r.hidden ++ octas; visible = record r.visible { locals = ls } })) el)

pub local-push : (r : RegisterList) (x : ℕ) → AreInBounds r.visible → x < length r.visible.locals → HidesLocals r x (take x r.visible.locals ++ x ∷ []) (drop (x + 1) r.visible.locals)
local-push r x b f =
    let none : x - length r.visible.locals ≡ 0 = omega arith in
    let below : registers_below r.visible x ≡ take x r.visible.locals = rw none (append-nil (take x r.visible.locals)) in
    hides r x x _ _ (number-below r.visible x (omega (arith, b.locals_below_globals))) (ap (λ os. os ++ x ∷ []) below) refl

pub marginal-push : (r : RegisterList) (x : ℕ) → is_marginal r.visible x ≡ true → HidesLocals r x (r.visible.locals ++ replicate (x - length r.visible.locals) 0 ++ x ∷ []) []
marginal-push r x m =
    let below : x < r.visible.first_global = grind (arith, nat_tests) in
    let above : length r.visible.locals ≤ x = grind (arith, nat_tests) in
    let all : take x r.visible.locals ≡ r.visible.locals = take_all x r.visible.locals above in
    hides r x x _ _ (number-below r.visible x below) (ap (λ ls. ls ++ replicate (x - length r.visible.locals) 0 ++ x ∷ []) all) (drop_all (x + 1) r.visible.locals (omega arith))

pub global-push : (r : RegisterList) (x : ℕ) → r.visible.first_global ≤ x → HidesLocals r x (r.visible.locals ++ length r.visible.locals ∷ []) []
global-push r x f =
    let l : ℕ = length r.visible.locals in
    let none : l - l ≡ 0 = omega arith in
    let below : registers_below r.visible l ≡ r.visible.locals = rw none (append-nil (take l r.visible.locals) ∙ take_all l r.visible.locals (omega arith)) in
    hides r x l _ _ (number-global r.visible x f) (ap (λ os. os ++ l ∷ []) below) (drop_all (l + 1) r.visible.locals (omega arith))
