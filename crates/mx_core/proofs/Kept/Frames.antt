-- What SAVE keeps of a machine comes back by UNSAVE of the address that it gives.
use Rattle.std.proofs.Common.{◌≡◌, ℕ, ◌-◌, ◌^◌, ◌≤◌, ◌<◌, false, get_or, set, arith, sym, subst, ◌∙◌, ap}
use Rattle.std.proofs.lemmas.Bool.Decides.{nat_tests}
use Rattle.std.proofs.lemmas.List.{get_or-set_same}
use Rattle.mx_ring.proofs.ComesBack.{window-kept}
use Rattle.mx_registers.proofs.Values.{with_value-global}
use Rattle.mx_registers.specs.Bounds.{AreInBounds}
use Rattle.mx_ring.specs.Bounds.{IsRing}
use Rattle.mx_ring.specs.Laws.{SaveIsUndone}
use Rattle.mx_registers.specs.Registers.{Registers, value_of, with_value, with_locals_cut}
use Rattle.mx_ring.specs.Stack.{Stack, windowed, visible, register, save_overfills, saved, frame_top, stack_address}
use Rattle.mx_ring.specs.Window.{Window}
use Rattle.mx_ring.specs.declared.saved.Saved.{Saved}
use Rattle.mx_core.specs.Effects.{specials_saved}
use Rattle.mx_core.specs.Machines.{IsOverWindow}
use Rattle.mx_core.specs.State.{State, global_start, special_register}

value-at : (v : Registers) (k : ℕ) → v.first_global ≤ k → value_of v k ≡ get_or v.globals (k - v.first_global) 0
unfolding value_of
value-at v k f = grind (arith, nat_tests)

global-written : (v : Registers) (k x : ℕ) → AreInBounds v → v.first_global ≤ k → k < 256 → value_of (with_value v k x) k ≡ x
global-written v k x b f g =
    ap (λ (u : Registers). value_of u k) (with_value-global v k x f) ∙ value-at (record v { globals = set v.globals (k - v.first_global) x }) k f ∙ get_or-set_same v.globals (k - v.first_global) x 0 (omega (arith, b.all_globals))

window-address : (w : Window) (x : ℕ) (specials : Saved) → IsRing w → w.visible.first_global ≤ x → x < 256 → register (saved (windowed w) x specials) x ≡ stack_address (frame_top (windowed w))
unfolding saved register
window-address w x specials r f g =
    let b : AreInBounds w.visible = r.registers in
    global-written (with_locals_cut w.visible 0) x (stack_address (frame_top (windowed w))) (record { locals_below_globals = omega arith; least_global = b.least_global; one_is_global = b.one_is_global; all_globals = b.all_globals }) f g

pub frame-address : (s : State) (x : ℕ) (specials : Saved) → IsOverWindow s → global_start s ≤ x → x < 256 → register (saved s.stack x specials) x ≡ stack_address (frame_top s.stack)
frame-address s x specials h f g =
    let w : Window = h.window in
    let least : w.visible.first_global ≤ x = subst (λ (z : Stack). (visible z).first_global ≤ x) h.machine.over f in
    subst (λ (z : Stack). register (saved z x specials) x ≡ stack_address (frame_top z)) (sym h.machine.over) (window-address w x specials h.machine.ring least g)

saved-status : (s : State) → IsOverWindow s → (specials_saved s).a < 2 ^ 18
unfolding special_register
saved-status s h = h.octas.status

pub frame-kept : (s : State) (x : ℕ) → IsOverWindow s → save_overfills s.stack ≡ false → SaveIsUndone s.stack x (specials_saved s)
frame-kept s x h o =
    let w : Window = h.window in
    let e : s.stack ≡ windowed w = h.machine.over in
    subst (λ (z : Stack). SaveIsUndone z x (specials_saved s)) (sym e) (window-kept w x (specials_saved s) h.machine.ring (saved-status s h) (sym (ap save_overfills e) ∙ o))
