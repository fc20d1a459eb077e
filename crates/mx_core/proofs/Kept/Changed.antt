-- What a user or a file trap changes: it keeps the machine, and the list does the same.
use Rattle.std.proofs.Common.{◌≡◌, ℕ, ◌+◌, ◌/◌, ◌%◌, ◌^◌, ◌≤◌, ◌==◌, Bool, true, false, cond, List, [], ◌∷◌, Result, Ok, Err, length, arith, refl, sym, subst, ◌∙◌, ap}
use Rattle.std.proofs.lemmas.Bool.Decides.{nat_tests}
use Rattle.std.proofs.lemmas.List.{length-set}
use Rattle.mx_word.specs.Results.{map_ok}
use Rattle.mx_registers.specs.Registers.{Registers}
use Rattle.mx_ring.specs.Stack.{Stack, as_listed, in_stack_area, set_overfills, cut_to, with_global_start, register}
use Rattle.mx_ring.specs.Window.{Window}
use Rattle.mx_code.specs.Puts.{put_of, is_global_threshold}
use Rattle.mx_code.specs.SpecialRegisters.{rG, rL, rWW, rXX, rYY, rZZ, rBB}
use Rattle.mx_code.specs.declared.put.Put.{Put}
use Rattle.mx_code.specs.declared.put.Put.TheVariants as put
use Rattle.mx_alu.specs.declared.call.TrapCall.{TrapCall}
use Rattle.mx_core.specs.Bounds.{IsMachine, as_list_state}
use Rattle.mx_core.specs.UserChanges.{allowed_unless, register_changed, with_put, put_by_user, special_changed, octa_changed, at_address}
use Rattle.mx_core.specs.Deeds.{with_specials, onward}
use Rattle.mx_core.specs.State.{State, global_start, locals, with_value_in, with_special, with_octa, is_page_refused}
use Rattle.mx_core.specs.Traps.{trap_specials, trapped, halted, with_touch}
use Rattle.mx_core.specs.declared.changes.SetFault.{SetFault}
use Rattle.mx_core.proofs.Kept.Applied.{value-listed, octa-listed, specials-listed}
use Rattle.mx_core.proofs.Choices.{chosen, chosen-by}
use Rattle.mx_core.proofs.Kept.Machines.{HasMachine, machine-of}
use Rattle.mx_core.proofs.Kept.Rings.{IsRinged, cut-listed, globals-listed, cut-ringed, globals-ringed, cut-spilled, globals-spilled, room-global}
use Rattle.mx_core.proofs.Same.Steps.{sound-of}
use Rattle.mx_core.proofs.Same.Seen.{same-visible, same-overfills, same-register}
use Rattle.mx_core.proofs.Kept.Shapes.{put-cases}
use Rattle.mx_core.proofs.Kept.Stages.{IsSound, stack-sound, value-sound, octa-sound, specials-sound, onward-sound}

ring-of : (s : State) (w : Window) → IsMachine s w → IsRinged s.stack
ring-of s w m = (sound-of s w m).ring

-- THE LIST DOES THE SAME

allowed-listed : (b : Bool) (c s : State) → c ≡ as_list_state s → allowed_unless b c ≡ map_ok as_list_state (allowed_unless b s)
allowed-listed true c s e = refl
allowed-listed false c s e = ap (λ (u : State). Ok u) e

pub register-listed : (s : State) (w : Window) (k value : ℕ) → IsMachine s w → register_changed (as_list_state s) k value ≡ map_ok as_list_state (register_changed s k value)
register-listed s w k value m =
    ap (λ b. allowed_unless b (with_value_in (as_list_state s) k value)) (same-overfills s.stack k) ∙ allowed-listed (set_overfills s.stack k) _ (with_value_in s k value) (value-listed s k value (ring-of s w m))

put-listed : (s : State) (w : Window) (code : ℕ) (p : Put) → IsMachine s w → put_by_user (as_list_state s) code p ≡ map_ok as_list_state (put_by_user s code p)
put-listed s w code (put.Store value) m = ap (λ (u : State). Ok u) (by-code (code == rL) (code == rG))
  where
    by-code : (a b : Bool) → cond a (record s { stack = cut_to (as_listed s.stack) value }) (cond b (record s { stack = with_global_start (as_listed s.stack) value }) (with_special (as_list_state s) code value)) ≡ as_list_state (cond a (record s { stack = cut_to s.stack value }) (cond b (record s { stack = with_global_start s.stack value }) (with_special s code value)))
    by-code true b = ap (λ (z : Stack). record s { stack = z }) (cut-listed s.stack value (ring-of s w m))
    by-code false true = ap (λ (z : Stack). record s { stack = z }) (globals-listed s.stack value (ring-of s w m))
    by-code false false = refl
put-listed s w code put.Illegal m = refl
put-listed s w code put.Privileged m = refl

pub special-listed : (s : State) (w : Window) (code value : ℕ) → IsMachine s w → special_changed (as_list_state s) code value ≡ map_ok as_list_state (special_changed s code value)
special-listed s w code value m =
    ap (λ (v : Registers). put_by_user (as_list_state s) code (put_of code value v.first_global (length v.locals))) (same-visible s.stack) ∙ put-listed s w code (put_of code value (global_start s) (locals s)) m

pub octa-changed-listed : (s : State) (a x : ℕ) → in_stack_area a ≡ false → octa_changed (as_list_state s) a x ≡ map_ok as_list_state (octa_changed s a x)
octa-changed-listed s a x e = allowed-listed (is_page_refused s a) _ (with_octa s a x) (octa-listed s a x e)

trap-specials : (s : State) (call : TrapCall) (value : ℕ) → trap_specials (as_list_state s) call value ≡ trap_specials s call value
trap-specials s call value =
    ap (λ y. (rWW, (call.pc + 4) % 2 ^ 64) ∷ (rXX, 2 ^ 63 + call.word) ∷ (rYY, y) ∷ (rZZ, register (as_listed s.stack) (call.word % 2 ^ 8)) ∷ (rBB, value) ∷ []) (same-register s.stack (call.word / 2 ^ 8 % 2 ^ 8)) ∙ ap (λ z. (rWW, (call.pc + 4) % 2 ^ 64) ∷ (rXX, 2 ^ 63 + call.word) ∷ (rYY, register s.stack (call.word / 2 ^ 8 % 2 ^ 8)) ∷ (rZZ, z) ∷ (rBB, value) ∷ []) (same-register s.stack (call.word % 2 ^ 8))

pub trapped-listed : (s : State) (w : Window) (call : TrapCall) (value : ℕ) → IsMachine s w → trapped (as_list_state s) call value ≡ as_list_state (trapped s call value)
unfolding trapped
trapped-listed s w call value m =
    let after : State = with_specials s (trap_specials s call value) in
    let h : IsSound (s.touched ≡ false) after = specials-sound _ s (trap_specials s call value) (sound-of s w m) in
    ap (λ (more : List (ℕ × ℕ)). onward (with_value_in (with_specials (as_list_state s) more) 255 value) ((call.pc + 4) % 2 ^ 64)) (trap-specials s call value) ∙ ap (λ (u : State). onward (with_value_in u 255 value) ((call.pc + 4) % 2 ^ 64)) (specials-listed s (trap_specials s call value)) ∙ ap (λ (u : State). onward u ((call.pc + 4) % 2 ^ 64)) (value-listed after 255 value h.ring)

-- MACHINES STAY MACHINES

abbrev pub OfOk : (State → Type 0) → Result State SetFault → Type 0
OfOk P (Ok t) = P t
OfOk P (Err fault) = Unit {0}

pub ok-is : (P : State → Type 0) (x : Result State SetFault) (t : State) → OfOk P x → x ≡ Ok t → P t
ok-is P x t h e = subst (OfOk P) e h

pub allowed-ok : (P : State → Type 0) (b : Bool) (s : State) → (b ≡ false → P s) → OfOk P (allowed_unless b s)
allowed-ok P true s h = tt
allowed-ok P false s h = h refl

same-machine : (s t : State) (w : Window) → IsMachine s w → IsSound (s.touched ≡ false) t → t.touched ≡ s.touched → t.pc ≡ s.pc → HasMachine t
same-machine s t w m h e f = machine-of (s.touched ≡ false) t h (λ u. sym e ∙ u) (ap (λ a. a % 4) f ∙ m.address)

pub register-keeps : (s t : State) (w : Window) (k value : ℕ) → IsMachine s w → register_changed s k value ≡ Ok t → HasMachine t
register-keeps s t w k value m e =
    ok-is HasMachine _ t (allowed-ok HasMachine (set_overfills s.stack k) (with_value_in s k value) (λ o. same-machine s (with_value_in s k value) w m (value-sound _ s k value (sound-of s w m) o) refl refl)) e

put-keeps : (s : State) (w : Window) (code value : ℕ) → IsMachine s w → ((code == rL) ≡ true → value ≤ locals s) → ((code == rG) ≡ true → is_global_threshold value (locals s) ≡ true) → HasMachine (with_put s code value)
put-keeps s w code value m l g =
    let h : IsSound (s.touched ≡ false) s = sound-of s w m in
    chosen-by HasMachine (code == rL) _ _ (λ a. same-machine s _ w m (stack-sound (s.touched ≡ false) s (cut_to s.stack value) s.mark h (cut-ringed s.stack value h.ring (l a)) (λ p. rw (cut-spilled s.stack value) (h.marked p))) refl refl) (λ a. chosen-by HasMachine (code == rG) _ _ (λ b. let t : is_global_threshold value (locals s) ≡ true = g b in same-machine s _ w m (stack-sound (s.touched ≡ false) s (with_global_start s.stack value) s.mark h (globals-ringed s.stack value h.ring (grind (arith, nat_tests)) (grind (arith, nat_tests)) (grind (arith, nat_tests))) (λ p. rw (globals-spilled s.stack value) (h.marked p))) refl refl) (λ b. same-machine s (with_special s code value) w m (record { ring = h.ring; marked = h.marked; pages = h.pages; specials = length-set s.special code value ∙ h.specials }) refl refl))

pub special-keeps : (s t : State) (w : Window) (code value : ℕ) → IsMachine s w → special_changed s code value ≡ Ok t → HasMachine t
special-keeps s t w code value m e =
    ok-is HasMachine _ t (put-cases (λ (p : Put). OfOk HasMachine (put_by_user s code p)) code value (global_start s) (locals s) tt tt (λ v b. put-keeps s w code v m b.local b.global)) e

same-touched : (s : State) (a x : ℕ) → (with_octa s a x).touched ≡ s.touched
unfolding with_octa
same-touched s a x = chosen (λ (t : State). t.touched ≡ s.touched) (in_stack_area a) _ _ refl refl

same-address : (s : State) (a x : ℕ) → (with_octa s a x).pc ≡ s.pc
unfolding with_octa
same-address s a x = chosen (λ (t : State). t.pc ≡ s.pc) (in_stack_area a) _ _ refl refl

pub octa-changed-keeps : (s t : State) (w : Window) (a x : ℕ) → IsMachine s w → octa_changed s a x ≡ Ok t → HasMachine t
octa-changed-keeps s t w a x m e =
    ok-is HasMachine _ t (allowed-ok HasMachine (is_page_refused s a) (with_octa s a x) (λ o. same-machine s (with_octa s a x) w m (octa-sound _ s a x (sound-of s w m) o) (same-touched s a x) (same-address s a x))) e

pub address-keeps : (s : State) (w : Window) (a : ℕ) → IsMachine s w → HasMachine (at_address s a)
address-keeps s w a m =
    let h : IsSound (s.touched ≡ false) s = sound-of s w m in
    machine-of (s.touched ≡ false) (at_address s a) (record { ring = h.ring; marked = h.marked; pages = h.pages; specials = h.specials }) (λ t. t) (omega arith)

specials-touched : (s : State) (more : List (ℕ × ℕ)) → (with_specials s more).touched ≡ s.touched
specials-touched s [] = refl
specials-touched s ((code, value) ∷ more) = specials-touched (with_special s code value) more

pub trapped-keeps : (s : State) (w : Window) (call : TrapCall) (value : ℕ) → IsMachine s w → HasMachine (trapped s call value)
unfolding trapped
trapped-keeps s w call value m =
    let after : State = with_specials s (trap_specials s call value) in
    let h : IsSound (s.touched ≡ false) after = specials-sound _ s (trap_specials s call value) (sound-of s w m) in
    machine-of (s.touched ≡ false) _ (onward-sound (s.touched ≡ false) (with_value_in after 255 value) ((call.pc + 4) % 2 ^ 64) (value-sound (s.touched ≡ false) after 255 value h (room-global after.stack h.ring))) (λ t. sym (specials-touched s (trap_specials s call value)) ∙ t) (omega arith)

pub halted-keeps : (s : State) (w : Window) → IsMachine s w → HasMachine (halted s)
halted-keeps s w m = let h : IsSound (s.touched ≡ false) s = sound-of s w m in same-machine s (halted s) w m (record { ring = h.ring; marked = h.marked; pages = h.pages; specials = h.specials }) refl refl

pub touch-keeps : (s : State) (w : Window) → IsMachine s w → HasMachine (with_touch s)
touch-keeps s w m =
    let h : IsSound (s.touched ≡ false) s = sound-of s w m in
    machine-of (s.touched ≡ false) (with_touch s) (record { ring = h.ring; marked = h.marked; pages = h.pages; specials = h.specials }) (λ t. absurd (cc)) m.address
