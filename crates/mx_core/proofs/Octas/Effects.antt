-- Effects on a machine that holds octas give octas.
use Rattle.std.proofs.Common.{◌≡◌, ℕ, bit_or, ◌*◌, ◌^◌, ◌<◌, ◌==◌, nat_lt, Bool, true, false, cond, List, [], ◌∷◌, ◌++◌, Option, None, Some, arith, refl}
use Rattle.std.proofs.lemmas.Nat.{or_lt}
use Rattle.std.proofs.lemmas.Bool.Decides.{nat_tests}
use Rattle.mx_alu.specs.Alu.{alu}
use Rattle.mx_alu.specs.Truth.{truth}
use Rattle.mx_alu.specs.declared.answer.Answer.{Answer}
use Rattle.mx_alu.specs.declared.answer.Event.{Event}
use Rattle.mx_alu.specs.declared.answer.Event.TheVariants.{Divide, Overflow}
use Rattle.mx_mem.specs.Parts.{size_of, part_of}
use Rattle.mx_mem.specs.declared.part.Part.{Part}
use Rattle.mx_mem.specs.declared.part.Part.TheVariants.{Byte, Wyde, Tetra, Octa}
use Rattle.mx_ops.specs.Opcodes.{opcode_kind, is_immediate, is_backward}
use Rattle.mx_ring.specs.Stack.{Stack, save_overfills, stack_index}
use Rattle.mx_ring.specs.declared.saved.Saved.{Saved}
use Rattle.mx_code.specs.Puts.{put_of}
use Rattle.mx_code.specs.SpecialRegisters.{rB, rD, rE, rH, rJ, rM, rR, rG, rL, rA, rP, rW, rX, rY, rZ}
use Rattle.mx_code.specs.declared.put.Put.{Put}
use Rattle.mx_alu.specs.Trips.{handler, is_enabled, event_bit}
use Rattle.mx_alu.specs.declared.decision.Trip.TheVariants.{Taken, Noted}
use Rattle.mx_code.specs.Instructions.{code_of, x_of, y_of, z_of, next_of, near_address, wyde_value}
use Rattle.mx_code.specs.declared.instruction.Instruction.{Instruction}
use Rattle.mx_code.specs.LoadsAndStores.{sign_extended, loaded_value, stored_event}
use Rattle.mx_core.specs.Effects.{Effect, effect_of, giving, going_to, given_y, given_z, x_register, y_operand, z_operand, data_address, with_decision, with_event, if_told, computed, extra_of, swapped, specials_saved, specials_back, putting}
use Rattle.mx_core.specs.State.{State, octa, special_register, global_start, locals}
use Rattle.mx_code.specs.declared.operation.Loading.{Loading}
use Rattle.mx_code.specs.declared.operation.Loading.TheVariants as loading
use Rattle.mx_code.specs.declared.operation.Operation.{Operation}
use Rattle.mx_code.specs.declared.operation.Operation.TheVariants as op
use Rattle.mx_core.proofs.Choices.{chosen}
use Rattle.mx_core.proofs.Octas.Answered.{IsOctaIf, GivesOctas, alu-octas, wyde-octas}
use Rattle.mx_core.proofs.Octas.Stacks.{OctaSaved, octa-register, unsaved-octas}
use Rattle.mx_core.proofs.Octas.Stages.{OctaState, OctaSpecial, OctaSpecials, OctaMove, OctaTrip, OctaOperands, OctaInstruction, OctaEffect, no-status, octa-below, octa-special}
use Rattle.mx_core.proofs.Kept.Rings.{IsRinged}
use Rattle.mx_core.proofs.Kept.Shapes.{IsStored, put-cases}

-- OPERANDS

y-given : (given : Option (ℕ × ℕ)) (own : ℕ) → OctaOperands given → own < 2 ^ 64 → given_y given own < 2 ^ 64
y-given None own h f = f
y-given (Some (y, z)) own h f = h.0

z-given : (given : Option (ℕ × ℕ)) (own : ℕ) → OctaOperands given → own < 2 ^ 64 → given_z given own < 2 ^ 64
z-given None own h f = f
z-given (Some (y, z)) own h f = h.1

y-below : (s : State) (i : Instruction) → OctaState s → OctaInstruction i → y_operand s i < 2 ^ 64
y-below s i h o = y-given i.given _ o.given (octa-register s.stack (y_of i) h.stack)

z-below : (s : State) (i : Instruction) → OctaState s → OctaInstruction i → z_operand s i < 2 ^ 64
z-below s i h o = z-given i.given _ o.given (chosen (λ n. n < 2 ^ 64) (is_immediate (opcode_kind (code_of i))) _ _ (omega arith) (octa-register s.stack (z_of i) h.stack))

near-below : (i : Instruction) → near_address i < 2 ^ 64
near-below i = chosen (λ n. n < 2 ^ 64) (is_backward (opcode_kind (code_of i))) _ _ (omega arith) (omega arith)

-- WITHOUT AND WITH EVENTS

octa-effect : (z : Stack) (e : Effect) → IsOctaIf e.result → OctaSpecials e.special → OctaMove z e.move → OctaTrip e.trip → OctaEffect z e
octa-effect z e r s m t = record { result = r; special = s; move = m; trip = t }

going-octas : (z : Stack) (i : Instruction) (next : ℕ) → OctaEffect z (going_to i next)
going-octas z i next = octa-effect z _ tt tt tt tt

giving-octas : (z : Stack) (i : Instruction) (x : ℕ) → x < 2 ^ 64 → OctaEffect z (giving i x)
giving-octas z i x f = octa-effect z _ f tt tt tt

specials-append : (xs ys : List (ℕ × ℕ)) → OctaSpecials xs → OctaSpecials ys → OctaSpecials (xs ++ ys)
specials-append [] ys p q = q
specials-append ((code, value) ∷ xs) ys p q = (p.0, specials-append xs ys p.1 q)

-- an event that is noted keeps rA within 18 bits
noted-below : (ra : ℕ) (event : Event) → ra < 2 ^ 18 → bit_or ra (event_bit event) < 2 ^ 18
noted-below ra Divide f = or_lt 18 ra 0x80 f (omega arith)
noted-below ra Overflow f = or_lt 18 ra 0x40 f (omega arith)

decision-octas : (z : Stack) (t : Bool) (ra : ℕ) (event : Event) (y x : ℕ) (e : Effect) → ra < 2 ^ 18 → y < 2 ^ 64 → x < 2 ^ 64 → OctaEffect z e → OctaEffect z (with_decision (cond t (Taken (handler event)) (Noted (bit_or ra (event_bit event)))) y x e)
decision-octas z true ra event y x e a f g h = octa-effect z _ h.result h.special h.move (f, g)
decision-octas z false ra event y x e a f g h =
    let n : bit_or ra (event_bit event) < 2 ^ 18 = noted-below ra event a in
    octa-effect z _ h.result (specials-append e.special _ h.special (record { octa = omega arith; status = λ c. n }, tt)) h.move h.trip

status-of : (s : State) → OctaState s → special_register s rA < 2 ^ 18
unfolding special_register
status-of s h = h.status

event-octas : (s : State) (event : Option Event) (y x : ℕ) (e : Effect) → OctaState s → y < 2 ^ 64 → x < 2 ^ 64 → OctaEffect s.stack e → OctaEffect s.stack (with_event s event y x e)
event-octas s None y x e h f g o = o
event-octas s (Some event) y x e h f g o = decision-octas s.stack (is_enabled (special_register s rA) event) (special_register s rA) event y x e (status-of s h) f g o

told-octas : (code : ℕ) (x : Option ℕ) → IsOctaIf x → (code == rA) ≡ false → OctaSpecials (if_told code x)
told-octas code None f e = tt
told-octas code (Some x) f e = (no-status code x f e, tt)

computed-octas : (s : State) (i : Instruction) (y z : ℕ) → IsRinged s.stack → OctaState s → y < 2 ^ 64 → z < 2 ^ 64 → OctaEffect s.stack (computed s i y z)
computed-octas s i y z r h f g =
    let a : Answer = alu (code_of i) y z (extra_of s) in
    let o : GivesOctas a = alu-octas (code_of i) y z (extra_of s) f g (octa-special s rD r h) in
    event-octas s a.event y z _ h f g (octa-effect s.stack _ o.x (specials-append (if_told rH a.h) (if_told rR a.r) (told-octas rH a.h o.h refl) (told-octas rR a.r o.r refl)) tt tt)

-- MEMORY

sign-below : (part : Part) (v : ℕ) → v < 2 ^ (8 * size_of part) → sign_extended part v < 2 ^ 64
sign-below Byte v f = chosen (λ n. n < 2 ^ 64) (nat_lt v (2 ^ 7)) _ _ (omega arith) (omega arith)
sign-below Wyde v f = chosen (λ n. n < 2 ^ 64) (nat_lt v (2 ^ 15)) _ _ (omega arith) (omega arith)
sign-below Tetra v f = chosen (λ n. n < 2 ^ 64) (nat_lt v (2 ^ 31)) _ _ (omega arith) (omega arith)
sign-below Octa v f = chosen (λ n. n < 2 ^ 64) (nat_lt v (2 ^ 63)) _ _ (omega arith) (omega arith)

part-of-below : (part : Part) (x a : ℕ) → part_of part x a < 2 ^ (8 * size_of part)
part-of-below Byte x a = omega arith
part-of-below Wyde x a = omega arith
part-of-below Tetra x a = omega arith
part-of-below Octa x a = omega arith

part-octa : (part : Part) (x a : ℕ) → part_of part x a < 2 ^ 64
part-octa Byte x a = omega arith
part-octa Wyde x a = omega arith
part-octa Tetra x a = omega arith
part-octa Octa x a = omega arith

loaded-below : (how : Loading) (x a : ℕ) → loaded_value how x a < 2 ^ 64
loaded-below (loading.Signed part) x a = sign-below part (part_of part x a) (part-of-below part x a)
loaded-below (loading.Unsigned part) x a = part-octa part x a
loaded-below loading.HighTetra x a = let f : part_of Tetra x a < 2 ^ 32 = part-of-below Tetra x a in omega arith

swap-octas : (s : State) (i : Instruction) (a found : ℕ) → found < 2 ^ 64 → OctaEffect s.stack (swapped s i a found)
swap-octas s i a found f = chosen (OctaEffect s.stack) (found == special_register s rP) _ _ (octa-effect s.stack _ (omega arith) tt tt tt) (octa-effect s.stack _ (omega arith) (no-status rP found f refl, tt) tt tt)

-- FRAMES AND PUT

saved-octas : (s : State) → IsRinged s.stack → OctaState s → OctaSaved (specials_saved s)
saved-octas s r h = record {
  octas = (octa-special s rB r h, (octa-special s rD r h, (octa-special s rE r h, (octa-special s rH r h, (octa-special s rJ r h, (octa-special s rM r h, (octa-special s rR r h, (octa-special s rP r h, (octa-special s rW r h, (octa-special s rX r h, (octa-special s rY r h, (octa-special s rZ r h, tt))))))))))));
  status = status-of s h;
}

back-octas : (f : Saved) → OctaSaved f → OctaSpecials (specials_back f)
back-octas f o =
    let a = o.octas in
    (no-status rB f.b a.0 refl, (no-status rD f.d a.1.0 refl, (no-status rE f.e a.1.1.0 refl, (no-status rH f.h a.1.1.1.0 refl, (no-status rJ f.j a.1.1.1.1.0 refl, (no-status rM f.m a.1.1.1.1.1.0 refl, (no-status rR f.r a.1.1.1.1.1.1.0 refl, (no-status rP f.p a.1.1.1.1.1.1.1.0 refl, (no-status rW f.w a.1.1.1.1.1.1.1.1.0 refl, (no-status rX f.x a.1.1.1.1.1.1.1.1.1.0 refl, (no-status rY f.y a.1.1.1.1.1.1.1.1.1.1.0 refl, (no-status rZ f.z a.1.1.1.1.1.1.1.1.1.1.1.0 refl, (record { octa = omega (arith, o.status); status = λ e. o.status }, tt)))))))))))))

pub stored-special : (code value l v : ℕ) → value < 2 ^ 64 → IsStored code value l v → OctaSpecial code v
stored-special code value l v f b = record { octa = omega (arith, b.most); status = λ e. b.status (grind (arith, nat_tests)) }

put-octas : (z : Stack) (i : Instruction) (code value g l : ℕ) → value < 2 ^ 64 → OctaEffect z (putting i code (put_of code value g l))
put-octas z i code value g l f =
    put-cases (λ (p : Put). OctaEffect z (putting i code p)) code value g l (going-octas z i (next_of i)) (going-octas z i (next_of i)) (λ v b. chosen (OctaEffect z) (code == rL) _ _ (octa-effect z _ tt tt tt tt) (chosen (OctaEffect z) (code == rG) _ _ (octa-effect z _ tt tt tt tt) (octa-effect z _ tt (stored-special code value l v f b, tt) tt tt)))

-- ALL OPERATIONS

abbrev pub SaveFits : Operation → Stack → Type 0
SaveFits op.Save z = save_overfills z ≡ false
SaveFits operation z = Unit {0}

pub effect-octas : (operation : Operation) (s : State) (i : Instruction) → IsRinged s.stack → OctaState s → OctaInstruction i → SaveFits operation s.stack → OctaEffect s.stack (effect_of operation s i)
unfolding effect_of
effect-octas op.Compute s i r h o f = computed-octas s i _ _ r h (y-below s i h o) (z-below s i h o)
effect-octas op.Negate s i r h o f = computed-octas s i (y_of i) _ r h (omega arith) (z-below s i h o)
effect-octas op.Wyde s i r h o f = giving-octas s.stack i _ (wyde-octas (code_of i) (given_y i.given (x_register s i)) (given_z i.given (wyde_value i)))
effect-octas op.Branch s i r h o f = going-octas s.stack i _
effect-octas op.ConditionalSet s i r h o f = giving-octas s.stack i _ (chosen (λ n. n < 2 ^ 64) (truth (code_of i) (y_operand s i)) _ _ (z-below s i h o) (octa-register s.stack (x_of i) h.stack))
effect-octas op.ZeroOrSet s i r h o f = giving-octas s.stack i _ (chosen (λ n. n < 2 ^ 64) (truth (code_of i) (y_operand s i)) _ _ (z-below s i h o) (omega arith))
effect-octas (op.Load how) s i r h o f = octa-effect s.stack _ (loaded-below how (octa s (data_address s i)) (data_address s i)) tt tt tt
effect-octas (op.Store how) s i r h o f = event-octas s (stored_event how (x_register s i)) (data_address s i) (x_register s i) _ h (omega arith) (octa-register s.stack (x_of i) h.stack) (octa-effect s.stack _ tt tt tt tt)
effect-octas op.CompareAndSwap s i r h o f = swap-octas s i (data_address s i) _ (octa-below s (data_address s i) h)
effect-octas op.Address s i r h o f = giving-octas s.stack i _ (near-below i)
effect-octas op.Jump s i r h o f = going-octas s.stack i _
effect-octas op.Go s i r h o f = octa-effect s.stack _ (omega arith) tt tt tt
effect-octas op.PushJump s i r h o f = octa-effect s.stack _ tt (no-status rJ (next_of i) (omega arith) refl, tt) (omega arith) tt
effect-octas op.PushGo s i r h o f = octa-effect s.stack _ tt (no-status rJ (next_of i) (omega arith) refl, tt) (omega arith) tt
effect-octas op.Pop s i r h o f = octa-effect s.stack _ tt tt tt tt
effect-octas op.Save s i r h o f = octa-effect s.stack _ tt tt (saved-octas s r h, f) tt
effect-octas op.Unsave s i r h o f = octa-effect s.stack _ tt (back-octas _ (unsaved-octas s.stack (stack_index (z_operand s i)) h.stack)) tt tt
effect-octas op.Get s i r h o f = giving-octas s.stack i _ (octa-special s (z_of i) r h)
effect-octas op.Put s i r h o f = put-octas s.stack i (x_of i) (z_operand s i) (global_start s) (locals s) (z-below s i h o)
effect-octas op.Trip s i r h o f = octa-effect s.stack _ tt tt tt (y-below s i h o, z-below s i h o)
effect-octas op.Nothing s i r h o f = going-octas s.stack i _
effect-octas op.Synchronize s i r h o f = going-octas s.stack i _
effect-octas op.Float s i r h o f = going-octas s.stack i _
effect-octas op.Privileged s i r h o f = going-octas s.stack i _
effect-octas op.Trap s i r h o f = going-octas s.stack i _
effect-octas op.Resume s i r h o f = going-octas s.stack i _
