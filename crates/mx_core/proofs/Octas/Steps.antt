-- A step, a change and a trap leave a machine that holds octas.
use Rattle.std.proofs.Common.{◌≡◌, cond, ℕ, ◌+◌, ◌/◌, ◌%◌, ◌^◌, ◌<◌, ◌==◌, nat_lt, not, Bool, true, false, Option, None, Some, Ok, arith, refl, sym, subst, ◌∙◌}
use Rattle.std.specs.Option.{unwrap_or}
use Rattle.mx_mem.specs.Memory.{tetra_of}
use Rattle.mx_ring.specs.Stack.{Stack, windowed, register, set_overfills, cut_to, with_global_start}
use Rattle.mx_ring.specs.Window.{Window}
use Rattle.mx_code.specs.SpecialRegisters.{rG, rL, rX, rW, rY, rZ, rWW, rXX, rYY, rZZ, rBB}
use Rattle.mx_code.specs.declared.put.Put.{Put}
use Rattle.mx_alu.specs.declared.call.TrapCall.{TrapCall}
use Rattle.mx_alu.specs.declared.insertion.Insert.{Insert}
use Rattle.mx_alu.specs.declared.insertion.Insert.TheVariants as insert
use Rattle.mx_alu.specs.declared.insertion.Kind.{Kind}
use Rattle.mx_alu.specs.declared.insertion.Kind.TheVariants.{Again, Continue, Set}
use Rattle.mx_core.specs.Bounds.{IsMachine}
use Rattle.mx_core.specs.UserChanges.{register_changed, with_put, put_by_user, special_changed, octa_changed, at_address}
use Rattle.mx_code.specs.Instructions.{instruction, operation_in, x_of, xyz_of, destination_of}
use Rattle.mx_code.specs.declared.instruction.Instruction.{Instruction}
use Rattle.mx_core.specs.Deeds.{deed_for, Deed, deed_of, plain_deed, given_instruction, inserted, resumed, applied, address_after, with_destination, with_specials, moved}
use Rattle.mx_core.specs.Effects.{Effect, effect_of, giving, going_to}
use Rattle.mx_core.specs.Machines.{HoldsOctas, IsOverWindow}
use Rattle.mx_core.specs.State.{is_negative, State, octa, special_register, global_start, locals, with_value_in, with_octa, is_page_refused}
use Rattle.mx_core.specs.Step.{Stepped, went, calls, stopped, fetched, after, completed, call_of, made, step}
use Rattle.mx_code.specs.Operations.{has_destination}
use Rattle.mx_core.specs.Stops.{stack_fault, page_fault}
use Rattle.mx_core.specs.Traps.{trap_specials, trapped, halted, with_touch}
use Rattle.mx_core.specs.Wild.{deed}
use Rattle.mx_code.specs.declared.operation.Operation.{Operation}
use Rattle.mx_code.specs.declared.operation.Operation.TheVariants as op
use Rattle.mx_code.specs.declared.reason.Reason.{Reason}
use Rattle.mx_code.specs.declared.reason.Reason.TheVariants.{Illegal, Negative, ResumeInsert, StackFull}
use Rattle.mx_code.specs.declared.trace.Trace.{Trace}
use Rattle.mx_core.proofs.Kept.Applied.{Shape, plain, moving, ResultFits, before, before-stack, before-sound, fits-before, reads-before}
use Rattle.mx_core.proofs.Kept.Changed.{OfOk, ok-is, allowed-ok, register-keeps, special-keeps, octa-changed-keeps, address-keeps, trapped-keeps, halted-keeps, touch-keeps}
use Rattle.mx_core.proofs.Choices.{chosen, no-reason}
use Rattle.mx_core.proofs.Kept.Destinations.{local-if, destination-sound, destination-pages, result-fits}
use Rattle.mx_core.proofs.Kept.Insertions.{insertion-tetra}
use Rattle.mx_core.proofs.Kept.Machines.{HasMachine, HasOctas, moves-read, next-is, step-next, step-keeps}
use Rattle.mx_core.proofs.Octas.Effects.{SaveFits, effect-octas, stored-special}
use Rattle.mx_core.proofs.Octas.Stacks.{OctaStack, octa-register, octa-in-area, cut-octas, globals-octas}
use Rattle.mx_core.proofs.Octas.Stages.{OctaState, OctaSpecial, OctaSpecials, OctaMove, OctaInstruction, OctaEffect, no-status, octa-below, octa-special, stack-octas, value-octas, result-octas, store-octas, special-octas, specials-octas, octa-octas, moved-octas, tripped-octas, onward-octas}
use Rattle.mx_core.proofs.Same.Quiet.{IsFree, free}
use Rattle.mx_core.proofs.Same.Steps.{insertion-in, set-room, sound-of, resumed-if}
use Rattle.mx_core.proofs.Kept.Shapes.{put-cases, shape}
use Rattle.mx_core.proofs.Kept.Stages.{IsSound, MoveReads, moved-sound}

-- EFFECTS

octas-before : (s : State) (k : ℕ) (e : Effect) → Shape s.stack e → OctaMove s.stack e.move → OctaMove (before s k e).stack e.move
octas-before s k e (plain m) f = subst (OctaMove (before s k e).stack) (sym m) tt
octas-before s k e (moving p q t g) f = subst (λ (z : Stack). OctaMove z e.move) (sym (before-stack s k e p q)) f

applied-octas : (P : Type 0) (s : State) (i : Instruction) (k : ℕ) (e : Effect) → IsSound P s → ResultFits s.stack k e.result → page_fault s e.store ≡ None → Shape s.stack e → MoveReads s.stack e.move → OctaState s → OctaInstruction i → OctaEffect s.stack e → OctaState (applied s i k e)
unfolding applied
applied-octas P s i k e h r p f g o oi oe =
    let b : State = before s k e in
    let hb : IsSound P b = before-sound P s k e h r p in
    let hm : IsSound P (moved b e.move) = moved-sound P b e.move hb (fits-before s k e f) (reads-before s k e f g) in
    let ob : OctaState b = specials-octas _ e.special (store-octas _ e.store (result-octas s k e.result o oe.result)) oe.special in
    let om : OctaState (moved b e.move) = moved-octas b e.move hb.ring ob (octas-before s k e f oe.move) in
    onward-octas _ (address_after e e.trip) (tripped-octas (moved b e.move) i e.trip hm.ring om oi oe.trip)

-- DEEDS

local-octas : (b : Bool) (s : State) (x : ℕ) → OctaState s → OctaState (local-if b s x)
local-octas true s x o = value-octas s x (register s.stack x) o (octa-register s.stack x o.stack)
local-octas false s x o = o

save-fits : (operation : Operation) (s : State) (i : Instruction) → stack_fault operation s i ≡ None → SaveFits operation (with_destination operation s i).stack
unfolding stack_fault
save-fits op.Save s i e = no-reason _ StackFull e
save-fits operation s i e = tt

abbrev KeepsOctas : Deed → Type 0
KeepsOctas d = d.refused ≡ None → OctaState (applied d.here d.instruction (unwrap_or d.destination 0) d.effect)

area-of : (s : State) → OctaState s → HasOctas s.stack
area-of s o i = octa-in-area s.stack i o.stack

deed-octas : (P : Type 0) (operation : Operation) (s : State) (i : Instruction) → IsSound P s → OctaState s → OctaInstruction i → KeepsOctas (deed_of operation s i)
deed-octas P operation s i h o oi n =
    let here : State = with_destination operation s i in
    let e : Effect = effect_of operation here i in
    let u : IsFree operation s i e = free operation s i e n in
    let hh : IsSound P here = destination-sound P operation s i h u.stack in
    let oh : OctaState here = local-octas (has_destination operation) s (x_of i) o in
    applied-octas P here i (unwrap_or (destination_of operation i) 0) e hh (result-fits operation s here i) (destination-pages operation s i e.store ∙ u.page) (shape operation s i u.form u.stack) (moves-read operation s i (area-of s o)) oh oi (effect-octas operation here i hh.ring oh oi (save-fits operation s i u.stack))

given-octas : (P : Type 0) (s : State) (i : Instruction) (x value : ℕ) → IsSound P s → OctaState s → OctaInstruction i → set_overfills s.stack x ≡ false → value < 2 ^ 64 → KeepsOctas (plain_deed s i (Some x) (giving i value) None)
given-octas P s i x value h o oi r f n = applied-octas P s i x (giving i value) h r refl (plain refl) tt o oi (record { result = f; special = tt; move = tt; trip = tt })

going-octas : (P : Type 0) (s : State) (i : Instruction) (address : ℕ) (refused : Option Reason) → IsSound P s → OctaState s → OctaInstruction i → KeepsOctas (plain_deed s i None (going_to i address) refused)
going-octas P s i address refused h o oi n = applied-octas P s i 0 (going_to i address) h tt refl (plain refl) tt o oi (record { result = tt; special = tt; move = tt; trip = tt })

inserted-octas : (P : Type 0) (s : State) (i : Instruction) (ins : Insert) → IsSound P s → OctaState s → OctaInstruction i → ((at word : ℕ) → ins ≡ insert.Perform Set at word → set_overfills s.stack (x_of (instruction at word)) ≡ false) → ((kind : Kind) (at word : ℕ) → ins ≡ insert.Perform kind at word → word < 2 ^ 32) → KeepsOctas (inserted s i ins)
inserted-octas P s i (insert.Back address) h o oi r w = going-octas P s i address None h o oi
inserted-octas P s i (insert.Perform Again at word) h o oi r w = deed-octas P (operation_in (instruction at word)) s (instruction at word) h o (record { word = w Again at word refl; given = tt })
inserted-octas P s i (insert.Perform Continue at word) h o oi r w =
    deed-octas P (operation_in (instruction at word)) s (given_instruction s at word) h o (record { word = w Continue at word refl; given = (octa-special s rY h.ring o, octa-special s rZ h.ring o) })
inserted-octas P s i (insert.Perform Set at word) h o oi r w =
    given-octas P s (instruction at word) (x_of (instruction at word)) (special_register s rZ) h o (record { word = w Set at word refl; given = tt }) (r at word refl) (octa-special s rZ h.ring o)
inserted-octas P s i insert.Illegal h o oi r w = going-octas P s i i.at (Some Illegal) h o oi
inserted-octas P s i insert.LeftOut h o oi r w = going-octas P s i i.at (Some ResumeInsert) h o oi

if-octas : (P : Type 0) (b : Bool) (s : State) (i : Instruction) (ins : Insert) → IsSound P s → OctaState s → OctaInstruction i → KeepsOctas (inserted s i ins) → KeepsOctas (resumed-if b s i ins)
if-octas P true s i ins h o oi k = going-octas P s i i.at (Some Illegal) h o oi
if-octas P false s i ins h o oi k = k

resumed-octas : (P : Type 0) (s : State) (i : Instruction) → IsSound P s → OctaState s → OctaInstruction i → KeepsOctas (resumed s i)
resumed-octas P s i h o oi =
    if-octas P (not (xyz_of i == 0)) s i (insertion-in s) h o oi (inserted-octas P s i (insertion-in s) h o oi (set-room s) (λ kind at word e. insertion-tetra (special_register s rX) (special_register s rW) (locals s) (global_start s) at word kind e))

tetra-below : (x a : ℕ) → x < 2 ^ 64 → tetra_of x a < 2 ^ 32
tetra-below x a f = chosen (λ n. n < 2 ^ 32) (nat_lt (a % 8) 4) _ _ (omega arith) (omega arith)

fetched-octas : (s : State) → OctaState s → OctaInstruction (fetched s)
fetched-octas s o = record { word = tetra-below (octa s s.pc) s.pc (octa-below s s.pc o); given = tt }

by-octas : (P : Type 0) (operation : Operation) (s : State) → IsSound P s → OctaState s → KeepsOctas (deed_for operation s (fetched s))
by-octas P op.Resume s h o = resumed-octas P s (fetched s) h o (fetched-octas s o)
by-octas P operation s h o = deed-octas P operation s (fetched s) h o (fetched-octas s o)

-- MACHINES

state-octas : (s : State) (w : Window) → IsMachine s w → HoldsOctas s w → OctaState s
state-octas s w m o = record {
  stack = subst OctaStack (sym m.over) (record { visible = record { locals = o.locals; globals = o.globals }; hidden = record { resident = o.resident; area = o.area } });
  special = o.special;
  status = o.status;
  memory = o.memory;
  steps = o.steps;
}

over-window : (s : State) → HasMachine s → OctaState s → IsOverWindow s
over-window s m o =
    let z : OctaStack (windowed m.window) = subst OctaStack m.machine.over o.stack in
    record {
      window = m.window;
      machine = m.machine;
      octas = record { locals = z.visible.locals; globals = z.visible.globals; resident = z.hidden.resident; area = z.hidden.area; special = o.special; status = o.status; memory = o.memory; steps = o.steps };
    }

octas-of : (s : State) → IsOverWindow s → OctaState s
octas-of s h = state-octas s h.window h.machine h.octas

after-octas : (s : State) (d : Deed) → KeepsOctas d → d.refused ≡ None → OctaState (after s d)
after-octas s d k n =
    let o : OctaState (applied d.here d.instruction (unwrap_or d.destination 0) d.effect) = k n in
    record { stack = o.stack; special = o.special; status = o.status; memory = o.memory; steps = o.steps }

pub step-over : (s t : State) (trace : Trace) → IsOverWindow s → step s ≡ went t trace → IsOverWindow t
step-over s t trace h e =
    over-window t (step-keeps s t h.window trace h.machine h.octas.area e) (next-is OctaState (step s) t trace (step-next OctaState s (λ n r. after-octas s (deed s) (by-octas (s.touched ≡ false) (operation_in (fetched s)) s (sound-of s h.window h.machine) (octas-of s h)) r)) e)

-- CHANGES

pub register-over : (s t : State) (k value : ℕ) → IsOverWindow s → value < 2 ^ 64 → register_changed s k value ≡ Ok t → IsOverWindow t
register-over s t k value h f e =
    over-window t (register-keeps s t h.window k value h.machine e) (ok-is OctaState _ t (allowed-ok OctaState (set_overfills s.stack k) (with_value_in s k value) (λ b. value-octas s k value (octas-of s h) f)) e)

put-octas : (s : State) (code value : ℕ) → OctaState s → OctaSpecial code value → OctaState (with_put s code value)
put-octas s code value o f =
    chosen OctaState (code == rL) _ _ (stack-octas s (cut_to s.stack value) s.mark o (cut-octas s.stack value o.stack)) (chosen OctaState (code == rG) _ _ (stack-octas s (with_global_start s.stack value) s.mark o (globals-octas s.stack value o.stack)) (special-octas s code value o f))

pub special-over : (s t : State) (code value : ℕ) → IsOverWindow s → value < 2 ^ 64 → special_changed s code value ≡ Ok t → IsOverWindow t
special-over s t code value h f e =
    over-window t (special-keeps s t h.window code value h.machine e) (ok-is OctaState _ t (put-cases (λ (p : Put). OfOk OctaState (put_by_user s code p)) code value (global_start s) (locals s) tt tt (λ v b. put-octas s code v (octas-of s h) (stored-special code value (locals s) v f b))) e)

pub octa-over : (s t : State) (a x : ℕ) → IsOverWindow s → x < 2 ^ 64 → octa_changed s a x ≡ Ok t → IsOverWindow t
octa-over s t a x h f e =
    over-window t (octa-changed-keeps s t h.window a x h.machine e) (ok-is OctaState _ t (allowed-ok OctaState (is_page_refused s a) (with_octa s a x) (λ b. octa-octas s a x (octas-of s h) f)) e)

pub address-over : (s : State) (a : ℕ) → IsOverWindow s → IsOverWindow (at_address s a)
address-over s a h =
    let o : OctaState s = octas-of s h in
    over-window (at_address s a) (address-keeps s h.window a h.machine) (record { stack = o.stack; special = o.special; status = o.status; memory = o.memory; steps = o.steps })

-- TRAPS

trap-octas : (s : State) (call : TrapCall) (value : ℕ) → OctaState s → call.word < 2 ^ 32 → value < 2 ^ 64 → OctaSpecials (trap_specials s call value)
trap-octas s call value o w f =
    (no-status rWW _ (omega arith) refl, (no-status rXX _ (omega (arith, w)) refl, (no-status rYY _ (octa-register s.stack (call.word / 2 ^ 8 % 2 ^ 8) o.stack) refl, (no-status rZZ _ (octa-register s.stack (call.word % 2 ^ 8) o.stack) refl, (no-status rBB value f refl, tt)))))

trapped-octas : (s : State) (call : TrapCall) (value : ℕ) → OctaState s → call.word < 2 ^ 32 → value < 2 ^ 64 → OctaState (trapped s call value)
unfolding trapped
trapped-octas s call value o w f =
    onward-octas _ ((call.pc + 4) % 2 ^ 64) (value-octas (with_specials s (trap_specials s call value)) 255 value (specials-octas s (trap_specials s call value) o (trap-octas s call value o w f)) f)

pub trapped-over : (s : State) (call : TrapCall) (value : ℕ) → IsOverWindow s → call.word < 2 ^ 32 → value < 2 ^ 64 → IsOverWindow (trapped s call value)
trapped-over s call value h w f = over-window (trapped s call value) (trapped-keeps s h.window call value h.machine) (trapped-octas s call value (octas-of s h) w f)

pub halted-over : (s : State) → IsOverWindow s → IsOverWindow (halted s)
halted-over s h =
    let o : OctaState s = octas-of s h in
    over-window (halted s) (halted-keeps s h.window h.machine) (record { stack = o.stack; special = o.special; status = o.status; memory = o.memory; steps = omega arith })

pub touch-over : (s : State) → IsOverWindow s → IsOverWindow (with_touch s)
touch-over s h =
    let o : OctaState s = octas-of s h in
    over-window (with_touch s) (touch-keeps s h.window h.machine) (record { stack = o.stack; special = o.special; status = o.status; memory = o.memory; steps = o.steps })

-- CALLS OF FILE TRAPS

-- what holds of the call, where a step gives one
abbrev OfCall : (TrapCall → Type 0) → Stepped → Type 0
OfCall P (went t trace) = Unit {0}
OfCall P (calls call) = P call
OfCall P (stopped reason) = Unit {0}

call-is : (P : TrapCall → Type 0) (x : Stepped) (call : TrapCall) → OfCall P x → x ≡ calls call → P call
call-is P x call h e = subst (OfCall P) e h

completed-call : (P : TrapCall → Type 0) (s : State) (d : Deed) (r : Option Reason) → OfCall P (completed s d r)
completed-call P s d None = tt
completed-call P s d (Some reason) = tt

made-call : (P : TrapCall → Type 0) (operation : Operation) (s : State) → P (call_of s) → OfCall P (made s operation)
made-call P op.Trap s h = h
made-call P op.Resume s h = completed-call P s (resumed s (fetched s)) (resumed s (fetched s)).refused
made-call P operation s h = completed-call P s (deed_of operation s (fetched s)) (deed_of operation s (fetched s)).refused

negative-call : (P : TrapCall → Type 0) (b : Bool) (x : Stepped) → OfCall P x → OfCall P (cond b (stopped Negative) x)
negative-call P true x h = tt
negative-call P false x h = h

step-call : (P : TrapCall → Type 0) (s : State) → P (call_of s) → OfCall P (step s)
unfolding step
step-call P s h = negative-call P (is_negative s.pc) (made s (operation_in (fetched s))) (made-call P (operation_in (fetched s)) s h)

pub call-tetra : (s : State) (call : TrapCall) → IsOverWindow s → step s ≡ calls call → call.word < 2 ^ 32
call-tetra s call h e = call-is (λ (c : TrapCall). c.word < 2 ^ 32) (step s) call (step-call (λ (c : TrapCall). c.word < 2 ^ 32) s (fetched-octas s (octas-of s h)).word) e
