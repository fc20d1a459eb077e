-- A step is taken back by what its deed notes.
use Rattle.std.proofs.Common.{◌≡◌, ℕ, ◌==◌, not, Bool, true, false, cond, Option, None, Some, refl, sym, subst, ◌∙◌, ap}
use Rattle.std.specs.Option.{unwrap_or}
use Rattle.mx_word.specs.Ranges.{AreOctas}
use Rattle.mx_ring.proofs.Keeps.{window-is}
use Rattle.mx_registers.specs.Bounds.{AreInBounds}
use Rattle.mx_ring.specs.Bounds.{IsRing}
use Rattle.mx_ring.specs.Notes as rings
use Rattle.mx_ring.specs.Stack.{Stack, windowed, visible, register}
use Rattle.mx_ring.specs.Window.{Window}
use Rattle.mx_code.specs.SpecialRegisters.{rZ}
use Rattle.mx_alu.specs.declared.insertion.Insert.{Insert}
use Rattle.mx_alu.specs.declared.insertion.Insert.TheVariants as insert
use Rattle.mx_alu.specs.declared.insertion.Kind.TheVariants.{Again, Continue, Set}
use Rattle.mx_core.specs.Bounds.{IsMachine}
use Rattle.mx_core.specs.Deeds.{deed_for, Deed, deed_of, plain_deed, given_instruction, inserted, with_destination, with_result}
use Rattle.mx_core.specs.Effects.{Effect, stays, effect_of, giving, going_to}
use Rattle.mx_code.specs.Instructions.{instruction, operation_in, x_of, xyz_of}
use Rattle.mx_code.specs.declared.instruction.Instruction.{Instruction}
use Rattle.mx_core.specs.Machines.{IsOverWindow}
use Rattle.mx_core.specs.State.{State, special_register, with_local}
use Rattle.mx_core.specs.Step.{went, fetched, after, step}
use Rattle.mx_code.specs.Operations.{has_destination}
use Rattle.mx_core.specs.Stops.{refusal, store_fault}
use Rattle.mx_core.specs.Undoing.{MayStore, StackFits, TakesBack, IsPaged, noted, state_undone, stack_undone, memory_noted, move_noted}
use Rattle.mx_core.specs.Wild.{deed}
use Rattle.mx_code.specs.declared.operation.Operation.{Operation}
use Rattle.mx_code.specs.declared.operation.Operation.TheVariants as op
use Rattle.mx_code.specs.declared.reason.Reason.{Reason}
use Rattle.mx_code.specs.declared.reason.Reason.TheVariants.{Illegal, ResumeInsert}
use Rattle.mx_code.specs.declared.trace.Trace.{Trace}
use Rattle.mx_core.proofs.Kept.Applied.{Shape, plain}
use Rattle.mx_core.proofs.Choices.{chosen, no-first}
use Rattle.mx_core.proofs.Kept.Destinations.{local-if, no-result}
use Rattle.mx_core.proofs.Kept.Machines.{HasMachine, next-is, step-next, step-keeps}
use Rattle.mx_core.proofs.Results.Locals.{stack-twice}
use Rattle.mx_core.proofs.Same.Quiet.{IsFree, free}
use Rattle.mx_core.proofs.Same.Steps.{insertion-in, resumed-if}
use Rattle.mx_core.proofs.Kept.Shapes.{shape, event-like}
use Rattle.mx_core.proofs.Undone.Memory.{memory_of, Stores, Back, applied-memory, memory-back}
use Rattle.mx_core.proofs.Undone.Stacks.{IsGiven, given-last, stack-back}

-- what its note needs to know of a deed
pub record IsNotable (s : State) (d : Deed) : Type 0 where
  pub given : IsGiven s.stack (unwrap_or d.destination 255) (with_result d.here (unwrap_or d.destination 0) d.effect.result).stack
  pub still : (d.effect.move ≡ stays → ⊥) → d.here.stack ≡ s.stack
  pub shape : Shape d.here.stack d.effect
  pub memory : memory_of d.here ≡ memory_of s
  pub low : store_fault d.effect.store ≡ None

-- WITH A DESTINATION

-- then the register stack is not moved
not-moved : (operation : Operation) (s : State) (i : Instruction) → has_destination operation ≡ true → (effect_of operation s i).move ≡ stays
unfolding effect_of
not-moved op.Compute s i e = (event-like _ _ _ _ _).move
not-moved op.Negate s i e = (event-like _ _ _ _ _).move
not-moved op.CompareAndSwap s i e = chosen (λ (x : Effect). x.move ≡ stays) _ _ _ refl refl
not-moved op.Wyde s i e = refl
not-moved op.ConditionalSet s i e = refl
not-moved op.ZeroOrSet s i e = refl
not-moved (op.Load how) s i e = refl
not-moved op.Address s i e = refl
not-moved op.Go s i e = refl
not-moved op.Get s i e = refl
not-moved operation s i e = absurd (cc)

local-given : (s : State) (x : ℕ) (r : Option ℕ) → IsGiven s.stack x (with_result (with_local s x) x r).stack
local-given s x None = record { value = register s.stack x; is = refl }
local-given s x (Some value) = record { value = value; is = stack-twice s.stack x (register s.stack x) value }

none-given : (s : State) (r : Option ℕ) → AreInBounds (visible s.stack) → r ≡ None → IsGiven s.stack 255 (with_result s 0 r).stack
none-given s None b e = given-last s.stack s.stack b refl
none-given s (Some x) b e = absurd (cc)

given-if : (b : Bool) (s : State) (x : ℕ) (r : Option ℕ) → AreInBounds (visible s.stack) → (b ≡ false → r ≡ None) →
    IsGiven s.stack (unwrap_or (cond b (Some x) None) 255) (with_result (local-if b s x) (unwrap_or (cond b (Some x) None) 0) r).stack
given-if true s x r b h = local-given s x r
given-if false s x r b h = none-given s r b (h refl)

still-if : (b : Bool) (s : State) (x : ℕ) (e : Effect) → (b ≡ true → e.move ≡ stays) → (e.move ≡ stays → ⊥) → (local-if b s x).stack ≡ s.stack
still-if true s x e h n = absurd (n (h refl))
still-if false s x e h n = refl

memory-if : (b : Bool) (s : State) (x : ℕ) → memory_of (local-if b s x) ≡ memory_of s
memory-if true s x = refl
memory-if false s x = refl

low-store : (operation : Operation) (s : State) (i : Instruction) (e : Effect) → refusal operation s i e ≡ None → store_fault e.store ≡ None
low-store operation s i e n =
    let a = no-first _ _ n in
    let b = no-first _ _ a.1 in
    (no-first _ _ b.1).0

-- DEEDS

abbrev Notable : State → Deed → Type 0
Notable s d = d.refused ≡ None → IsNotable s d

deed-notable : (operation : Operation) (s : State) (i : Instruction) → AreInBounds (visible s.stack) → Notable s (deed_of operation s i)
deed-notable operation s i b n =
    let here : State = with_destination operation s i in
    let e : Effect = effect_of operation here i in
    let u : IsFree operation s i e = free operation s i e n in
    record {
      given = given-if (has_destination operation) s (x_of i) e.result b (λ d. no-result operation here i d);
      still = still-if (has_destination operation) s (x_of i) e (λ d. not-moved operation here i d);
      shape = shape operation s i u.form u.stack;
      memory = memory-if (has_destination operation) s (x_of i);
      low = low-store operation s i e n;
    }

given-notable : (s : State) (i : Instruction) (x value : ℕ) → Notable s (plain_deed s i (Some x) (giving i value) None)
given-notable s i x value n = record { given = record { value = value; is = refl }; still = λ _. refl; shape = plain refl; memory = refl; low = refl }

going-notable : (s : State) (i : Instruction) (address : ℕ) (refused : Option Reason) → AreInBounds (visible s.stack) → Notable s (plain_deed s i None (going_to i address) refused)
going-notable s i address refused b n = record { given = given-last s.stack s.stack b refl; still = λ _. refl; shape = plain refl; memory = refl; low = refl }

inserted-notable : (s : State) (i : Instruction) (ins : Insert) → AreInBounds (visible s.stack) → Notable s (inserted s i ins)
inserted-notable s i (insert.Back address) b = going-notable s i address None b
inserted-notable s i (insert.Perform Again at word) b = deed-notable (operation_in (instruction at word)) s (instruction at word) b
inserted-notable s i (insert.Perform Continue at word) b = deed-notable (operation_in (instruction at word)) s (given_instruction s at word) b
inserted-notable s i (insert.Perform Set at word) b = given-notable s (instruction at word) (x_of (instruction at word)) (special_register s rZ)
inserted-notable s i insert.Illegal b = going-notable s i i.at (Some Illegal) b
inserted-notable s i insert.LeftOut b = going-notable s i i.at (Some ResumeInsert) b

if-notable : (c : Bool) (s : State) (i : Instruction) (ins : Insert) → AreInBounds (visible s.stack) → Notable s (resumed-if c s i ins)
if-notable true s i ins b = going-notable s i i.at (Some Illegal) b
if-notable false s i ins b = inserted-notable s i ins b

by-notable : (operation : Operation) (s : State) (i : Instruction) → AreInBounds (visible s.stack) → Notable s (deed_for operation s i)
by-notable op.Resume s i b = if-notable (not (xyz_of i == 0)) s i (insertion-in s) b
by-notable operation s i b = deed-notable operation s i b

-- BACK

same-fits : (n : rings.RingWas) (z : Stack) (v : Window) → z ≡ windowed v → rings.FitsRing n v → StackFits n z
same-fits n z v e f = subst (StackFits n) (sym e) f

pub deed-back : (s : State) (w v : Window) (d : Deed) (place : Option ℕ) → s.stack ≡ windowed w → IsRing w → IsPaged s → MayStore place d.effect.store → IsNotable s d → (after s d).stack ≡ windowed v → TakesBack (noted w s d place) (after s d) s
unfolding noted state_undone
deed-back s w v d place o r h m q f =
    let t : State = after s d in
    let k : ℕ = unwrap_or d.destination 0 in
    let b : Back s t (memory_noted s place) = memory-back s t place d.effect.store h m (subst (λ n. Stores n (memory_of t) d.effect.store) q.memory (applied-memory d.here d.instruction k d.effect)) in
    let u : rings.TakesBack (move_noted d.effect.move (unwrap_or d.destination 255) place w) v w =
    stack-back w v d.here d.instruction (unwrap_or d.destination 255) k d.effect place r (subst (λ z. IsGiven z (unwrap_or d.destination 255) (with_result d.here k d.effect.result).stack) o q.given) m q.shape (λ n. q.still n ∙ o) (sym f) in
    let n : rings.RingWas = move_noted d.effect.move (unwrap_or d.destination 255) place w in
    let stack : stack_undone n t.stack ≡ s.stack = ap (stack_undone n) f ∙ ap windowed u.back ∙ sym o in
    record {
      fits = record { ring = same-fits n t.stack v f u.fits; memory = b.fits };
      back = λ i. record s { octas = (b.back i).0; pages = (b.back i).1; page_count = (b.back i).2; stack = stack i };
    }

bounds-of : (s : State) (w : Window) → s.stack ≡ windowed w → IsRing w → AreInBounds (visible s.stack)
bounds-of s w o r = subst (λ z. AreInBounds (visible z)) (sym o) r.registers

-- what is told of the deed of a step that goes on
pub step-notes : (P : State → Type 0) (s t : State) (w : Window) (trace : Trace) → IsMachine s w → AreOctas w.hidden.stack → step s ≡ went t trace →
    ((deed s).refused ≡ None → IsNotable s (deed s) → HasMachine (after s (deed s)) → P (after s (deed s))) → P t
step-notes P s t w trace m o e f =
    next-is (λ u. HasMachine u → P u) (step s) t trace
    (step-next (λ u. HasMachine u → P u) s (λ _ n a. f n (by-notable (operation_in (fetched s)) s (fetched s) (bounds-of s w m.over m.ring) n) a)) e
    (step-keeps s t w trace m o e)

pub step-back : (s t : State) (w : Window) (place : Option ℕ) (trace : Trace) → IsMachine s w → AreOctas w.hidden.stack → IsPaged s → MayStore place (deed s).effect.store → step s ≡ went t trace → TakesBack (noted w s (deed s) place) t s
step-back s t w place trace m o h p e =
    step-notes (λ u. TakesBack (noted w s (deed s) place) u s) s t w trace m o e (λ _ q a. deed-back s w a.window (deed s) place m.over m.ring h p q a.machine.over)

pub over-back : (s t : State) (w : Window) (place : Option ℕ) (trace : Trace) → IsOverWindow s → s.stack ≡ windowed w → IsPaged s → MayStore place (deed s).effect.store → step s ≡ went t trace → TakesBack (noted w s (deed s) place) t s
over-back s t w place trace o e h p f =
    let same : w ≡ o.window = window-is w o.window (sym e ∙ o.machine.over) in
    subst (λ v. TakesBack (noted v s (deed s) place) t s) (sym same) (step-back s t o.window place trace o.machine o.octas.area h p f)
