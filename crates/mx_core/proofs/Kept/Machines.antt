-- What a step makes of a machine is a machine.
use Rattle.std.proofs.Common.{◌≡◌, ℕ, ◌%◌, ◌^◌, ◌<◌, ◌==◌, ◌&&◌, ◌||◌, not, Bool, true, false, cond, Option, None, Some, List, [], ◌∷◌, zero, suc, get_or, arith, refl, sym, subst, ◌∙◌}
use Rattle.std.specs.Option.{unwrap_or}
use Rattle.mx_word.specs.Ranges.{AreOctas}
use Rattle.mx_ring.specs.Stack.{Stack, listed, windowed, stack_octa, stack_index, set_overfills}
use Rattle.mx_ring.specs.Window.{Window}
use Rattle.mx_code.specs.Puts.{put_of}
use Rattle.mx_code.specs.SpecialRegisters.{rG, rL, rZ}
use Rattle.mx_code.specs.declared.put.Put.{Put}
use Rattle.mx_code.specs.declared.put.Put.TheVariants as put
use Rattle.mx_alu.specs.declared.insertion.Insert.{Insert}
use Rattle.mx_alu.specs.declared.insertion.Insert.TheVariants as insert
use Rattle.mx_alu.specs.declared.insertion.Kind.TheVariants.{Again, Continue, Set}
use Rattle.mx_core.specs.Bounds.{IsMachine}
use Rattle.mx_code.specs.Instructions.{instruction, operation_in, x_of, xyz_of, destination_of}
use Rattle.mx_code.specs.declared.instruction.Instruction.{Instruction}
use Rattle.mx_core.specs.Deeds.{deed_for, Deed, deed_of, plain_deed, given_instruction, inserted, resumed, applied, with_destination}
use Rattle.mx_core.specs.Effects.{Effect, Move, stays, effect_of, giving, going_to, putting, z_operand}
use Rattle.mx_word.specs.Segments.{is_in_stack_segment}
use Rattle.mx_core.specs.State.{State, special_register, global_start, locals, is_negative}
use Rattle.mx_core.specs.Step.{Stepped, went, calls, stopped, fetched, after, completed, made, step}
use Rattle.mx_core.specs.Wild.{deed, is_wild}
use Rattle.mx_code.specs.declared.operation.Operation.{Operation}
use Rattle.mx_code.specs.declared.operation.Operation.TheVariants as op
use Rattle.mx_code.specs.declared.reason.Reason.{Reason}
use Rattle.mx_code.specs.declared.reason.Reason.TheVariants.{Illegal, ResumeInsert, Negative}
use Rattle.mx_code.specs.declared.trace.Trace.{Trace}
use Rattle.mx_core.proofs.Kept.Applied.{plain, applied-sound}
use Rattle.mx_core.proofs.Choices.{chosen}
use Rattle.mx_core.proofs.Kept.Destinations.{destination-sound, destination-pages, result-fits}
use Rattle.mx_core.proofs.Same.Quiet.{IsFree, free}
use Rattle.mx_core.proofs.Kept.Rings.{IsRinged}
use Rattle.mx_core.proofs.Same.Steps.{insertion-in, set-room, sound-of, resumed-if}
use Rattle.mx_core.proofs.Kept.Shapes.{shape, event-like}
use Rattle.mx_core.proofs.Kept.Stages.{IsSound, MoveReads}

-- every octa of the stack area is an octa
abbrev pub HasOctas : Stack → Type 0
HasOctas z = (i : ℕ) → stack_octa z i < 2 ^ 64

plain-reads : (z : Stack) (move : Move) → move ≡ stays → MoveReads z move
plain-reads z move e = subst (MoveReads z) (sym e) tt

put-reads : (i : Instruction) (z : Stack) (code : ℕ) (p : Put) → MoveReads z (putting i code p).move
put-reads i z code (put.Store value) = chosen (λ (e : Effect). MoveReads z e.move) (code == rL) _ _ tt (chosen (λ (e : Effect). MoveReads z e.move) (code == rG) _ _ tt tt)
put-reads i z code put.Illegal = tt
put-reads i z code put.Privileged = tt

pub moves-read : (operation : Operation) (s : State) (i : Instruction) → HasOctas s.stack → MoveReads (with_destination operation s i).stack (effect_of operation (with_destination operation s i) i).move
unfolding effect_of
moves-read op.Unsave s i h = h (stack_index (z_operand s i))
moves-read op.Put s i h = put-reads i s.stack (x_of i) (put_of (x_of i) (z_operand s i) (global_start s) (locals s))
moves-read op.Compute s i h = plain-reads (with_destination op.Compute s i).stack _ (event-like _ _ _ _ _).move
moves-read op.Negate s i h = plain-reads (with_destination op.Negate s i).stack _ (event-like _ _ _ _ _).move
moves-read (op.Store how) s i h = plain-reads s.stack _ (event-like _ _ _ _ _).move
moves-read op.CompareAndSwap s i h = plain-reads (with_destination op.CompareAndSwap s i).stack _ (chosen (λ (x : Effect). x.move ≡ stays) _ _ _ refl refl)
moves-read operation s i h = tt

-- the state is sound once a deed that is not refused is carried out
abbrev KeepsSound : Type 0 → Deed → Type 0
KeepsSound P d = d.refused ≡ None → IsSound P (applied d.here d.instruction (unwrap_or d.destination 0) d.effect)

deed-sound : (P : Type 0) (operation : Operation) (s : State) (i : Instruction) → IsSound P s → HasOctas s.stack → KeepsSound P (deed_of operation s i)
deed-sound P operation s i h o n =
    let here : State = with_destination operation s i in
    let e : Effect = effect_of operation here i in
    let u : IsFree operation s i e = free operation s i e n in
    applied-sound P here i (unwrap_or (destination_of operation i) 0) e (destination-sound P operation s i h u.stack) (result-fits operation s here i) (destination-pages operation s i e.store ∙ u.page) (shape operation s i u.form u.stack) (moves-read operation s i o)

given-sound : (P : Type 0) (s : State) (i : Instruction) (x value : ℕ) → IsSound P s → set_overfills s.stack x ≡ false → KeepsSound P (plain_deed s i (Some x) (giving i value) None)
given-sound P s i x value h o n = applied-sound P s i x (giving i value) h o refl (plain refl) tt

going-sound : (P : Type 0) (s : State) (i : Instruction) (address : ℕ) (refused : Option Reason) → IsSound P s → KeepsSound P (plain_deed s i None (going_to i address) refused)
going-sound P s i address refused h n = applied-sound P s i 0 (going_to i address) h tt refl (plain refl) tt

inserted-sound : (P : Type 0) (s : State) (i : Instruction) (ins : Insert) → IsSound P s → HasOctas s.stack → ((at word : ℕ) → ins ≡ insert.Perform Set at word → set_overfills s.stack (x_of (instruction at word)) ≡ false) → KeepsSound P (inserted s i ins)
inserted-sound P s i (insert.Back address) h o r = going-sound P s i address None h
inserted-sound P s i (insert.Perform Again at word) h o r = deed-sound P (operation_in (instruction at word)) s (instruction at word) h o
inserted-sound P s i (insert.Perform Continue at word) h o r = deed-sound P (operation_in (instruction at word)) s (given_instruction s at word) h o
inserted-sound P s i (insert.Perform Set at word) h o r = given-sound P s (instruction at word) (x_of (instruction at word)) (special_register s rZ) h (r at word refl)
inserted-sound P s i insert.Illegal h o r = going-sound P s i i.at (Some Illegal) h
inserted-sound P s i insert.LeftOut h o r = going-sound P s i i.at (Some ResumeInsert) h

if-sound : (P : Type 0) (b : Bool) (s : State) (i : Instruction) (ins : Insert) → IsSound P s → KeepsSound P (inserted s i ins) → KeepsSound P (resumed-if b s i ins)
if-sound P true s i ins h k = going-sound P s i i.at (Some Illegal) h
if-sound P false s i ins h k = k

resumed-sound : (P : Type 0) (s : State) (i : Instruction) → IsSound P s → HasOctas s.stack → KeepsSound P (resumed s i)
resumed-sound P s i h o = if-sound P (not (xyz_of i == 0)) s i (insertion-in s) h (inserted-sound P s i (insertion-in s) h o (set-room s))

by-sound : (P : Type 0) (operation : Operation) (s : State) → IsSound P s → HasOctas s.stack → KeepsSound P (deed_for operation s (fetched s))
by-sound P op.Resume s h o = resumed-sound P s (fetched s) h o
by-sound P operation s h o = deed-sound P operation s (fetched s) h o

-- MACHINES

pub record HasMachine (s : State) : Type 0 where
  pub window : Window
  pub machine : IsMachine s window

next-address : (s : State) (i : Instruction) (k : ℕ) (e : Effect) → (applied s i k e).pc % 4 ≡ 0
unfolding applied
next-address s i k e = omega arith

pub machine-of : (P : Type 0) (s : State) → IsSound P s → (s.touched ≡ false → P) → s.pc % 4 ≡ 0 → HasMachine s
machine-of P s h f a = by-stack s.stack refl h.ring
  where
    by-stack : (z : Stack) → s.stack ≡ z → IsRinged z → HasMachine s
    by-stack (listed r) e g = absurd g
    by-stack (windowed w) e g = record {
      window = w;
      machine = record {
        over = e;
        ring = g;
        frames_are_spilled = λ t. h.marked (f t);
        pages = h.pages;
        specials = h.specials;
        address = a;
      };
    }

first-of-three : (a b c : Bool) → (a || b || c) ≡ false → a ≡ false
first-of-three true b c e = absurd (cc)
first-of-three false b c e = refl

after-machine : (s : State) (d : Deed) → KeepsSound (s.touched ≡ false) d → d.refused ≡ None → HasMachine (after s d)
after-machine s d k n =
    let h : IsSound (s.touched ≡ false) (applied d.here d.instruction (unwrap_or d.destination 0) d.effect) = k n in
    machine-of (s.touched ≡ false) (after s d) (record { ring = h.ring; marked = h.marked; pages = h.pages; specials = h.specials }) (λ t. first-of-three s.touched d.is_wild (is_in_stack_segment s.pc) t) (next-address d.here d.instruction (unwrap_or d.destination 0) d.effect)

-- what holds of the state where a step went on
abbrev pub OfNext : (State → Type 0) → Stepped → Type 0
OfNext P (went t trace) = P t
OfNext P (calls call) = Unit {0}
OfNext P (stopped reason) = Unit {0}

pub next-is : (P : State → Type 0) (x : Stepped) (t : State) (trace : Trace) → OfNext P x → x ≡ went t trace → P t
next-is P x t trace h e = subst (OfNext P) e h

carried-next : (P : State → Type 0) (s : State) (d : Deed) (r : Option Reason) → (r ≡ None → P (after s d)) → OfNext P (completed s d r)
carried-next P s d None h = h refl
carried-next P s d (Some reason) h = tt

made-next : (P : State → Type 0) (operation : Operation) (s : State) → ((deed_for operation s (fetched s)).refused ≡ None → P (after s (deed_for operation s (fetched s)))) → OfNext P (made s operation)
made-next P op.Trap s h = tt
made-next P op.Resume s h = carried-next P s (resumed s (fetched s)) (resumed s (fetched s)).refused h
made-next P operation s h = carried-next P s (deed_of operation s (fetched s)) (deed_of operation s (fetched s)).refused h

negative-next : (P : State → Type 0) (s : State) (b : Bool) (x : Stepped) → (b ≡ false → OfNext P x) → OfNext P (cond b (stopped Negative) x)
negative-next P s true x h = tt
negative-next P s false x h = h refl

pub step-next : (P : State → Type 0) (s : State) → (is_negative s.pc ≡ false → (deed s).refused ≡ None → P (after s (deed s))) → OfNext P (step s)
unfolding step
step-next P s h = negative-next P s (is_negative s.pc) (made s (operation_in (fetched s))) (λ n. made-next P (operation_in (fetched s)) s (h n))

each-octa : (xs : List ℕ) (i : ℕ) → AreOctas xs → get_or xs i 0 < 2 ^ 64
each-octa [] i h = omega arith
each-octa (x ∷ xs) zero h = h.0
each-octa (x ∷ xs) (suc i) h = each-octa xs i h.1

octas-at : (w : Window) → AreOctas w.hidden.stack → HasOctas (windowed w)
unfolding stack_octa
octas-at w o i = each-octa w.hidden.stack i o

pub step-keeps : (s t : State) (w : Window) (trace : Trace) → IsMachine s w → AreOctas w.hidden.stack → step s ≡ went t trace → HasMachine t
step-keeps s t w trace m o e = next-is HasMachine (step s) t trace (step-next HasMachine s (λ n r. after-machine s (deed s) (by-sound (s.touched ≡ false) (operation_in (fetched s)) s (sound-of s w m) (subst HasOctas (sym m.over) (octas-at w o))) r)) e

touched-is : (a b c n : Bool) → n ≡ false → (a || b || c) ≡ (a || (not n && (c || b)))
touched-is a b c true e = absurd (cc)
touched-is true b c false e = refl
touched-is false true true false e = refl
touched-is false true false false e = refl
touched-is false false true false e = refl
touched-is false false false false e = refl

pub step-touches : (s t : State) (trace : Trace) → step s ≡ went t trace → t.touched ≡ (s.touched || is_wild s)
step-touches s t trace e = next-is (λ (u : State). u.touched ≡ (s.touched || is_wild s)) (step s) t trace (step-next (λ (u : State). u.touched ≡ (s.touched || is_wild s)) s (λ n r. touched-is s.touched (deed s).is_wild (is_in_stack_segment s.pc) (is_negative s.pc) n)) e
