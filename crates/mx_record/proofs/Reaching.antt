-- A turn changes no octa of memory that it does not reach.
use Rattle.std.proofs.Common.{◌≡◌, ℕ, ◌*◌, ◌/◌, ◌==◌, ◌||◌, nat_le, ◌^◌, Bool, true, false, cond, Option, None, Some, arith, refl, sym, subst, ◌∙◌, ap}
use Rattle.std.proofs.lemmas.Bool.Decides.{nat_tests}
use Rattle.std.specs.Option.{option_map, unwrap_or}
use Rattle.mx_host.specs.HostModel.{HostModel}
use Rattle.mx_mem.specs.Memory.{stored_at}
use Rattle.mx_mem.specs.Parts.{size_of}
use Rattle.mx_mem.specs.declared.part.Part.{Part}
use Rattle.mx_mem.specs.declared.part.Part.TheVariants as part
use Rattle.mx_word.specs.Ranges.{AreOctas}
use Rattle.mx_ring.specs.Stack.{in_stack_area}
use Rattle.mx_ring.specs.Window.{Window}
use Rattle.mx_alu.specs.declared.call.TrapCall.{TrapCall}
use Rattle.mx_trap.specs.FileTraps.{trap_answer}
use Rattle.mx_trap.specs.Moves.{Leaves}
use Rattle.mx_trap.specs.Touches.{touches}
use Rattle.mx_trap.specs.declared.answer.TrapAnswer.{TrapAnswer}
use Rattle.mx_trap.specs.declared.answer.TrapAnswer.TheVariants as trap
use Rattle.mx_code.specs.Instructions.{operation_in}
use Rattle.mx_code.specs.declared.operation.Operation.{Operation}
use Rattle.mx_code.specs.declared.operation.Operation.TheVariants as op
use Rattle.mx_code.specs.declared.reason.Reason.{Reason}
use Rattle.mx_code.specs.declared.reason.Reason.TheVariants.{Negative}
use Rattle.mx_code.specs.declared.trace.Trace.{Trace}
use Rattle.mx_core.specs.Bounds.{IsMachine}
use Rattle.mx_core.specs.Deeds.{Deed, deed_for, deed_of, resumed}
use Rattle.mx_core.specs.Effects.{Store}
use Rattle.mx_mem.specs.Space.{Contents}
use Rattle.mx_core.specs.MachineSpace.{IsWholeSpace, machine_contents, state_in}
use Rattle.mx_core.specs.Traps.{trapped}
use Rattle.mx_core.proofs.Spaces.States.{told}
use Rattle.mx_record.proofs.Unread.{contents-kept}
use Rattle.mx_core.specs.State.{State, is_negative}
use Rattle.mx_core.specs.Step.{Stepped, went, calls, stopped, after, call_of, completed, fetched, made, step, store_touch, trace_of}
use Rattle.mx_core.specs.Wild.{deed}
use Rattle.mx_core.proofs.Undone.Memory.{Stores, nothing, inside, outside, applied-memory, memory_of}
use Rattle.mx_core.proofs.Undone.Steps.{IsNotable, step-notes}
use Rattle.mx_run.specs.Turns.{Turn, area_size, turn, turn_of, turn_with}
use Rattle.mx_run.specs.WildRuns.{state_after}
use Rattle.mx_replay.specs.Visits as visits
use Rattle.mx_record.specs.Following.{ComesByTurn, is_reached, is_trap, operation_of_word, reach_of, reads_file, written_reach}
use Rattle.mx_record.specs.Pictures.{octa_shown}
use Rattle.mx_record.specs.declared.reach.Reach.{Reach}
use Rattle.mx_record.specs.declared.reach.Reach.TheVariants.{All, Nothing}

-- A STEP WITH ITS TRACE

-- what holds of a step: of the next state and the trace, or of the call of a file trap
abbrev OfStep : (State → Trace → Type 0) → (TrapCall → Type 0) → Stepped → Type 0
OfStep P Q (went t trace) = P t trace
OfStep P Q (calls call) = Q call
OfStep P Q (stopped reason) = Unit {0}

completed-step : (P : State → Trace → Type 0) (Q : TrapCall → Type 0) (s : State) (d : Deed) (r : Option Reason) → P (after s d) (trace_of s d) → OfStep P Q (completed s d r)
completed-step P Q s d None h = h
completed-step P Q s d (Some reason) h = tt

made-step : (P : State → Trace → Type 0) (Q : TrapCall → Type 0) (operation : Operation) (s : State) → (is_trap operation ≡ true → Q (call_of s)) → (is_trap operation ≡ false → P (after s (deed_for operation s (fetched s))) (trace_of s (deed_for operation s (fetched s)))) → OfStep P Q (made s operation)
made-step P Q op.Trap s g h = g refl
made-step P Q op.Resume s g h = completed-step P Q s (resumed s (fetched s)) (resumed s (fetched s)).refused (h refl)
made-step P Q operation s g h = completed-step P Q s (deed_of operation s (fetched s)) (deed_of operation s (fetched s)).refused (h refl)

negative-step : (P : State → Trace → Type 0) (Q : TrapCall → Type 0) (b : Bool) (x : Stepped) → OfStep P Q x → OfStep P Q (cond b (stopped Negative) x)
negative-step P Q true x h = tt
negative-step P Q false x h = h

step-of : (P : State → Trace → Type 0) (Q : TrapCall → Type 0) (s : State) → (is_trap (operation_in (fetched s)) ≡ true → Q (call_of s)) → (is_trap (operation_in (fetched s)) ≡ false → P (after s (deed s)) (trace_of s (deed s))) → OfStep P Q (step s)
unfolding step
step-of P Q s g h = negative-step P Q (is_negative s.pc) (made s (operation_in (fetched s))) (made-step P Q (operation_in (fetched s)) s g h)

-- a step that goes on is that of its deed, and no TRAP
pub record IsTraced (s t : State) (trace : Trace) : Type 0 where
  pub state : t ≡ after s (deed s)
  pub traced : trace ≡ trace_of s (deed s)
  pub plain : is_trap (operation_of_word trace.word) ≡ false

pub step-traced : (s t : State) (trace : Trace) → step s ≡ went t trace → IsTraced s t trace
step-traced s t trace e =
    subst (OfStep (λ u k. IsTraced s u k) (λ _. Unit {0})) e (step-of (λ u k. IsTraced s u k) (λ _. Unit {0}) s (λ _. tt) (λ p. record { state = refl; traced = refl; plain = p }))

-- and one that calls a file trap is a TRAP
pub step-called : (s : State) (call : TrapCall) → step s ≡ calls call → is_trap (operation_of_word call.word) ≡ true
step-called s call e =
    subst (OfStep (λ _ _. Unit {0}) (λ k. is_trap (operation_of_word k.word) ≡ true)) e (step-of (λ _ _. Unit {0}) (λ k. is_trap (operation_of_word k.word) ≡ true) s (λ p. p) (λ _. tt))

-- MEMORY

shown-same : (s t : State) (n : ℕ) → t.octas (8 * n) ≡ s.octas (8 * n) → octa_shown t n ≡ octa_shown s n
shown-same s t n e = ap (cond (nat_le (2 ^ 60) n || in_stack_area (8 * n)) 0) e

-- the part that holds an address lies in its octa
in-octa : (p : Part) (a : ℕ) → a / size_of p * size_of p / 8 ≡ a / 8
in-octa part.Byte a = omega arith
in-octa part.Wyde a = omega arith
in-octa part.Tetra a = omega arith
in-octa part.Octa a = omega arith

other-octa : (octas : ℕ → ℕ) (a b x n : ℕ) → b ≡ a / 8 → (n == b) ≡ false → stored_at octas a x (8 * n) ≡ octas (8 * n)
other-octa octas a b x n e f =
    let apart : (8 * n / 8 == a / 8) ≡ false = grind (arith, nat_tests) in
    ap (λ c. cond c x (octas (8 * n))) apart

stores-same : (s t : State) (store : Option Store) (n : ℕ) → Stores (memory_of s) (memory_of t) store → is_reached (written_reach (option_map store_touch store)) n ≡ false → t.octas (8 * n) ≡ s.octas (8 * n)
stores-same s t None n (nothing e) f = ap (λ (m : (ℕ → ℕ) × (ℕ → Bool) × ℕ). m.0 (8 * n)) e
stores-same s t (Some store) n (inside g e) f = ap (λ (m : (ℕ → ℕ) × (ℕ → Bool) × ℕ). m.0 (8 * n)) e
stores-same s t (Some store) n (outside x g e) f = ap (λ (m : (ℕ → ℕ) × (ℕ → Bool) × ℕ). m.0 (8 * n)) e ∙ other-octa s.octas store.at ((store_touch store).at / 8) x n (in-octa store.part store.at) f

pub notable : (s t : State) (w : Window) (trace : Trace) → IsMachine s w → AreOctas w.hidden.stack → step s ≡ went t trace → IsNotable s (deed s)
notable s t w trace m o e = step-notes (λ _. IsNotable s (deed s)) s t w trace m o e (λ _ q _. q)

went-memory : (s : State) (d : Deed) → IsNotable s d → Stores (memory_of s) (memory_of (after s d)) d.effect.store
went-memory s d q = subst (λ m. Stores m (memory_of (after s d)) d.effect.store) q.memory (applied-memory d.here d.instruction (unwrap_or d.destination 0) d.effect)

-- where no TRAP is, it is what is written
plain-reach : (b : Bool) (q r : Reach) (n : ℕ) → b ≡ false → is_reached (cond b q r) n ≡ false → is_reached r n ≡ false
plain-reach true q r n e f = absurd (cc)
plain-reach false q r n e f = f

went-same : (s t : State) (w : Window) (trace : Trace) (n : ℕ) → IsMachine s w → AreOctas w.hidden.stack → step s ≡ went t trace → is_reached (reach_of (Some trace)) n ≡ false → octa_shown t n ≡ octa_shown s n
went-same s t w trace n m o e f =
    let k : IsTraced s t trace = step-traced s t trace e in
    let reach : is_reached (written_reach trace.writes) n ≡ false = plain-reach (is_trap (operation_of_word trace.word)) _ (written_reach trace.writes) n k.plain f in
    let store : is_reached (written_reach (option_map store_touch (deed s).effect.store)) n ≡ false = sym (ap (λ (x : Trace). is_reached (written_reach x.writes) n) k.traced) ∙ reach in
    ap (λ (u : State). octa_shown u n) k.state ∙ shown-same s (after s (deed s)) n (stores-same s (after s (deed s)) (deed s).effect.store n (went-memory s (deed s) (notable s t w trace m o e)) store)

-- TURNS

-- what a turn does not reach, with the trace as the turn has it
abbrev SameUnreached : State → State → Option Trace → Type 0
SameUnreached s t trace = (n : ℕ) → is_reached (reach_of trace) n ≡ false → octa_shown t n ≡ octa_shown s n

abbrev TurnSame : State → Turn → Type 0
TurnSame s x = SameUnreached s (state_after x) (visits.trace_of x)

-- a trap reaches all of them where it reads a file
reading-reached : (b c : Bool) (r : Reach) (n : ℕ) → b ≡ true → is_reached (cond b (cond c All Nothing) r) n ≡ false → c ≡ false
reading-reached true true r n e f = absurd (cc)
reading-reached true false r n e f = refl
reading-reached false c r n e f = absurd (cc)

trapped-octas : (u : State) (call : TrapCall) (value : ℕ) → (trapped u call value).octas ≡ u.octas
unfolding trapped
trapped-octas u call value = refl

trap-same : (touching : Bool) (call : TrapCall) (s u : State) (m : HostModel) (answer : TrapAnswer) → is_trap (operation_of_word call.word) ≡ true → (reads_file call.word ≡ false → u ≡ s) → TurnSame s (turn_with touching call u m answer)
trap-same touching call s u m (trap.Value value) e same n f =
    shown-same s (trapped u call value) n (ap (λ (octas : ℕ → ℕ). octas (8 * n)) (trapped-octas u call value) ∙ ap (λ (v : State). v.octas (8 * n)) (same (reading-reached (is_trap (operation_of_word call.word)) (reads_file call.word) _ n e f)))
trap-same touching call s u m trap.Halt e same n f = absurd (cc)
trap-same touching call s u m (trap.Stopped why) e same n f = absurd (cc)
trap-same touching call s u m trap.OutOfMemory e same n f = absurd (cc)

stepped-same : (s : State) (w : Window) (m : HostModel) (x : Stepped) → IsMachine s w → AreOctas w.hidden.stack → IsWholeSpace s → step s ≡ x → TurnSame s (turn_of s m x)
stepped-same s w m (went t trace) i o h e = λ n f. went-same s t w trace n i o e f
stepped-same s w m (calls call) i o h e =
    let t : Leaves TrapAnswer State = trap_answer (machine_contents s) m call in
    trap-same (touches (machine_contents s).bytes call) call s (state_in t.1 area_size) t.2 t.0 (step-called s call e)
    (λ f. ap (λ (c : Contents State). state_in c area_size) (contents-kept (machine_contents s) m call f) ∙ told s h)
stepped-same s w m (stopped reason) i o h e = λ n f. absurd (cc)

turn-same : (s : State) (w : Window) (m : HostModel) → IsMachine s w → AreOctas w.hidden.stack → IsWholeSpace s → TurnSame s (turn s m)
unfolding turn
turn-same s w m i o h = stepped-same s w m (step s) i o h refl

pub turn-reaches : (s t : State) (w : Window) (trace : Option Trace) → IsMachine s w → AreOctas w.hidden.stack → IsWholeSpace s → ComesByTurn s t trace → SameUnreached s t trace
turn-reaches s t w trace i o p h n f =
    ap (λ (u : State). octa_shown u n) h.state ∙ turn-same s w h.host i o p n (sym (ap (λ (x : Option Trace). is_reached (reach_of x) n) h.traced) ∙ f)
