-- After a turn the registers of the register stack are found by what they had.
use Rattle.std.proofs.Common.{◌≡◌, ◌⊎◌, inl, inr, ℕ, ◌^◌, ◌==◌, not, Bool, true, false, List, [], length, Option, None, Some, refl, sym, subst, ◌∙◌, ap, ⊎_elim}
use Rattle.std.proofs.lemmas.Bool.{cases_Bool}
use Rattle.std.proofs.lemmas.List.FromFn.{length-map-range_with_len}
use Rattle.std.specs.Option.{unwrap_or}
use Rattle.mx_host.specs.HostModel.{HostModel}
use Rattle.mx_mem.specs.Parts.{with_part}
use Rattle.mx_mem.specs.Space.{Contents}
use Rattle.mx_word.specs.Ranges.{AreOctas}
use Rattle.mx_registers.specs.Bounds.{AreInBounds}
use Rattle.mx_ring.specs.Bounds.{IsRing}
use Rattle.mx_ring.specs.Stack.{set_overfills, Stack, listed, windowed, visible, hidden_count, in_stack_area, stack_index, with_register, with_stack_octa}
use Rattle.mx_ring.specs.Window.{Window}
use Rattle.mx_code.specs.SpecialRegisters.{rJ, rZ}
use Rattle.mx_alu.specs.declared.call.TrapCall.{TrapCall}
use Rattle.mx_alu.specs.declared.insertion.Insert.{Insert}
use Rattle.mx_alu.specs.declared.insertion.Insert.TheVariants as insert
use Rattle.mx_alu.specs.declared.insertion.Kind.TheVariants.{Again, Continue, Set}
use Rattle.mx_trap.specs.FileTraps.{trap_answer}
use Rattle.mx_trap.specs.Moves.{Leaves}
use Rattle.mx_trap.specs.Touches.{touches}
use Rattle.mx_trap.specs.declared.answer.TrapAnswer.{TrapAnswer}
use Rattle.mx_trap.specs.declared.answer.TrapAnswer.TheVariants as trap
use Rattle.mx_trap.proofs.KeptTraps.{rest-kept}
use Rattle.mx_code.specs.Instructions.{destination_of, instruction, operation_in, x_of, xyz_of}
use Rattle.mx_code.specs.declared.instruction.Instruction.{Instruction}
use Rattle.mx_code.specs.declared.operation.Operation.{Operation}
use Rattle.mx_code.specs.declared.operation.Operation.TheVariants as op
use Rattle.mx_code.specs.declared.reason.Reason.{Reason}
use Rattle.mx_code.specs.declared.reason.Reason.TheVariants.{Illegal, ResumeInsert}
use Rattle.mx_code.specs.declared.trace.Trace.{Trace}
use Rattle.mx_core.specs.Bounds.{IsMachine}
use Rattle.mx_core.specs.Deeds.{Deed, deed_for, deed_of, given_instruction, inserted, plain_deed, with_destination, applied, moved, trip_specials, tripped, with_result, with_specials, with_store}
use Rattle.mx_core.specs.Effects.{Effect, effect_of, giving, going_to, Move, Store, Tripping, stays, pushes, pops, saves, unsaves, cuts, moves_globals}
use Rattle.mx_core.specs.MachineSpace.{area_in, machine_contents, rest_of, state_in, with_area}
use Rattle.mx_core.specs.State.{State, octa, special_register}
use Rattle.mx_core.specs.Step.{fetched, Stepped, went, calls, stopped, after, step}
use Rattle.mx_core.specs.Traps.{trap_specials, trapped}
use Rattle.mx_core.specs.Wild.{deed}
use Rattle.mx_core.proofs.Kept.Applied.{ResultFits, Shape, plain, moving, before, before-stack, specials-stack}
use Rattle.mx_core.proofs.Kept.Rings.{IsRinged}
use Rattle.mx_core.proofs.Kept.Destinations.{destination-sound, result-fits}
use Rattle.mx_core.proofs.Kept.Stages.{IsSound, MoveFits, octa-in-stack, octa-on-page, result-sound}
use Rattle.mx_core.proofs.Same.Quiet.{IsFree, free}
use Rattle.mx_core.proofs.Same.Steps.{insertion-in, resumed-if, set-room, sound-of}
use Rattle.mx_core.proofs.Undone.Stacks.{IsGiven}
use Rattle.mx_core.proofs.Undone.Steps.{IsNotable, step-notes}
use Rattle.mx_run.specs.Turns.{area_size, turn, turn_of, turn_with}
use Rattle.mx_run.specs.WildRuns.{state_after}
use Rattle.mx_record.specs.Following.{AreFound, ComesByTurn}
use Rattle.mx_record.specs.Pictures.{all_registers, octa_of}
use Rattle.mx_record.proofs.Reaching.{step-traced}
use Rattle.mx_record.proofs.Stacks.{KeptStack, Turned, all-found, area-kept, kept-itself, kept-through, kept-turned, last-kept, moved-turned, octa-kept, register-kept}

-- A STEP THAT DOES NOT MOVE THE STACK

-- a store, and what is visible then
record Stored (y z : Stack) : Type 0 where
  kept : KeptStack y z
  shown : visible z ≡ visible y

octa-shown : (z : Stack) (i x : ℕ) → visible (with_stack_octa z i x) ≡ visible z
unfolding with_stack_octa
octa-shown (listed r) i x = refl
octa-shown (windowed w) i x = refl

octa-stored : (z : Stack) (i x : ℕ) → IsRinged z → Stored z (with_stack_octa z i x)
octa-stored z i x r = record { kept = octa-kept z i x r; shown = octa-shown z i x }

same-stored : (y z : Stack) → z ≡ y → Stored y z
same-stored y z e = subst (Stored y) (sym e) (record { kept = kept-itself y; shown = refl })

store-stored : (u : State) (store : Option Store) → IsRinged u.stack → Stored u.stack (with_store u store).stack
store-stored u None r = same-stored u.stack u.stack refl
store-stored u (Some store) r =
    let x : ℕ = with_part store.part (octa u store.at) store.at store.value in
    ⊎_elim
    (λ e. subst (Stored u.stack) (sym (ap (λ (v : State). v.stack) (octa-in-stack u store.at x e))) (octa-stored u.stack (stack_index store.at) x r))
    (λ e. same-stored u.stack _ (ap (λ (v : State). v.stack) (octa-on-page u store.at x e)))
    (cases_Bool (in_stack_area store.at))

trip-kept : (u : State) (i : Instruction) (t : Option Tripping) → AreInBounds (visible u.stack) → KeptStack u.stack (tripped u i t).stack
trip-kept u i None b = kept-itself u.stack
trip-kept u i (Some t) b =
    subst (λ z. KeptStack u.stack (with_register z 255 (special_register u rJ))) (sym (specials-stack u (trip_specials u i t))) (last-kept u.stack (special_register u rJ) b)

-- MOVES

pub is-still : (move : Move) → (move ≡ stays) ⊎ (move ≡ stays → ⊥)
is-still stays = inl refl
is-still (pushes x) = inr (λ e. absurd (cc))
is-still (pops x) = inr (λ e. absurd (cc))
is-still (saves x specials) = inr (λ e. absurd (cc))
is-still (unsaves i) = inr (λ e. absurd (cc))
is-still (cuts l) = inr (λ e. absurd (cc))
is-still (moves_globals g) = inr (λ e. absurd (cc))

pub untripped : (u : State) (i : Instruction) (t : Option Tripping) → t ≡ None → (tripped u i t).stack ≡ u.stack
untripped u i None e = refl
untripped u i (Some t) e = absurd (cc)

-- A RESULT

result-ringed : (P : Type 0) (u : State) (k : ℕ) (r : Option ℕ) → IsSound P u → ResultFits u.stack k r → IsRinged (with_result u k r).stack
result-ringed P u k None h f = h.ring
result-ringed P u k (Some x) h f = (result-sound P u k (Some x) h f).ring

-- once the destination of a deed has its value, the stack is a ring
abbrev Placed : Deed → Type 0
Placed d = d.refused ≡ None → IsRinged (with_result d.here (unwrap_or d.destination 0) d.effect.result).stack

deed-placed : (P : Type 0) (operation : Operation) (s : State) (i : Instruction) → IsSound P s → Placed (deed_of operation s i)
deed-placed P operation s i h n =
    let here : State = with_destination operation s i in
    let e : Effect = effect_of operation here i in
    let u : IsFree operation s i e = free operation s i e n in
    result-ringed P here (unwrap_or (destination_of operation i) 0) e.result (destination-sound P operation s i h u.stack) (result-fits operation s here i)

given-placed : (P : Type 0) (s : State) (i : Instruction) (x value : ℕ) → IsSound P s → set_overfills s.stack x ≡ false → Placed (plain_deed s i (Some x) (giving i value) None)
given-placed P s i x value h o n = result-ringed P s x (Some value) h o

going-placed : (P : Type 0) (s : State) (i : Instruction) (address : ℕ) (refused : Option Reason) → IsSound P s → Placed (plain_deed s i None (going_to i address) refused)
going-placed P s i address refused h n = h.ring

inserted-placed : (P : Type 0) (s : State) (i : Instruction) (ins : Insert) → IsSound P s → ((at word : ℕ) → ins ≡ insert.Perform Set at word → set_overfills s.stack (x_of (instruction at word)) ≡ false) → Placed (inserted s i ins)
inserted-placed P s i (insert.Back address) h r = going-placed P s i address None h
inserted-placed P s i (insert.Perform Again at word) h r = deed-placed P (operation_in (instruction at word)) s (instruction at word) h
inserted-placed P s i (insert.Perform Continue at word) h r = deed-placed P (operation_in (instruction at word)) s (given_instruction s at word) h
inserted-placed P s i (insert.Perform Set at word) h r = given-placed P s (instruction at word) (x_of (instruction at word)) (special_register s rZ) h (r at word refl)
inserted-placed P s i insert.Illegal h r = going-placed P s i i.at (Some Illegal) h
inserted-placed P s i insert.LeftOut h r = going-placed P s i i.at (Some ResumeInsert) h

if-placed : (P : Type 0) (b : Bool) (s : State) (i : Instruction) (ins : Insert) → IsSound P s → Placed (inserted s i ins) → Placed (resumed-if b s i ins)
if-placed P true s i ins h k = going-placed P s i i.at (Some Illegal) h
if-placed P false s i ins h k = k

by-placed : (P : Type 0) (operation : Operation) (s : State) → IsSound P s → Placed (deed_for operation s (fetched s))
by-placed P op.Resume s h = if-placed P (not (xyz_of (fetched s) == 0)) s (fetched s) (insertion-in s) h (inserted-placed P s (fetched s) (insertion-in s) h (set-room s))
by-placed P operation s h = deed-placed P operation s (fetched s) h

-- A STEP

pub record IsLaid (s : State) : Type 0 where
  pub notable : IsNotable s (deed s)
  pub placed : IsRinged (with_result (deed s).here (unwrap_or (deed s).destination 0) (deed s).effect.result).stack

pub laid : (s t : State) (w : Window) (trace : Trace) → IsMachine s w → AreOctas w.hidden.stack → step s ≡ went t trace → IsLaid s
laid s t w trace m o e =
    step-notes (λ _. IsLaid s) s t w trace m o e (λ n q _. record { notable = q; placed = by-placed (s.touched ≡ false) (operation_in (fetched s)) s (sound-of s w m) n })

pub in-bounds : (z : Stack) → IsRinged z → AreInBounds (visible z)
in-bounds (listed r) h = absurd h
in-bounds (windowed w) h = h.registers

given-kept : (y z : Stack) (k : ℕ) → IsRinged y → IsGiven y k z → KeptStack y z
given-kept y z k r g = subst (KeptStack y) (sym g.is) (register-kept y k g.value r)

plain-kept : (s : State) (d : Deed) → IsRinged s.stack → IsNotable s d → IsRinged (with_result d.here (unwrap_or d.destination 0) d.effect.result).stack → d.effect.move ≡ stays → KeptStack s.stack (after s d).stack
unfolding applied
plain-kept s d r q p m =
    let k : ℕ = unwrap_or d.destination 0 in
    let u : State = with_result d.here k d.effect.result in
    let v : State = with_store u d.effect.store in
    let b : State = with_specials v d.effect.special in
    let stored : Stored u.stack v.stack = store-stored u d.effect.store p in
    let bounds : AreInBounds (visible b.stack) = subst AreInBounds (sym (ap visible (specials-stack v d.effect.special) ∙ stored.shown)) (in-bounds u.stack p) in
    let trip : KeptStack b.stack (tripped b d.instruction d.effect.trip).stack = trip-kept b d.instruction d.effect.trip bounds in
    kept-through s.stack u.stack _ (given-kept s.stack u.stack _ r q.given)
    (kept-through u.stack b.stack _ (subst (KeptStack u.stack) (sym (specials-stack v d.effect.special)) stored.kept)
    (subst (λ (move : Move). KeptStack b.stack (tripped (moved b move) d.instruction d.effect.trip).stack) (sym m) trip))

moving-turned : (s : State) (d : Deed) → IsRinged s.stack → IsNotable s d → Shape d.here.stack d.effect → (d.effect.move ≡ stays → ⊥) → Turned s.stack (after s d).stack
unfolding applied
moving-turned s d r q (plain m) n = absurd (n m)
moving-turned s d r q (moving a b c f) n =
    let k : ℕ = unwrap_or d.destination 0 in
    let u : State = before d.here k d.effect in
    let own : u.stack ≡ s.stack = before-stack d.here k d.effect a b ∙ q.still n in
    subst (Turned s.stack) (sym (untripped (moved u d.effect.move) d.instruction d.effect.trip c))
    (moved-turned u s.stack d.effect.move own r (subst (λ z. MoveFits z d.effect.move) (q.still n) f))

went-turned : (s t : State) (w : Window) (trace : Trace) → IsMachine s w → AreOctas w.hidden.stack → step s ≡ went t trace → Turned s.stack t.stack
went-turned s t w trace m o e =
    let l : IsLaid s = laid s t w trace m o e in
    let r : IsRinged s.stack = subst IsRinged (sym m.over) m.ring in
    subst (λ (u : State). Turned s.stack u.stack) (sym (step-traced s t trace e).state)
    (⊎_elim (λ p. kept-turned s.stack _ (plain-kept s (deed s) r l.notable l.placed p)) (λ n. moving-turned s (deed s) r l.notable l.notable.shape n) (is-still (deed s).effect.move))

-- FILE TRAPS

area-length : (bytes : ℕ → ℕ) (n : ℕ) → length (area_in bytes n) ≡ n
unfolding area_in
area-length bytes n = length-map-range_with_len _ 0 n

-- the stack with what a trap left in the stack area
left-stack : (c : Contents State) (n : ℕ) → (state_in c n).stack ≡ with_area c.rest.stack (area_in c.bytes n)
unfolding state_in
left-stack c n = refl

area-stored : (s : State) (w : Window) (octas : List ℕ) → s.stack ≡ windowed w → IsRing w → length octas ≡ 2 ^ 20 → Stored s.stack (with_area (with_area s.stack []) octas)
area-stored s w octas e r l =
    subst (λ z. Stored z (with_area (with_area z []) octas)) (sym e) (record { kept = area-kept w octas r (l ∙ sym r.area); shown = refl })

trap-left : (s : State) (w : Window) (m : HostModel) (call : TrapCall) → IsMachine s w → Stored s.stack (state_in (trap_answer (machine_contents s) m call).1 area_size).stack
trap-left s w m call i =
    let c : Contents State = (trap_answer (machine_contents s) m call).1 in
    let rest : c.rest ≡ rest_of s = rest-kept (machine_contents s) m call in
    subst (Stored s.stack) (sym (left-stack c area_size ∙ ap (λ (u : State). with_area u.stack (area_in c.bytes area_size)) rest)) (area-stored s w (area_in c.bytes area_size) i.over i.ring (area-length c.bytes area_size))

trapped-kept : (u : State) (call : TrapCall) (value : ℕ) → AreInBounds (visible u.stack) → KeptStack u.stack (trapped u call value).stack
unfolding trapped
trapped-kept u call value b = subst (λ z. KeptStack u.stack (with_register z 255 value)) (sym (specials-stack u (trap_specials u call value))) (last-kept u.stack value b)

trap-kept : (touching : Bool) (call : TrapCall) (y : Stack) (u : State) (m : HostModel) (answer : TrapAnswer) → Stored y u.stack → AreInBounds (visible y) → KeptStack y (state_after (turn_with touching call u m answer)).stack
trap-kept touching call y u m (trap.Value value) h b = kept-through y u.stack _ h.kept (trapped-kept u call value (subst AreInBounds (sym h.shown) b))
trap-kept touching call y u m trap.Halt h b = h.kept
trap-kept touching call y u m (trap.Stopped why) h b = h.kept
trap-kept touching call y u m trap.OutOfMemory h b = h.kept

-- TURNS

stepped-turned : (s : State) (w : Window) (m : HostModel) (x : Stepped) → IsMachine s w → AreOctas w.hidden.stack → step s ≡ x → Turned s.stack (state_after (turn_of s m x)).stack
stepped-turned s w m (went t trace) i o e = went-turned s t w trace i o e
stepped-turned s w m (calls call) i o e =
    let t : Leaves TrapAnswer State = trap_answer (machine_contents s) m call in
    kept-turned s.stack _ (trap-kept (touches (machine_contents s).bytes call) call s.stack (state_in t.1 area_size) t.2 t.0 (trap-left s w m call i) (subst (λ z. AreInBounds (visible z)) (sym i.over) i.ring.registers))
stepped-turned s w m (stopped reason) i o e = kept-turned s.stack s.stack (kept-itself s.stack)

turn-turned : (s : State) (w : Window) (m : HostModel) → IsMachine s w → AreOctas w.hidden.stack → Turned s.stack (state_after (turn s m)).stack
unfolding turn
turn-turned s w m i o = stepped-turned s w m (step s) i o refl

pub turn-finds : (s t : State) (v w : Window) (trace : Option Trace) → IsMachine s v → AreOctas v.hidden.stack → IsMachine t w → ComesByTurn s t trace → AreFound (hidden_count s.stack) (octa_of (all_registers s.stack)) t.stack
turn-finds s t v w trace m o n h =
    subst (AreFound (hidden_count s.stack) (octa_of (all_registers s.stack))) (sym n.over)
    (all-found s.stack w n.ring (subst (Turned s.stack) n.over (subst (λ (u : State). Turned s.stack u.stack) (sym h.state) (turn-turned s v h.host m o))))
