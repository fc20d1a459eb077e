-- The registers that are hidden before and after a turn stay, where it does not reach them.
use Rattle.std.proofs.Common.{◌≡◌, ◌<◌, ℕ, ◌*◌, ◌/◌, ◌==◌, ◌||◌, Bool, true, false, List, ◌++◌, length, take, Option, None, Some, arith, refl, sym, subst, ◌∙◌, ap, ⊎_elim}
use Rattle.std.proofs.lemmas.Bool.{cond_both}
use Rattle.std.proofs.lemmas.Bool.Decides.{nat_tests}
use Rattle.std.proofs.lemmas.List.{get_or-take, length-take}
use Rattle.std.proofs.Math.ListN.{get_or-append}
use Rattle.std.specs.Option.{option_map, unwrap_or}
use Rattle.mx_host.specs.HostModel.{HostModel}
use Rattle.mx_alu.specs.declared.call.TrapCall.{TrapCall}
use Rattle.mx_trap.specs.FileTraps.{trap_answer}
use Rattle.mx_trap.specs.Moves.{Leaves}
use Rattle.mx_trap.specs.Touches.{touches}
use Rattle.mx_trap.specs.declared.answer.TrapAnswer.{TrapAnswer}
use Rattle.mx_trap.specs.declared.answer.TrapAnswer.TheVariants as trap
use Rattle.mx_core.specs.MachineSpace.{machine_contents, state_in}
use Rattle.mx_run.specs.Turns.{area_size, turn, turn_of, turn_with}
use Rattle.mx_run.specs.WildRuns.{state_after}
use Rattle.mx_replay.specs.Visits as visits
use Rattle.mx_mem.specs.Parts.{size_of, with_part}
use Rattle.mx_mem.specs.declared.part.Part.{Part}
use Rattle.mx_mem.specs.declared.part.Part.TheVariants as part
use Rattle.mx_word.specs.Ranges.{AreOctas}
use Rattle.mx_registers.specs.Bounds.{AreInBounds}
use Rattle.mx_registers.specs.Registers.{is_marginal, with_globals_from, with_locals_cut}
use Rattle.mx_ring.specs.Frames.{frame}
use Rattle.mx_ring.specs.Stack.{Stack, listed, windowed, as_listed, visible, hidden_octas, hidden_count, in_stack_area, with_register, with_visible, pushed, popped, saved, cut_to, with_global_start}
use Rattle.mx_ring.specs.Window.{Window, as_list}
use Rattle.mx_ring.specs.declared.saved.Saved.{Saved}
use Rattle.mx_code.specs.Puts.{put_of}
use Rattle.mx_code.specs.SpecialRegisters.{rG, rJ, rL}
use Rattle.mx_code.specs.declared.put.Put.{Put}
use Rattle.mx_code.specs.declared.put.Put.TheVariants as put
use Rattle.mx_code.specs.Instructions.{operation_in, x_of}
use Rattle.mx_code.specs.declared.instruction.Instruction.{Instruction}
use Rattle.mx_code.specs.declared.operation.Operation.{Operation}
use Rattle.mx_code.specs.declared.operation.Operation.TheVariants as op
use Rattle.mx_code.specs.declared.trace.Trace.{Trace}
use Rattle.mx_core.specs.Bounds.{IsMachine}
use Rattle.mx_core.specs.Deeds.{Deed, applied, deed_for, moved, trip_specials, tripped, with_destination, with_result, with_specials, with_store}
use Rattle.mx_core.specs.Effects.{Effect, Move, Store, Tripping, effect_of, putting, stays, pushes, pops, saves, unsaves, cuts, moves_globals, z_operand}
use Rattle.mx_core.specs.State.{State, global_start, locals, octa, special_register}
use Rattle.mx_core.specs.Step.{Stepped, after, calls, fetched, step, stopped, store_touch, went}
use Rattle.mx_core.specs.Wild.{deed}
use Rattle.mx_core.proofs.Choices.{chosen}
use Rattle.mx_core.proofs.Kept.Applied.{Shape, plain, moving, before, before-stack, specials-stack}
use Rattle.mx_core.proofs.Kept.Rings.{IsRinged, pop-listed, push-listed, save-listed, set-listed}
use Rattle.mx_core.proofs.Kept.Shapes.{event-like}
use Rattle.mx_core.proofs.Kept.Stages.{MoveFits, octa-on-page}
use Rattle.mx_core.proofs.Same.Seen.{same-hidden}
use Rattle.mx_core.proofs.Undone.Steps.{IsNotable}
use Rattle.mx_record.specs.Following.{ComesByTurn, is_deep, is_trap, operation_of_word, reaches_hidden, writes_area}
use Rattle.mx_record.specs.Pictures.{all_registers, octa_of}
use Rattle.mx_record.proofs.Reaching.{IsTraced, step-called, step-traced}
use Rattle.mx_record.proofs.Stacks.{hidden-at, listed-popped, listed-pushed, listed-set}
use Rattle.mx_record.proofs.StackTurns.{IsLaid, in-bounds, is-still, laid, untripped}

-- those that are hidden in both are the same
abbrev Under : Stack → Stack → Type 0
Under y z = (i : ℕ) → i < hidden_count y → i < hidden_count z → octa_of (hidden_octas z) i ≡ octa_of (hidden_octas y) i

same-under : (y z : Stack) → hidden_octas z ≡ hidden_octas y → Under y z
same-under y z e i l m = ap (λ xs. octa_of xs i) e

-- WHERE THE STACK IS NOT MOVED

hidden-set : (z : Stack) (k x : ℕ) → IsRinged z → hidden_octas (with_register z k x) ≡ hidden_octas z
hidden-set z k x r = sym (same-hidden (with_register z k x)) ∙ ap hidden_octas (sym (set-listed z k x r)) ∙ listed-set z k x ∙ same-hidden z

shown-hidden : (z : Stack) → (v : _) → hidden_octas (with_visible z v) ≡ hidden_octas z
shown-hidden (listed r) v = refl
shown-hidden (windowed w) v = refl

last-hidden : (z : Stack) (x : ℕ) → AreInBounds (visible z) → hidden_octas (with_register z 255 x) ≡ hidden_octas z
unfolding with_register
last-hidden z x b =
    let most = b.one_is_global in
    cond_both (is_marginal (visible z) 255) _ _ (λ (y : Stack). hidden_octas y ≡ hidden_octas z) (λ e. absurd (grind (arith, nat_tests, most))) (λ _. shown-hidden z _)

-- a store outside the stack area
in-area : (p : Part) (a : ℕ) → in_stack_area (a / size_of p * size_of p) ≡ in_stack_area a
in-area part.Byte a = grind (arith, nat_tests)
in-area part.Wyde a = grind (arith, nat_tests)
in-area part.Tetra a = grind (arith, nat_tests)
in-area part.Octa a = grind (arith, nat_tests)

store-hidden : (u : State) (store : Option Store) → writes_area (option_map store_touch store) ≡ false → (with_store u store).stack ≡ u.stack
store-hidden u None e = refl
store-hidden u (Some store) e = ap (λ (v : State). v.stack) (octa-on-page u store.at (with_part store.part (octa u store.at) store.at store.value) (sym (in-area store.part store.at) ∙ e))

trip-hidden : (u : State) (i : Instruction) (t : Option Tripping) → AreInBounds (visible u.stack) → hidden_octas (tripped u i t).stack ≡ hidden_octas u.stack
trip-hidden u i None b = refl
trip-hidden u i (Some t) b = ap (λ z. hidden_octas (with_register z 255 (special_register u rJ))) (specials-stack u (trip_specials u i t)) ∙ last-hidden u.stack (special_register u rJ) b

plain-hidden : (s : State) (d : Deed) → IsRinged s.stack → IsNotable s d → IsRinged (with_result d.here (unwrap_or d.destination 0) d.effect.result).stack → writes_area (option_map store_touch d.effect.store) ≡ false → d.effect.move ≡ stays → hidden_octas (after s d).stack ≡ hidden_octas s.stack
unfolding applied
plain-hidden s d r q p w m =
    let k : ℕ = unwrap_or d.destination 0 in
    let u : State = with_result d.here k d.effect.result in
    let v : State = with_store u d.effect.store in
    let b : State = with_specials v d.effect.special in
    let own : b.stack ≡ u.stack = specials-stack v d.effect.special ∙ store-hidden u d.effect.store w in
    let bounds : AreInBounds (visible b.stack) = subst (λ z. AreInBounds (visible z)) (sym own) (in-bounds u.stack p) in
    ap (λ (move : Move). hidden_octas (tripped (moved b move) d.instruction d.effect.trip).stack) m
    ∙ trip-hidden b d.instruction d.effect.trip bounds ∙ ap hidden_octas own ∙ ap hidden_octas q.given.is ∙ hidden-set s.stack _ q.given.value r

-- MOVES

-- all but UNSAVE
abbrev NotRead : Move → Type 0
NotRead (unsaves i) = ⊥
NotRead move = Unit {0}

front-under : (y z : Stack) (more : List ℕ) → hidden_octas z ≡ hidden_octas y ++ more → Under y z
front-under y z more e i l m = ap (λ xs. octa_of xs i) e ∙ get_or-append (hidden_octas y) more 0 i l

take-under : (y z : Stack) (k : ℕ) → hidden_octas z ≡ take k (hidden_octas y) → Under y z
take-under y z k e i l m = ap (λ xs. octa_of xs i) e ∙ get_or-take k (hidden_octas y) i 0 (omega (arith, m, ap length e, length-take k (hidden_octas y)))

listed-saved : (z : Stack) (x : ℕ) (specials : Saved) → hidden_octas (saved (as_listed z) x specials) ≡ hidden_octas z ++ frame (visible z) specials
unfolding saved as_list
listed-saved (listed r) x specials = refl
listed-saved (windowed w) x specials = refl

cut-under : (z : Stack) (l : ℕ) → Under z (cut_to z l)
unfolding cut_to
cut-under z l = same-under z (with_visible z (with_locals_cut (visible z) l)) (shown-hidden z (with_locals_cut (visible z) l))

globals-under : (z : Stack) (g : ℕ) → Under z (with_global_start z g)
unfolding with_global_start
globals-under z g = same-under z (with_visible z (with_globals_from (visible z) g)) (shown-hidden z (with_globals_from (visible z) g))

moved-under : (u : State) (z : Stack) (move : Move) → u.stack ≡ z → IsRinged z → MoveFits z move → NotRead move → Under z (moved u move).stack
moved-under u z stays e r f n = subst (Under z) (sym e) (same-under z z refl)
moved-under u z (pushes x) e r f n =
    subst (λ y. Under z (pushed y x)) (sym e) (front-under z (pushed z x) _ (sym (same-hidden (pushed z x)) ∙ ap hidden_octas (sym (push-listed z x r f)) ∙ listed-pushed z x))
moved-under u z (pops x) e r f n =
    let p = listed-popped z x in
    subst (λ y. Under z (popped y x)) (sym e) (take-under z (popped z x) p.0 (sym (same-hidden (popped z x)) ∙ ap hidden_octas (sym (pop-listed z x r)) ∙ p.1))
moved-under u z (saves x specials) e r f n =
    subst (λ y. Under z (saved y x specials)) (sym e) (front-under z (saved z x specials) _ (sym (same-hidden (saved z x specials)) ∙ ap hidden_octas (sym (save-listed z x specials r f.1)) ∙ listed-saved z x specials))
moved-under u z (unsaves i) e r f n = absurd n
moved-under u z (cuts l) e r f n = subst (λ y. Under z (cut_to y l)) (sym e) (cut-under z l)
moved-under u z (moves_globals g) e r f n = subst (λ y. Under z (with_global_start y g)) (sym e) (globals-under z g)

moving-under : (s : State) (d : Deed) → IsRinged s.stack → IsNotable s d → Shape d.here.stack d.effect → (d.effect.move ≡ stays → ⊥) → NotRead d.effect.move → Under s.stack (after s d).stack
unfolding applied
moving-under s d r q (plain m) n not = absurd (n m)
moving-under s d r q (moving a b c f) n not =
    let k : ℕ = unwrap_or d.destination 0 in
    let u : State = before d.here k d.effect in
    let own : u.stack ≡ s.stack = before-stack d.here k d.effect a b ∙ q.still n in
    subst (Under s.stack) (sym (untripped (moved u d.effect.move) d.instruction d.effect.trip c))
    (moved-under u s.stack d.effect.move own r (subst (λ z. MoveFits z d.effect.move) (q.still n) f) not)

-- DEEDS

plain-not : (move : Move) → move ≡ stays → NotRead move
plain-not move e = subst NotRead (sym e) tt

put-not : (i : Instruction) (code : ℕ) (p : Put) → NotRead (putting i code p).move
put-not i code (put.Store value) = chosen (λ (e : Effect). NotRead e.move) (code == rL) _ _ tt (chosen (λ (e : Effect). NotRead e.move) (code == rG) _ _ tt tt)
put-not i code put.Illegal = tt
put-not i code put.Privileged = tt

effect-not : (operation : Operation) (s : State) (i : Instruction) → is_deep operation ≡ false → NotRead (effect_of operation s i).move
unfolding effect_of
effect-not op.Unsave s i e = absurd (cc)
effect-not op.Put s i e = put-not i (x_of i) (put_of (x_of i) (z_operand s i) (global_start s) (locals s))
effect-not op.Compute s i e = plain-not _ (event-like _ _ _ _ _).move
effect-not op.Negate s i e = plain-not _ (event-like _ _ _ _ _).move
effect-not (op.Store how) s i e = plain-not _ (event-like _ _ _ _ _).move
effect-not op.CompareAndSwap s i e = plain-not _ (chosen (λ (x : Effect). x.move ≡ stays) _ _ _ refl refl)
effect-not operation s i e = tt

deed-not : (operation : Operation) (s : State) (i : Instruction) → is_deep operation ≡ false → NotRead (deed_for operation s i).effect.move
deed-not op.Resume s i e = absurd (cc)
deed-not operation s i e = effect-not operation (with_destination operation s i) i e

-- STEPS

or-false : (a b : Bool) → (a || b) ≡ false → (a ≡ false) × (b ≡ false)
or-false true b e = absurd (cc)
or-false false b e = (refl, e)

went-under : (s t : State) (w : Window) (trace : Trace) → IsMachine s w → AreOctas w.hidden.stack → step s ≡ went t trace → reaches_hidden (Some trace) ≡ false → Under s.stack t.stack
went-under s t w trace m o e f =
    let k : IsTraced s t trace = step-traced s t trace e in
    let l : IsLaid s = laid s t w trace m o e in
    let r : IsRinged s.stack = subst IsRinged (sym m.over) m.ring in
    let parts : (is_deep (operation_of_word trace.word) ≡ false) × (writes_area trace.writes ≡ false) = or-false _ _ f in
    let not : NotRead (deed s).effect.move = deed-not (operation_in (fetched s)) s (fetched s) (sym (ap (λ (x : Trace). is_deep (operation_of_word x.word)) k.traced) ∙ parts.0) in
    let outside : writes_area (option_map store_touch (deed s).effect.store) ≡ false = sym (ap (λ (x : Trace). writes_area x.writes) k.traced) ∙ parts.1 in
    subst (λ (u : State). Under s.stack u.stack) (sym k.state)
    (⊎_elim (λ p. same-under s.stack (after s (deed s)).stack (plain-hidden s (deed s) r l.notable l.placed outside p)) (λ n. moving-under s (deed s) r l.notable l.notable.shape n not) (is-still (deed s).effect.move))

-- all registers of the stack below both numbers
pub all-under : (y z : Stack) (i : ℕ) → Under y z → i < hidden_count y → i < hidden_count z → octa_of (all_registers z) i ≡ octa_of (all_registers y) i
all-under y z i h l m = hidden-at z i m ∙ h i l m ∙ sym (hidden-at y i l)

-- TURNS

abbrev KeptUnder : State → State → Option Trace → Type 0
KeptUnder s t trace = reaches_hidden trace ≡ false → Under s.stack t.stack

trap-under : (touching : Bool) (call : TrapCall) (s u : State) (m : HostModel) (answer : TrapAnswer) → is_trap (operation_of_word call.word) ≡ true → KeptUnder s (state_after (turn_with touching call u m answer)) (visits.trace_of (turn_with touching call u m answer))
trap-under touching call s u m (trap.Value value) e f = absurd (deep-trap (operation_of_word call.word) e (or-false _ _ f).0)
  where
    deep-trap : (operation : Operation) → is_trap operation ≡ true → is_deep operation ≡ false → ⊥
    deep-trap op.Trap e f = absurd (cc)
    deep-trap operation e f = absurd (cc)
trap-under touching call s u m trap.Halt e f = absurd (cc)
trap-under touching call s u m (trap.Stopped why) e f = absurd (cc)
trap-under touching call s u m trap.OutOfMemory e f = absurd (cc)

stepped-under : (s : State) (w : Window) (m : HostModel) (x : Stepped) → IsMachine s w → AreOctas w.hidden.stack → step s ≡ x → KeptUnder s (state_after (turn_of s m x)) (visits.trace_of (turn_of s m x))
stepped-under s w m (went t trace) i o e = λ f. went-under s t w trace i o e f
stepped-under s w m (calls call) i o e =
    let t : Leaves TrapAnswer State = trap_answer (machine_contents s) m call in
    trap-under (touches (machine_contents s).bytes call) call s (state_in t.1 area_size) t.2 t.0 (step-called s call e)
stepped-under s w m (stopped reason) i o e = λ f. absurd (cc)

turn-under : (s : State) (w : Window) (m : HostModel) → IsMachine s w → AreOctas w.hidden.stack → KeptUnder s (state_after (turn s m)) (visits.trace_of (turn s m))
unfolding turn
turn-under s w m i o = stepped-under s w m (step s) i o refl

-- the registers of the stack below both numbers stay
pub turn-keeps : (s t : State) (w : Window) (trace : Option Trace) → IsMachine s w → AreOctas w.hidden.stack → ComesByTurn s t trace → reaches_hidden trace ≡ false → (i : ℕ) → i < hidden_count s.stack → i < hidden_count t.stack →
    octa_of (all_registers t.stack) i ≡ octa_of (all_registers s.stack) i
turn-keeps s t w trace m o h f i =
    all-under s.stack t.stack i (subst (λ (u : State). Under s.stack u.stack) (sym h.state) (turn-under s w h.host m o (sym (ap reaches_hidden h.traced) ∙ f)))
