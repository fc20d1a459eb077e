-- A turn that is not wild goes the same for a window and for the list that it represents.
use Rattle.std.proofs.Common.{◌≡◌, ℕ, ◌%◌, ◌≤◌, ◌^◌, Bool, true, false, cond, List, [], arith, refl, sym, subst, ◌∙◌, ap}
use Rattle.std.specs.Prelude.{◌||◌}
use Rattle.std.proofs.lemmas.Bool.Decides.{nat_tests}
use Rattle.mx_host.specs.HostModel.{HostModel}
use Rattle.mx_mem.specs.Space.{Contents, octa_of}
use Rattle.mx_word.specs.Octas.{byte_in}
use Rattle.mx_word.specs.Ranges.{AreOctas}
use Rattle.mx_ring.specs.Stack.{Stack, listed, windowed, as_listed, in_stack_area, spilled_count}
use Rattle.mx_ring.specs.Window.{Window, as_list}
use Rattle.mx_alu.specs.declared.call.TrapCall.{TrapCall}
use Rattle.mx_trap.specs.Apart.{apart, leaves_apart, with_segment}
use Rattle.mx_trap.specs.FileTraps.{trap_answer}
use Rattle.mx_trap.specs.Moves.{Leaves}
use Rattle.mx_word.specs.Segments.{is_in_stack_segment}
use Rattle.mx_trap.specs.Touches.{touches}
use Rattle.mx_trap.specs.declared.answer.TrapAnswer.{TrapAnswer}
use Rattle.mx_trap.specs.declared.answer.TrapAnswer.TheVariants as trap
use Rattle.mx_trap.proofs.ApartCalls.{trap-apart, untouched-apart}
use Rattle.mx_trap.proofs.KeptTraps.{pages-kept}
use Rattle.mx_core.specs.Bounds.{IsMachine, as_list_state, as_list_step}
use Rattle.mx_core.specs.MachineSpace.{with_area, rest_of, machine_contents, area_in, state_in}
use Rattle.mx_core.specs.State.{State, octa}
use Rattle.mx_core.specs.Step.{Stepped, went, calls, stopped, step}
use Rattle.mx_core.specs.Traps.{trapped, trap_trace, halted}
use Rattle.mx_core.specs.Wild.{is_wild}
use Rattle.mx_core.proofs.Kept.Changed.{trapped-listed}
use Rattle.mx_core.proofs.Kept.Machines.{step-touches}
use Rattle.mx_core.proofs.Same.Steps.{step-listed}
use Rattle.mx_core.proofs.Same.Wild.{same-wild}
use Rattle.mx_core.proofs.Same.Seen.{same-octa, same-register}
use Rattle.mx_run.specs.Turns.{Turn, went_on, halts, area_size, with_touch_if, turn_with, trap_turn, turn_of, turn}
use Rattle.mx_run.specs.WildRuns.{trap_touches, turn_is_wild, as_list_turn, state_after}
use Rattle.mx_run.proofs.Areas.{own-bytes, same-area, beside-octa}

-- THE CONTENTS OF THE LIST

-- the contents of a machine, with other bytes outside Stack_Segment and other pages
abbrev own : State → Contents State → Contents State
own s d = apart (byte_in (octa s)) (rest_of s) d

abbrev with-bytes : Contents State → (ℕ → ℕ) → Contents State
with-bytes c f = record c { bytes = f }

outside-area : (q : ℕ) → is_in_stack_segment q ≡ false → in_stack_area q ≡ false
outside-area q e = grind (arith, nat_tests)

list-byte : (s : State) (q : ℕ) (b : Bool) → is_in_stack_segment q ≡ b → byte_in (octa (as_list_state s)) q ≡ cond b (byte_in (octa (as_list_state s)) q) (byte_in (octa s) q)
list-byte s q true e = refl
list-byte s q false e = ap (λ x. byte_in (λ a. x) q) (same-octa s s.stack q (outside-area q e))

list-bytes : (s : State) → byte_in (octa (as_list_state s)) ≡ with_segment (byte_in (octa (as_list_state s))) (byte_in (octa s))
list-bytes s = λ i q. list-byte s q (is_in_stack_segment q) refl i

window-byte : (s : State) (q : ℕ) (b : Bool) → is_in_stack_segment q ≡ b → byte_in (octa s) q ≡ cond b (byte_in (octa s) q) (byte_in (octa (as_list_state s)) q)
window-byte s q true e = refl
window-byte s q false e = sym (ap (λ x. byte_in (λ a. x) q) (same-octa s s.stack q (outside-area q e)))

window-bytes : (s : State) → byte_in (octa s) ≡ with_segment (byte_in (octa s)) (byte_in (octa (as_list_state s)))
window-bytes s = λ i q. window-byte s q (is_in_stack_segment q) refl i

list-contents : (s : State) → machine_contents (as_list_state s) ≡ own (as_list_state s) (machine_contents s)
list-contents s = ap (with-bytes (machine_contents (as_list_state s))) (list-bytes s)

same-segment : (b : Bool) (x : ℕ) → x ≡ cond b x x
same-segment true x = refl
same-segment false x = refl

own-contents : (s : State) → machine_contents s ≡ own s (machine_contents s)
own-contents s = ap (with-bytes (machine_contents s)) (λ i q. same-segment (is_in_stack_segment q) (byte_in (octa s) q) i)

-- THE STATE THAT A TRAP LEAVES

list-area : (w : Window) (octas others : List ℕ) → octas ≡ w.hidden.stack → with_area (with_area (as_listed (windowed w)) []) others ≡ as_listed (with_area (with_area (windowed w) []) octas)
list-area w octas others e = ap (λ (o : List ℕ). listed (as_list (record w { hidden = record w.hidden { stack = o } }))) (sym e)

window-area : (w : Window) (octas : List ℕ) → octas ≡ w.hidden.stack → with_area (with_area (windowed w) []) octas ≡ windowed w
window-area w octas e = ap (λ (o : List ℕ). windowed (record w { hidden = record w.hidden { stack = o } })) e

abbrev with-memory : State → (ℕ → ℕ) → Contents State → Stack → State
with-memory s octas d z = record s { octas = octas; pages = d.pages; page_count = d.page_count; stack = z }

same-memory : (b : Bool) (x y z : ℕ) → (b ≡ false → y ≡ z) → cond b x y ≡ cond b x z
same-memory true x y z e = refl
same-memory false x y z e = e refl

pub state-listed : (s : State) (w : Window) (d : Contents State) → s.stack ≡ windowed w → area_in (own-bytes s d.bytes) area_size ≡ w.hidden.stack → state_in (own (as_list_state s) d) area_size ≡ as_list_state (state_in (own s d) area_size)
unfolding state_in
state-listed s w d o e =
    let masked : ℕ → ℕ = λ a. cond (in_stack_area a) (s.octas a) 0 in
    let left : ℕ → ℕ = λ a. cond (in_stack_area a) (masked a) (octa_of (own-bytes (as_list_state s) d.bytes) a) in
    let right : ℕ → ℕ = λ a. cond (in_stack_area a) (masked a) (octa_of (own-bytes s d.bytes) a) in
    let octas : left ≡ right = λ i a. same-memory (in_stack_area a) (masked a) _ _ (beside-octa s d.bytes a) i in
    let list : List ℕ = area_in (own-bytes (as_list_state s) d.bytes) area_size in
    let area : List ℕ = area_in (own-bytes s d.bytes) area_size in
    let stack : with_area (with_area (as_listed s.stack) []) list ≡ as_listed (with_area (with_area s.stack []) area) =
    subst (λ (z : Stack). with_area (with_area (as_listed z) []) list ≡ as_listed (with_area (with_area z []) area)) (sym o) (list-area w area list e) in
    ap (λ (f : ℕ → ℕ). with-memory s f d (with_area (with_area (as_listed s.stack) []) list)) octas ∙ ap (λ (z : Stack). with-memory s right d z) stack

pub state-machine : (s : State) (w : Window) (d : Contents State) → IsMachine s w → area_in (own-bytes s d.bytes) area_size ≡ w.hidden.stack → d.page_count ≤ 65536 → IsMachine (state_in (own s d) area_size) w
unfolding state_in
state-machine s w d m e p =
    let area : List ℕ = area_in (own-bytes s d.bytes) area_size in
    let stack : with_area (with_area s.stack []) area ≡ windowed w = ap (λ (z : Stack). with_area (with_area z []) area) m.over ∙ window-area w area e in
    record {
      over = stack;
      ring = m.ring;
      frames_are_spilled = λ t. subst (λ (z : Stack). s.mark ≤ spilled_count z) (m.over ∙ sym stack) (m.frames_are_spilled t);
      pages = p;
      specials = m.specials;
      address = m.address;
    }

pub state-touched : (s : State) (d : Contents State) → (state_in (own s d) area_size).touched ≡ s.touched
unfolding state_in
state-touched s d = refl

-- A TRAP

abbrev traced : State → Bool → TrapCall → HostModel → State → Turn
traced s b call m t = went_on (with_touch_if b t) m (record { pc = call.pc; word = call.word; dest = (trap_trace s call 0).dest; reads = (trap_trace s call 0).reads; writes = (trap_trace s call 0).writes; next = t.pc })

answered : (b : Bool) (call : TrapCall) (s : State) (w : Window) (m : HostModel) (answer : TrapAnswer) → IsMachine s w → turn_with b call (as_list_state s) m answer ≡ as_list_turn (turn_with b call s m answer)
answered b call s w m (trap.Value value) h = ap (traced s b call m) (trapped-listed s w call value h)
answered b call s w m trap.Halt h = ap (λ x. halts (x % 2 ^ 8) (with_touch_if b (halted (as_list_state s))) m) (same-register s.stack 255)
answered b call s w m (trap.Stopped why) h = refl
answered b call s w m trap.OutOfMemory h = refl

-- what a call answers and leaves, where it does not touch Stack_Segment
abbrev answer-of : State → HostModel → TrapCall → Leaves TrapAnswer State
answer-of s m call = trap_answer (machine_contents s) m call

list-answer : (s : State) (m : HostModel) (call : TrapCall) → touches (machine_contents s).bytes call ≡ false → answer-of (as_list_state s) m call ≡ leaves_apart (byte_in (octa (as_list_state s))) (rest_of (as_list_state s)) (answer-of s m call)
list-answer s m call e = ap (λ (c : Contents State). trap_answer c m call) (list-contents s) ∙ trap-apart (byte_in (octa (as_list_state s))) (rest_of (as_list_state s)) (machine_contents s) m call e

own-answer : (s : State) (m : HostModel) (call : TrapCall) → touches (machine_contents s).bytes call ≡ false → answer-of s m call ≡ leaves_apart (byte_in (octa s)) (rest_of s) (answer-of s m call)
own-answer s m call e = ap (λ (c : Contents State). trap_answer c m call) (own-contents s) ∙ trap-apart (byte_in (octa s)) (rest_of s) (machine_contents s) m call e

list-touches : (s : State) (call : TrapCall) → touches (machine_contents s).bytes call ≡ false → touches (machine_contents (as_list_state s)).bytes call ≡ false
list-touches s call e = ap (λ (f : ℕ → ℕ). touches f call) (list-bytes s) ∙ untouched-apart (byte_in (octa (as_list_state s))) (byte_in (octa s)) call e

window-touches : (s : State) (call : TrapCall) → touches (machine_contents (as_list_state s)).bytes call ≡ false → touches (machine_contents s).bytes call ≡ false
window-touches s call e = ap (λ (f : ℕ → ℕ). touches f call) (window-bytes s) ∙ untouched-apart (byte_in (octa s)) (byte_in (octa (as_list_state s))) call e

-- the state that the trap leaves
abbrev left-by : State → HostModel → TrapCall → State
left-by s m call = state_in (own s (answer-of s m call).1) area_size

left-machine : (s : State) (w : Window) (m : HostModel) (call : TrapCall) → IsMachine s w → AreOctas w.hidden.stack → IsMachine (left-by s m call) w
left-machine s w m call h o =
    let d : Contents State = (answer-of s m call).1 in
    state-machine s w d h (same-area s w d.bytes h.over h.ring.area o) (pages-kept (machine_contents s) m call h.pages)

-- both turns, by what the call answers
left-turn : (s : State) (m : HostModel) (call : TrapCall) → touches (machine_contents s).bytes call ≡ false → trap_turn (touches (machine_contents s).bytes call) call (answer-of s m call) ≡ turn_with false call (left-by s m call) (answer-of s m call).2 (answer-of s m call).0
left-turn s m call e =
    ap (λ b. trap_turn b call (answer-of s m call)) e ∙ ap (λ (t : Leaves TrapAnswer State). trap_turn false call t) (own-answer s m call e)

calls-listed : (s : State) (w : Window) (m : HostModel) (call : TrapCall) → IsMachine s w → AreOctas w.hidden.stack → touches (machine_contents s).bytes call ≡ false →
    turn_of (as_list_state s) m (calls call) ≡ as_list_turn (turn_of s m (calls call))
calls-listed s w m call h o e =
    let t : Leaves TrapAnswer State = answer-of s m call in
    ap (λ b. trap_turn b call (answer-of (as_list_state s) m call)) (list-touches s call e)
    ∙ ap (λ (u : Leaves TrapAnswer State). trap_turn false call u) (list-answer s m call e)
    ∙ ap (λ (u : State). turn_with false call u t.2 t.0) (state-listed s w t.1 h.over (same-area s w t.1.bytes h.over h.ring.area o))
    ∙ answered false call (left-by s m call) w t.2 t.0 (left-machine s w m call h o)
    ∙ sym (ap as_list_turn (left-turn s m call e))

-- TURNS

stepped-listed : (s : State) (w : Window) (m : HostModel) (x : Stepped) → IsMachine s w → ((call : TrapCall) → x ≡ calls call → AreOctas w.hidden.stack) → trap_touches s x ≡ false →
    turn_of (as_list_state s) m (as_list_step x) ≡ as_list_turn (turn_of s m x)
stepped-listed s w m (went t trace) h o e = refl
stepped-listed s w m (calls call) h o e = calls-listed s w m call h (o call refl) e
stepped-listed s w m (stopped reason) h o e = refl

both-false : (b c : Bool) → (b || c) ≡ false → (b ≡ false) × (c ≡ false)
both-false true c e = absurd (cc)
both-false false c e = (refl, e)

-- a window, with octas in its stack area where the next step calls a file trap
pub record TurnWindow (s : State) : Type 0 where
  pub window : Window
  pub machine : IsMachine s window
  pub octas : (call : TrapCall) → step s ≡ calls call → AreOctas window.hidden.stack

pub turn-listed-on : (s : State) (m : HostModel) → TurnWindow s → s.touched ≡ false → turn_is_wild s ≡ false → turn (as_list_state s) m ≡ as_list_turn (turn s m)
unfolding turn
turn-listed-on s m h t e =
    let parts : (is_wild s ≡ false) × (trap_touches s (step s) ≡ false) = both-false _ _ e in
    ap (turn_of (as_list_state s) m) (step-listed s h.window h.machine (record { untouched = t; not_wild = parts.0 })) ∙ stepped-listed s h.window m (step s) h.machine h.octas parts.1

pub turn-listed : (s : State) (w : Window) (m : HostModel) → IsMachine s w → AreOctas w.hidden.stack → s.touched ≡ false → turn_is_wild s ≡ false → turn (as_list_state s) m ≡ as_list_turn (turn s m)
turn-listed s w m h o t e = turn-listed-on s m (record { window = w; machine = h; octas = λ call f. o }) t e

-- WHICH TURNS ARE WILD

same-test : (b c : Bool) → (b ≡ false → c ≡ false) → (c ≡ false → b ≡ false) → c ≡ b
same-test true true f g = refl
same-test false false f g = refl
same-test true false f g = sym (g refl)
same-test false true f g = f refl

touches-listed : (s : State) (x : Stepped) → trap_touches (as_list_state s) (as_list_step x) ≡ trap_touches s x
touches-listed s (went t trace) = refl
touches-listed s (calls call) = same-test _ _ (list-touches s call) (window-touches s call)
touches-listed s (stopped reason) = refl

either-wild : (b c d : Bool) → (b ≡ false → c ≡ d) → (b || c) ≡ (b || d)
either-wild true c d f = refl
either-wild false c d f = f refl

pub wild-listed : (s : State) (w : Window) → IsMachine s w → s.touched ≡ false → turn_is_wild (as_list_state s) ≡ turn_is_wild s
wild-listed s w h t =
    ap (λ b. b || trap_touches (as_list_state s) (step (as_list_state s))) (same-wild s w h)
    ∙ either-wild (is_wild s) _ _ (λ e. ap (trap_touches (as_list_state s)) (step-listed s w h (record { untouched = t; not_wild = e })) ∙ touches-listed s (step s))

-- WHAT A TURN LEAVES

trapped-touched : (s : State) (call : TrapCall) (value : ℕ) → (trapped s call value).touched ≡ s.touched
unfolding trapped
trapped-touched s call value = refl

answered-untouched : (call : TrapCall) (s : State) (m : HostModel) (answer : TrapAnswer) → s.touched ≡ false → (state_after (turn_with false call s m answer)).touched ≡ false
answered-untouched call s m (trap.Value value) t = ap (λ b. b || false) (trapped-touched s call value ∙ t)
answered-untouched call s m trap.Halt t = ap (λ b. b || false) t
answered-untouched call s m (trap.Stopped why) t = ap (λ b. b || false) t
answered-untouched call s m trap.OutOfMemory t = t

stepped-untouched : (s : State) (m : HostModel) (x : Stepped) → step s ≡ x → s.touched ≡ false → is_wild s ≡ false → trap_touches s x ≡ false → (state_after (turn_of s m x)).touched ≡ false
stepped-untouched s m (went t trace) k u e f = step-touches s t trace k ∙ ap (λ b. b || is_wild s) u ∙ e
stepped-untouched s m (calls call) k u e f =
    let t : Leaves TrapAnswer State = answer-of s m call in
    ap (λ (r : Turn). (state_after r).touched) (left-turn s m call f) ∙ answered-untouched call (left-by s m call) t.2 t.0 (state-touched s t.1 ∙ u)
stepped-untouched s m (stopped reason) k u e f = u

-- a turn that is not wild touches nothing
pub turn-untouched : (s : State) (m : HostModel) → s.touched ≡ false → turn_is_wild s ≡ false → (state_after (turn s m)).touched ≡ false
unfolding turn
turn-untouched s m u e =
    let parts : (is_wild s ≡ false) × (trap_touches s (step s) ≡ false) = both-false _ _ e in
    stepped-untouched s m (step s) refl u parts.0 parts.1

pub ruleset turns = (turn-listed, wild-listed, turn-untouched)
