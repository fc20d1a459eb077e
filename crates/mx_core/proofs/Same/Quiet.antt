-- A deed that is not wild is refused alike, and does the same, over both register stacks.
use Rattle.std.proofs.Common.{◌≡◌, ℕ, ◌≤◌, ◌<◌, ◌&&◌, ◌||◌, nat_le, Bool, true, false, Option, None, Some, arith, refl, sym, subst, ◌∙◌, ap}
use Rattle.std.specs.Option.{unwrap_or}
use Rattle.std.proofs.lemmas.Bool.Decides.{nat_tests}
use Rattle.mx_ring.specs.Window.{as_list}
use Rattle.mx_ring.specs.Stack.{Stack, listed, windowed, register, as_listed, spilled_count, in_stack_area, stack_index}
use Rattle.mx_code.specs.Puts.{put_of}
use Rattle.mx_core.specs.Bounds.{as_list_state}
use Rattle.mx_code.specs.Instructions.{x_of, destination_of}
use Rattle.mx_code.specs.declared.instruction.Instruction.{Instruction}
use Rattle.mx_core.specs.Deeds.{Deed, deed_of, with_destination, applied, looks_at_stack, loads_in_segment, stores_in_segment, wild_effect, is_absent}
use Rattle.mx_core.specs.Effects.{Effect, Store, Move, stays, effect_of, z_operand}
use Rattle.mx_core.specs.State.{State, global_start, locals}
use Rattle.mx_core.specs.Stops.{refusal, form_fault, stack_fault, page_fault, first_reason}
use Rattle.mx_code.specs.declared.operation.Operation.{Operation}
use Rattle.mx_code.specs.declared.operation.Operation.TheVariants as op
use Rattle.mx_code.specs.declared.reason.Reason.{Reason}
use Rattle.mx_code.specs.declared.reason.Reason.TheVariants.{BadFrame}
use Rattle.mx_core.proofs.Kept.Applied.{StoresOutside, MovesSpilled, applied-listed}
use Rattle.mx_core.proofs.Choices.{chosen, no-reason, no-first}
use Rattle.mx_core.proofs.Kept.Destinations.{destination-sound, destination-listed, destination-pages, result-fits}
use Rattle.mx_core.proofs.Kept.Rings.{IsRinged, refused-listed, frame-listed, area-of-frame}
use Rattle.mx_core.proofs.Same.Effects.{ReadsFrame, same-effect, outside-area}
use Rattle.mx_core.proofs.Same.Refusals.{RefusesFrame, same-form, same-refusal, trip-outside}
use Rattle.mx_core.proofs.Same.Seen.{over}
use Rattle.mx_core.proofs.Kept.Shapes.{shape, event-like, put-spilled}
use Rattle.mx_core.proofs.Kept.Stages.{IsSound}

-- the same is carried out
pub record SameDone (d c : Deed) : Type 0 where
  pub destination : c.destination ≡ d.destination
  pub effect : c.effect ≡ d.effect
  pub wild : c.is_wild ≡ d.is_wild
  pub state : applied c.here c.instruction (unwrap_or c.destination 0) c.effect ≡ as_list_state (applied d.here d.instruction (unwrap_or d.destination 0) d.effect)

pub record SameDeed (d c : Deed) : Type 0 where
  pub refused : c.refused ≡ d.refused
  pub done : d.refused ≡ None → SameDone d c

-- FRAMES

-- UNSAVE in the stack area reads a frame that is spilled
abbrev FrameBelow : Operation → State → Instruction → Type 0
FrameBelow op.Unsave s i = in_stack_area (z_operand s i) ≡ true → stack_index (z_operand s i) < spilled_count s.stack
FrameBelow operation s i = Unit {0}

below-mark : (a : Bool) (m n k : ℕ) → (a && nat_le m n) ≡ false → m ≤ k → a ≡ true → n < k
below-mark true m n k e f t = grind (arith, nat_tests)
below-mark false m n k e f t = absurd (cc)

frame-below : (operation : Operation) (s : State) (i : Instruction) → looks_at_stack operation s i ≡ false → s.mark ≤ spilled_count s.stack → FrameBelow operation s i
frame-below op.Unsave s i e f = below-mark (in_stack_area (z_operand s i)) s.mark (stack_index (z_operand s i)) (spilled_count s.stack) e f
frame-below operation s i e f = tt

refuses-frame : (operation : Operation) (s : State) (i : Instruction) → IsRinged s.stack → FrameBelow operation s i → RefusesFrame operation s s.stack i
refuses-frame op.Unsave s i r f = refused-listed s.stack (z_operand s i) r f
refuses-frame operation s i r f = tt

reads-frame : (operation : Operation) (s : State) (i : Instruction) → IsRinged s.stack → FrameBelow operation s i → stack_fault operation s i ≡ None → ReadsFrame operation (with_destination operation s i) (with_destination operation s i).stack i
unfolding stack_fault
reads-frame op.Unsave s i r f e = frame-listed s.stack (stack_index (z_operand s i)) r (f (area-of-frame s.stack (z_operand s i) (no-reason _ BadFrame e)))
reads-frame operation s i r f e = tt

plain-spilled : (z : Stack) (move : Move) → move ≡ stays → MovesSpilled z move
plain-spilled z move e = subst (MovesSpilled z) (sym e) tt

moves-spilled : (operation : Operation) (s : State) (i : Instruction) → FrameBelow operation s i → stack_fault operation s i ≡ None → MovesSpilled (with_destination operation s i).stack (effect_of operation (with_destination operation s i) i).move
unfolding effect_of stack_fault
moves-spilled op.Unsave s i f e = f (area-of-frame s.stack (z_operand s i) (no-reason _ BadFrame e))
moves-spilled op.Put s i f e = put-spilled i s.stack (x_of i) (put_of (x_of i) (z_operand s i) (global_start s) (locals s))
moves-spilled op.Compute s i f e = plain-spilled (with_destination op.Compute s i).stack _ (event-like _ _ _ _ _).move
moves-spilled op.Negate s i f e = plain-spilled (with_destination op.Negate s i).stack _ (event-like _ _ _ _ _).move
moves-spilled (op.Store how) s i f e = plain-spilled (with_destination (op.Store how) s i).stack _ (event-like _ _ _ _ _).move
moves-spilled op.CompareAndSwap s i f e = plain-spilled (with_destination op.CompareAndSwap s i).stack _ (chosen (λ (x : Effect). x.move ≡ stays) _ _ _ refl refl)
moves-spilled operation s i f e = tt

-- THE EFFECT IN THE LIST

looks-here : (operation : Operation) (s : State) (i : Instruction) → looks_at_stack operation (with_destination operation s i) i ≡ looks_at_stack operation s i
looks-here op.Get s i = refl
looks-here op.Unsave s i = refl
looks-here operation s i = refl

pub effect-here : (operation : Operation) (s : State) (i : Instruction) → IsRinged s.stack → looks_at_stack operation s i ≡ false → loads_in_segment (effect_of operation (with_destination operation s i) i).load ≡ false → ReadsFrame operation (with_destination operation s i) (with_destination operation s i).stack i → effect_of operation (with_destination operation (as_list_state s) i) i ≡ effect_of operation (with_destination operation s i) i
effect-here operation s i r l m f =
    let here : State = with_destination operation s i in
    ap (λ (u : State). effect_of operation u i) (destination-listed operation s i r) ∙ same-effect operation here here.stack i (looks-here operation s i ∙ l) m f

refusal-here : (operation : Operation) (s : State) (i : Instruction) → IsRinged s.stack → looks_at_stack operation s i ≡ false → loads_in_segment (effect_of operation (with_destination operation s i) i).load ≡ false → refusal operation (as_list_state s) i (effect_of operation (with_destination operation (as_list_state s) i) i) ≡ refusal operation (as_list_state s) i (effect_of operation (with_destination operation s i) i)
unfolding effect_of
refusal-here op.Unsave s i r l m = refl
refusal-here operation s i r l m = ap (λ (e : Effect). refusal operation (as_list_state s) i e) (effect-here operation s i r l m tt)

-- DEEDS

stores-outside : (store : Option Store) → stores_in_segment store ≡ false → StoresOutside store
stores-outside None e = tt
stores-outside (Some store) e = outside-area store.at e

-- the parts of a deed that is not wild
record IsCalm (operation : Operation) (s : State) (i : Instruction) (e : Effect) : Type 0 where
  looks : looks_at_stack operation s i ≡ false
  loads : loads_in_segment e.load ≡ false
  stores : stores_in_segment e.store ≡ false

three-false : (a b c : Bool) → (a || b || c) ≡ false → (a ≡ false) × (b ≡ false) × (c ≡ false)
three-false true b c e = absurd (cc)
three-false false true c e = absurd (cc)
three-false false false true e = absurd (cc)
three-false false false false e = (refl, refl, refl)

calm : (operation : Operation) (s : State) (i : Instruction) (e : Effect) → form_fault operation s i ≡ None → wild_effect operation s i e ≡ false → IsCalm operation s i e
calm operation s i e f w =
    let t : (looks_at_stack operation s i ≡ false) × (loads_in_segment e.load ≡ false) × (stores_in_segment e.store ≡ false) = three-false _ _ _ (sym (ap (λ (r : Option Reason). is_absent r && (looks_at_stack operation s i || loads_in_segment e.load || stores_in_segment e.store)) f) ∙ w) in
    record { looks = t.0; loads = t.1; stores = t.2 }

wild-of : (operation : Operation) (s : State) (i : Instruction) (e : Effect) → form_fault operation s i ≡ None → IsCalm operation s i e → wild_effect operation s i e ≡ false
wild-of operation s i e f q =
    ap (λ (r : Option Reason). is_absent r && (looks_at_stack operation s i || loads_in_segment e.load || stores_in_segment e.store)) f ∙ ap (λ b. b || loads_in_segment e.load || stores_in_segment e.store) q.looks ∙ ap (λ b. b || stores_in_segment e.store) q.loads ∙ q.stores

looks-over : (operation : Operation) (s : State) (z : Stack) (i : Instruction) → looks_at_stack operation (over s (as_listed z)) i ≡ looks_at_stack operation (over s z) i
unfolding as_list register
looks-over op.Get s z i = refl
looks-over op.Unsave s (listed r) i = refl
looks-over op.Unsave s (windowed w) i = refl
looks-over operation s z i = refl

pub looks-listed : (operation : Operation) (s : State) (i : Instruction) → looks_at_stack operation (as_list_state s) i ≡ looks_at_stack operation s i
looks-listed operation s i = looks-over operation s s.stack i

first-some : (a b : Option Reason) (reason : Reason) → a ≡ Some reason → first_reason a b ≡ Some reason
first-some a b reason e = ap (λ (x : Option Reason). first_reason x b) e

some-none : {A : Type 0} (reason : Reason) → Some reason ≡ None → A
some-none reason e = absurd (cc)

-- a form that is refused
faulty-deed : (operation : Operation) (s : State) (i : Instruction) (reason : Reason) → form_fault operation s i ≡ Some reason → SameDeed (deed_of operation s i) (deed_of operation (as_list_state s) i)
faulty-deed operation s i reason f =
    let own : (deed_of operation s i).refused ≡ Some reason = first-some _ _ reason f in
    let other : (deed_of operation (as_list_state s) i).refused ≡ Some reason = first-some _ _ reason (same-form operation s s.stack i ∙ f) in
    record { refused = other ∙ sym own; done = λ n. some-none reason (sym own ∙ n) }

-- the parts of what refuses a deed
pub record IsFree (operation : Operation) (s : State) (i : Instruction) (e : Effect) : Type 0 where
  pub form : form_fault operation s i ≡ None
  pub stack : stack_fault operation s i ≡ None
  pub page : page_fault s e.store ≡ None

pub free : (operation : Operation) (s : State) (i : Instruction) (e : Effect) → refusal operation s i e ≡ None → IsFree operation s i e
free operation s i e n =
    let a = no-first _ _ n in
    let b = no-first _ _ a.1 in
    let c = no-first _ _ b.1 in
    let d = no-first _ _ c.1 in
    let f = no-first _ _ d.1 in
    record { form = a.0; stack = d.0; page = f.1 }

calm-done : (P : Type 0) (operation : Operation) (s : State) (i : Instruction) → IsSound P s → FrameBelow operation s i → IsCalm operation s i (effect_of operation (with_destination operation s i) i) → refusal operation s i (effect_of operation (with_destination operation s i) i) ≡ None → SameDone (deed_of operation s i) (deed_of operation (as_list_state s) i)
calm-done P operation s i h b q n =
    let here : State = with_destination operation s i in
    let e : Effect = effect_of operation here i in
    let k : ℕ = unwrap_or (destination_of operation i) 0 in
    let u : IsFree operation s i e = free operation s i e n in
    let same : effect_of operation (with_destination operation (as_list_state s) i) i ≡ e = effect-here operation s i h.ring q.looks q.loads (reads-frame operation s i h.ring b u.stack) in
    let form : form_fault operation (as_list_state s) i ≡ None = same-form operation s s.stack i ∙ u.form in
    record {
      destination = refl;
      effect = same;
      wild = ap (λ (x : Effect). wild_effect operation (as_list_state s) i x) same ∙ wild-of operation (as_list_state s) i e form (record { looks = looks-listed operation s i ∙ q.looks; loads = q.loads; stores = q.stores }) ∙ sym (wild-of operation s i e u.form q);
      state = ap (λ (x : Effect). applied (with_destination operation (as_list_state s) i) i k x) same ∙ ap (λ (x : State). applied x i k e) (destination-listed operation s i h.ring) ∙ applied-listed P here i k e (destination-sound P operation s i h u.stack) (result-fits operation s here i) (destination-pages operation s i e.store ∙ u.page) (shape operation s i u.form u.stack) (stores-outside e.store q.stores) (moves-spilled operation s i b u.stack);
    }

pub same-deed : (P : Type 0) (operation : Operation) (s : State) (i : Instruction) → P → IsSound P s → (deed_of operation s i).is_wild ≡ false → SameDeed (deed_of operation s i) (deed_of operation (as_list_state s) i)
same-deed P operation s i p h w = by-form (form_fault operation s i) refl
  where
    plain-form : form_fault operation s i ≡ None → SameDeed (deed_of operation s i) (deed_of operation (as_list_state s) i)
    plain-form f =
        let e : Effect = effect_of operation (with_destination operation s i) i in
        let q : IsCalm operation s i e = calm operation s i e f w in
        let b : FrameBelow operation s i = frame-below operation s i q.looks (h.marked p) in
        record {
          refused = refusal-here operation s i h.ring q.looks q.loads ∙ same-refusal operation s s.stack i e (trip-outside operation (with_destination operation s i) i) (refuses-frame operation s i h.ring b);
          done = λ n. calm-done P operation s i h b q n;
        }

    by-form : (f : Option Reason) → form_fault operation s i ≡ f → SameDeed (deed_of operation s i) (deed_of operation (as_list_state s) i)
    by-form None e = plain-form e
    by-form (Some reason) e = faulty-deed operation s i reason e
