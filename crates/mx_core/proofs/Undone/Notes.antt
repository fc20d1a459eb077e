-- What the code notes of a step takes it back.
use Rattle.std.proofs.Common.{◌≡◌, ℕ, ◌*◌, ◌/◌, ◌^◌, ◌<◌, ◌==◌, nat_lt, Bool, true, false, cond, Option, None, Some, arith, refl, sym, subst, ◌∙◌, ap, ◌⊎◌, inl, inr}
use Rattle.std.specs.Option.{unwrap_or, option_map}
use Rattle.std.proofs.lemmas.Bool.Decides.{nat_tests}
use Rattle.mx_mem.proofs.Removals.{absent-octa}
use Rattle.mx_mem.specs.Parts.{size_of}
use Rattle.mx_mem.specs.declared.part.Part.{Part}
use Rattle.mx_mem.specs.declared.part.Part.TheVariants.{Byte, Wyde, Tetra, Octa}
use Rattle.mx_ring.proofs.Keeps.{window-is}
use Rattle.mx_ring.specs.Bounds.{IsRing}
use Rattle.mx_registers.specs.HiddenPart.{put_back}
use Rattle.mx_ring.specs.Notes.{RingWas, ring_noted, ring_noted_stored, ring_undone, hidden_undone}
use Rattle.mx_ring.specs.Stack.{Stack, windowed, register, in_stack_area}
use Rattle.mx_ring.specs.Window.{Window}
use Rattle.mx_ring.specs.declared.notes.RingWork.{RingWork}
use Rattle.mx_core.specs.Deeds.{Deed, deed_at, state_done}
use Rattle.mx_core.specs.Effects.{Store}
use Rattle.mx_code.specs.declared.instruction.Instruction.{Instruction}
use Rattle.mx_core.specs.Kept.{Kept, state_of}
use Rattle.mx_core.specs.Machines.{IsOverWindow}
use Rattle.mx_core.specs.Way.Noting.{place_of, work_noted, TellsWork, note_told, TellsDeed}
use Rattle.mx_core.specs.State.{State, is_negative}
use Rattle.mx_core.specs.Step.{Stepped, went, calls, stopped, fetched, after, step, store_touch}
use Rattle.mx_core.specs.Way.Stepping.{Foretells, told_write, step_answer}
use Rattle.mx_core.specs.Stops.{store_fault}
use Rattle.mx_core.specs.Undoing.{StateWas, whole, MayStore, TakesBack, IsPaged, noted, value_noted, move_noted, memory_noted}
use Rattle.mx_core.specs.Wild.{deed}
use Rattle.mx_code.specs.declared.reason.Reason.TheVariants.{Negative}
use Rattle.mx_core.specs.declared.sight.Sight.{Sight}
use Rattle.mx_core.specs.declared.step.Step.{Step}
use Rattle.mx_core.specs.declared.step.Step.TheVariants as answer
use Rattle.mx_code.specs.declared.trace.Touch.{Touch}
use Rattle.mx_code.specs.declared.trace.Trace.{Trace}
use Rattle.mx_core.proofs.Choices.{chosen, no-reason}
use Rattle.mx_core.proofs.Undone.Steps.{step-notes, deed-back}
use Rattle.mx_core.proofs.Spaces.Whole.{octawise}

pub paged : (k : Kept) → IsPaged (state_of k)
unfolding state_of
paged k = record { octawise = octawise k.memory; absent = absent-octa k.memory }

pub tells : (n : StateWas) (w : Window) (s : State) (d : Deed) (g : Sight) (work : Option RingWork) → Foretells s d g → TellsWork work d → n ≡ note_told w s g work → TellsDeed n w s d
tells n w s d g work f t e = record { sight = g; work = work; sees = f; works = t; is = e }

-- THE PLACE

-- what was written is what was told, or nothing
told-or : (z : Stack) (dest : Option ℕ) (reads writes : Option Touch) → (told_write z dest reads writes ≡ writes) ⊎ (told_write z dest reads writes ≡ None)
told-or z None reads writes = inl refl
told-or z (Some x) None writes = inl refl
told-or z (Some x) (Some read) None = inl refl
told-or z (Some x) (Some read) (Some place) = by (register z x == 1)
  where
    by : (b : Bool) → (cond b (Some place) None ≡ Some place) ⊎ (cond b (Some place) None ≡ None)
    by true = inl refl
    by false = inr refl

touch-below : (a : ℕ) (part : Part) → a < 2 ^ 63 → a / size_of part * size_of part < 2 ^ 63
touch-below a Byte f = omega (arith, f)
touch-below a Wyde f = omega (arith, f)
touch-below a Tetra f = omega (arith, f)
touch-below a Octa f = omega (arith, f)

touch-octa : (a : ℕ) (part : Part) → a / 8 ≡ a / size_of part * size_of part / 8
touch-octa a Byte = omega arith
touch-octa a Wyde = omega arith
touch-octa a Tetra = omega arith
touch-octa a Octa = omega arith

place-low : (t : Touch) → t.at < 2 ^ 63 → place_of (Some t) ≡ Some t.at
place-low t f = let low : nat_lt t.at (2 ^ 63) ≡ true = grind (arith, nat_tests) in ap (λ b. cond b (Some t.at) None) low

stored-place : (store : Store) → store_fault (Some store) ≡ None → MayStore (place_of (Some (store_touch store))) (Some store)
stored-place store e =
    let low : store.at < 2 ^ 63 = let f : is_negative store.at ≡ false = no-reason _ Negative e in grind (arith, nat_tests) in
    subst (λ p. MayStore p (Some store)) (sym (place-low (store_touch store) (touch-below store.at store.part low))) (touch-below store.at store.part low, touch-octa store.at store.part)

any-place : (writes : Option Touch) → MayStore (place_of writes) None
any-place None = tt
any-place (Some t) = by (nat_lt t.at (2 ^ 63)) refl
  where
    by : (b : Bool) → nat_lt t.at (2 ^ 63) ≡ b → MayStore (cond b (Some t.at) None) None
    by true e = grind (arith, nat_tests)
    by false e = tt

may-store : (writes told : Option Touch) (store : Option Store) → store_fault store ≡ None → (told ≡ writes) ⊎ (told ≡ None) → told ≡ option_map store_touch store → MayStore (place_of writes) store
may-store writes told None f o e = any-place writes
may-store writes told (Some store) f (inl a) e = subst (λ t. MayStore (place_of t) (Some store)) (sym e ∙ a) (stored-place store f)
may-store writes told (Some store) f (inr a) e = absurd (let none' : Some (store_touch store) ≡ None = sym e ∙ a in cc)

-- A STEP

note-is : (n : StateWas) (w : Window) (s : State) (d : Deed) (t : TellsDeed n w s d) → d.refused ≡ None → n ≡ noted w s d (place_of t.sight.writes)
unfolding noted
note-is n w s d t r =
    let place : Option ℕ = place_of t.sight.writes in
    let dest : t.sight.dest ≡ d.destination = ap (λ (g : Sight). g.dest) (t.sees r) in
    t.is ∙ ap (λ ring. whole (record { pc = s.pc; special = s.special; mark = s.mark; touched = s.touched; steps = s.steps; memory = memory_noted s place; ring = ring }))
    (t.works r (unwrap_or t.sight.dest 255) place w ∙ ap (λ (x : Option ℕ). move_noted d.effect.move (unwrap_or x 255) place w) dest)

went-is : (s t : State) (trace : Trace) (x : Stepped) → (answer.Went trace, t) ≡ step_answer s x → x ≡ went t trace
went-is s t trace (went u other) e =
    let a = ap (λ (p : Step × State). p.0) e in
    let b : t ≡ u = ap (λ (p : Step × State). p.1) e in
    cc
went-is s t trace (calls call) e = let a = ap (λ (p : Step × State). p.0) e in absurd (cc)
went-is s t trace (stopped reason) e = let a = ap (λ (p : Step × State). p.0) e in absurd (cc)

went-back : (n : StateWas) (w : Window) (s t : State) (trace : Trace) → IsOverWindow s → s.stack ≡ windowed w → IsPaged s → TellsDeed n w s (deed_at s (fetched s)) → (answer.Went trace, t) ≡ step_answer s (step s) → TakesBack n t s
went-back n w s t trace o e h d f =
    let same : w ≡ o.window = window-is w o.window (sym e ∙ o.machine.over) in
    let ring : IsRing w = subst IsRing (sym same) o.machine.ring in
    step-notes (λ u. TakesBack n u s) s t o.window trace o.machine o.octas.area (went-is s t trace (step s) f) (λ r q a.
    subst (λ m. TakesBack m (after s (deed s)) s) (sym (note-is n w s (deed s) d r))
    (deed-back s w a.window (deed s) _ e ring h
    (may-store d.sight.writes _ (deed s).effect.store q.low (told-or (state_done s (deed s)).stack d.sight.dest d.sight.reads d.sight.writes) (ap (λ (g : Sight). g.writes) (d.sees r))) q a.machine.over))

over-ring : (k : Kept) → (state_of k).stack ≡ windowed k.ring
unfolding state_of
over-ring k = refl

pub went-on : (n : StateWas) (k l m : Kept) (i : Instruction) (trace : Trace) → i ≡ fetched (state_of k) → IsOverWindow (state_of k) → IsPaged (state_of k) → TellsDeed n k.ring (state_of k) (deed_at (state_of k) i) →
    l ≡ k → (answer.Went trace, state_of m) ≡ step_answer (state_of l) (step (state_of l)) → TakesBack n (state_of m) (state_of k)
went-on n k l m i trace e o h d f a =
    went-back n k.ring (state_of k) (state_of m) trace o (over-ring k) h (subst (λ j. TellsDeed n k.ring (state_of k) (deed_at (state_of k) j)) e d)
    (a ∙ ap (λ x. step_answer (state_of x) (step (state_of x))) f)

-- WHAT IS SPILLED

value-spilled : (k : ℕ) (place : Option ℕ) (w : Window) → (value_noted k place w).spilled ≡ w.hidden.spilled
unfolding ring_noted ring_noted_stored
value-spilled k None w = refl
value-spilled k (Some a) w = chosen (λ (n : RingWas). n.spilled ≡ w.hidden.spilled) (in_stack_area a) _ _ refl refl

pub noted_spilled : (work : Option RingWork) (k : ℕ) (place : Option ℕ) (w : Window) → (work_noted work k place w).spilled ≡ w.hidden.spilled
unfolding ring_noted
noted_spilled None k place w = value-spilled k place w
noted_spilled (Some work) k place w = refl

pub undone_spilled : (n : RingWas) (w : Window) → (ring_undone n w).hidden.spilled ≡ n.spilled
unfolding ring_undone hidden_undone put_back
undone_spilled n w = refl
