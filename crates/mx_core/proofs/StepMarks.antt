-- The mark is left by all that a step does but what moves frames.
use Rattle.std.proofs.Common.{◌≡◌, ℕ, Bool, true, false, cond, List, [], ◌∷◌, Option, None, Some, refl, ◌∙◌}
use Rattle.mx_ring.specs.Stack.{in_stack_area}
use Rattle.mx_core.specs.Deeds.{with_result, with_store, with_specials, moved, tripped, trip_specials, applied, with_destination}
use Rattle.mx_core.specs.Effects.{Effect, Store, Move, Tripping, stays, pushes, pops, saves, unsaves, cuts, moves_globals, moves_frames}
use Rattle.mx_code.specs.declared.instruction.Instruction.{Instruction}
use Rattle.mx_code.specs.Operations.{has_destination}
use Rattle.mx_core.specs.State.{State, with_special, with_octa}
use Rattle.mx_code.specs.declared.operation.Operation.{Operation}

chosen : (b : Bool) (s t : State) (n : ℕ) → s.mark ≡ n → t.mark ≡ n → (cond b s t).mark ≡ n
chosen true s t n h k = h
chosen false s t n h k = k

octa-mark : (s : State) (a x : ℕ) → (with_octa s a x).mark ≡ s.mark
unfolding with_octa
octa-mark s a x = chosen (in_stack_area a) _ _ s.mark refl refl

result-mark : (s : State) (k : ℕ) (o : Option ℕ) → (with_result s k o).mark ≡ s.mark
result-mark s k None = refl
result-mark s k (Some value) = refl

store-mark : (s : State) (o : Option Store) → (with_store s o).mark ≡ s.mark
store-mark s None = refl
store-mark s (Some store) = octa-mark s store.at _

specials-mark : (s : State) (more : List (ℕ × ℕ)) → (with_specials s more).mark ≡ s.mark
specials-mark s [] = refl
specials-mark s ((code, value) ∷ more) = specials-mark (with_special s code value) more

moved-mark : (s : State) (move : Move) → moves_frames move ≡ false → (moved s move).mark ≡ s.mark
moved-mark s stays h = refl
moved-mark s (pushes x) h = refl
moved-mark s (pops x) h = absurd (cc h)
moved-mark s (saves x specials) h = absurd (cc h)
moved-mark s (unsaves i) h = absurd (cc h)
moved-mark s (cuts l) h = refl
moved-mark s (moves_globals g) h = refl

tripped-mark : (s : State) (i : Instruction) (o : Option Tripping) → (tripped s i o).mark ≡ s.mark
tripped-mark s i None = refl
tripped-mark s i (Some t) = specials-mark s (trip_specials s i t)

pub applied-mark : (s : State) (i : Instruction) (k : ℕ) (e : Effect) → moves_frames e.move ≡ false → (applied s i k e).mark ≡ s.mark
unfolding applied
applied-mark s i k e h =
    let first : State = with_result s k e.result in
    let second : State = with_store first e.store in
    let third : State = with_specials second e.special in
    let fourth : State = moved third e.move in
    tripped-mark fourth i e.trip ∙ moved-mark third e.move h ∙ specials-mark second e.special ∙ store-mark first e.store ∙ result-mark s k e.result

pub destination-mark : (operation : Operation) (s : State) (i : Instruction) → (with_destination operation s i).mark ≡ s.mark
destination-mark operation s i = chosen (has_destination operation) _ _ s.mark refl refl
