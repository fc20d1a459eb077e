-- What an instruction comes to does not depend on the machine's own address, which each deed sets anew, nor on the count of
-- steps, which each deed raises by one.
use Rattle.std.proofs.Common.{◌≡◌, ◌≢◌, ◌<◌, ℕ, ◌+◌, ◌*◌, ◌/◌, ◌%◌, ◌^◌, ◌==◌, ◌||◌, Bool, true, false, cond, arith, List, [], ◌∷◌, Option, None, Some, Result, Ok, Err, refl, sym, ap, ◌∙◌}
use Rattle.std.proofs.lemmas.Bool.Decides.{nat_tests}
use Rattle.std.specs.Option.{unwrap_or}
use Rattle.mx_mem.specs.Memory.{stored_at}
use Rattle.mx_word.specs.Octas.{with_page}
use Rattle.mx_ring.specs.Stack.{Stack, in_stack_area, stack_index, with_stack_octa}
use Rattle.mx_code.specs.Instructions.{operation_in, x_of, z_of}
use Rattle.mx_code.specs.Operations.{has_destination}
use Rattle.mx_code.specs.SpecialRegisters.{rC}
use Rattle.mx_code.specs.declared.instruction.Instruction.{Instruction}
use Rattle.mx_code.specs.declared.operation.Operation.{Operation}
use Rattle.mx_code.specs.declared.operation.Operation.TheVariants as op
use Rattle.mx_code.specs.declared.reason.Reason.{Reason}
use Rattle.mx_core.specs.Deeds.{applied, address_after, deed_at, deed_for, deed_of, deed_with, moved, onward, outcome, tripped, unless_refused, wild_effect, with_destination, with_result, with_specials, with_store}
use Rattle.mx_core.specs.Effects.{Effect, Store, Tripping, Move, stays, pushes, pops, saves, unsaves, cuts, moves_globals, effect_of, giving}
use Rattle.mx_core.specs.State.{State, octa, special_register, with_local, with_octa, with_special}
use Rattle.mx_core.specs.Step.{fetched, step}
use Rattle.mx_core.specs.Stops.{form_fault, page_fault, refusal, stack_fault, trip_fault}
use Rattle.mx_core.specs.Way.Calls.{Left, left}
use Rattle.mx_core.specs.Way.KeptPage.{ReadsNoCount, placed}
use Rattle.mx_core.specs.Way.Stepping.{advanced}
use Rattle.mx_core.specs.declared.step.Advance.TheVariants as advance
use Rattle.mx_core.proofs.UsualSteps.{went_usual}

-- STAGES

chosen : (b : Bool) (s t : State) (p n : ℕ) → cond b (placed s p n) (placed t p n) ≡ placed (cond b s t) p n
chosen true s t p n = refl
chosen false s t p n = refl

abbrev in_stack : State → ℕ → ℕ → State
in_stack s a x = record s { stack = with_stack_octa s.stack (stack_index a) x }

abbrev on_page : State → ℕ → ℕ → State
on_page s a x = record s {
  octas = stored_at s.octas a x;
  pages = with_page s.pages (a / 4096);
  page_count = cond (s.pages (a / 4096)) s.page_count (s.page_count + 1);
}

octa-placed : (s : State) (p n a x : ℕ) → with_octa (placed s p n) a x ≡ placed (with_octa s a x) p n
unfolding with_octa
octa-placed s p n a x = chosen (in_stack_area a) (in_stack s a x) (on_page s a x) p n

result-placed : (s : State) (p n k : ℕ) (o : Option ℕ) → with_result (placed s p n) k o ≡ placed (with_result s k o) p n
result-placed s p n k None = refl
result-placed s p n k (Some value) = refl

store-placed : (s : State) (p n : ℕ) (o : Option Store) → with_store (placed s p n) o ≡ placed (with_store s o) p n
unfolding octa
store-placed s p n None = refl
store-placed s p n (Some store) = octa-placed s p n store.at _

specials-placed : (s : State) (p n : ℕ) (more : List (ℕ × ℕ)) → with_specials (placed s p n) more ≡ placed (with_specials s more) p n
specials-placed s p n [] = refl
specials-placed s p n ((code, value) ∷ more) = specials-placed (with_special s code value) p n more

moved-placed : (s : State) (p n : ℕ) (move : Move) → moved (placed s p n) move ≡ placed (moved s move) p n
moved-placed s p n stays = refl
moved-placed s p n (pushes x) = refl
moved-placed s p n (pops x) = refl
moved-placed s p n (saves x specials) = refl
moved-placed s p n (unsaves i) = refl
moved-placed s p n (cuts l) = refl
moved-placed s p n (moves_globals g) = refl

tripped-placed : (s : State) (p n : ℕ) (i : Instruction) (o : Option Tripping) → tripped (placed s p n) i o ≡ placed (tripped s i o) p n
unfolding special_register
tripped-placed s p n i None = refl
tripped-placed s p n i (Some t) = refl

-- a state after one step more than a count
abbrev counted : ℕ → State → State
counted n s = record s { steps = (n + 1) % 2 ^ 64 }

applied-placed : (s : State) (p n : ℕ) (i : Instruction) (k : ℕ) (e : Effect) → applied (placed s p n) i k e ≡ counted n (applied s i k e)
unfolding applied
applied-placed s p n i k e =
    let first : State = with_result s k e.result in
    let second : State = with_store first e.store in
    let third : State = with_specials second e.special in
    let fourth : State = moved third e.move in
    ap (λ (u : State). onward u (address_after e e.trip))
    (ap (λ (u : State). tripped (moved (with_specials (with_store u e.store) e.special) e.move) i e.trip) (result-placed s p n k e.result)
    ∙ ap (λ (u : State). tripped (moved (with_specials u e.special) e.move) i e.trip) (store-placed first p n e.store)
    ∙ ap (λ (u : State). tripped (moved u e.move) i e.trip) (specials-placed second p n e.special)
    ∙ ap (λ (u : State). tripped u i e.trip) (moved-placed third p n e.move)
    ∙ tripped-placed fourth p n i e.trip)

-- DEEDS

-- no special register but rC counts steps
special-placed : (s : State) (p n code : ℕ) → code ≢ rC → special_register (placed s p n) code ≡ special_register s code
unfolding special_register
special-placed s p n code other =
    let no : (code == rC) ≡ false = grind (arith, nat_tests) in
    rw no refl

effect-placed : (o : Operation) (s : State) (p n : ℕ) (i : Instruction) → (o ≡ op.Get → z_of i ≢ rC) → effect_of o (placed s p n) i ≡ effect_of o s i
unfolding effect_of special_register octa
effect-placed op.Get s p n i other = ap (giving i) (special-placed s p n (z_of i) (other refl))
effect-placed o s p n i other = refl

form-placed : (o : Operation) (s : State) (p n : ℕ) (i : Instruction) → form_fault o (placed s p n) i ≡ form_fault o s i
unfolding form_fault
form-placed op.Compute s p n i = refl
form-placed o s p n i = refl

stack-placed : (o : Operation) (s : State) (p n : ℕ) (i : Instruction) → stack_fault o (placed s p n) i ≡ stack_fault o s i
unfolding stack_fault
stack-placed op.Compute s p n i = refl
stack-placed o s p n i = refl

trip-placed : (s : State) (p n : ℕ) (o : Option Tripping) → trip_fault (placed s p n) o ≡ trip_fault s o
unfolding octa
trip-placed s p n None = refl
trip-placed s p n (Some t) = refl

page-placed : (s : State) (p n : ℕ) (o : Option Store) → page_fault (placed s p n) o ≡ page_fault s o
page-placed s p n None = refl
page-placed s p n (Some store) = refl

refusal-placed : (o : Operation) (s : State) (p n : ℕ) (i : Instruction) (e : Effect) → refusal o (placed s p n) i e ≡ refusal o s i e
refusal-placed o s p n i e = rw (form-placed o s p n i, stack-placed o s p n i, trip-placed s p n e.trip, page-placed s p n e.store) refl

wild-placed : (o : Operation) (s : State) (p n : ℕ) (i : Instruction) (e : Effect) → wild_effect o (placed s p n) i e ≡ wild_effect o s i e
unfolding form_fault
wild-placed op.Compute s p n i e = refl
wild-placed o s p n i e = refl

-- what a deed comes to, of its parts
abbrev done : State → Option Reason → State → Bool → Result State Reason
done s refused t wild = unless_refused refused (record t { touched = s.touched || wild })

-- what is made, after one step more than a count
abbrev recounted : ℕ → Result State Reason → Result State Reason
recounted n (Ok t) = Ok (counted n t)
recounted n (Err reason) = Err reason

done-counted : (s t : State) (n : ℕ) (refused : Option Reason) (wild : Bool) → done s refused (counted n t) wild ≡ recounted n (done s refused t wild)
done-counted s t n None wild = refl
done-counted s t n (Some reason) wild = refl

of-placed : (o : Operation) (s : State) (p n : ℕ) (i : Instruction) → (o ≡ op.Get → z_of i ≢ rC) → outcome (placed s p n) (deed_of o (placed s p n) i) ≡ recounted n (outcome s (deed_of o s i))
of-placed o s p n i other =
    let here : State = with_destination o s i in
    let e : Effect = effect_of o here i in
    let k : ℕ = unwrap_or (deed_of o s i).destination 0 in
    ap (λ (h : State). outcome (placed s p n) (deed_with o (placed s p n) i h (effect_of o h i))) (chosen (has_destination o) (with_local s (x_of i)) s p n)
    ∙ ap (λ (f : Effect). outcome (placed s p n) (deed_with o (placed s p n) i (placed here p n) f)) (effect-placed o here p n i other)
    ∙ ap (λ (r : Option Reason). done s r (applied (placed here p n) i k e) (wild_effect o (placed s p n) i e)) (refusal-placed o s p n i e)
    ∙ ap (λ (t : State). done s (refusal o s i e) t (wild_effect o (placed s p n) i e)) (applied-placed here p n i k e)
    ∙ ap (done s (refusal o s i e) (counted n (applied here i k e))) (wild-placed o s p n i e)
    ∙ done-counted s (applied here i k e) n (refusal o s i e) (wild_effect o s i e)

for-placed : (o : Operation) (s : State) (p n : ℕ) (i : Instruction) → o ≢ op.Resume → (o ≡ op.Get → z_of i ≢ rC) → outcome (placed s p n) (deed_for o (placed s p n) i) ≡ recounted n (outcome s (deed_for o s i))
for-placed op.Resume s p n i none other = absurd (none refl)
for-placed o s p n i none other = of-placed o s p n i other

-- A STEP

-- what is made is made after one step more, whatever state is named where something is refused
made-of : (s t u : State) (n : ℕ) (r : Result State Reason) → (Ok tt, u) ≡ left s r → (Ok tt, counted n u) ≡ left t (recounted n r)
made-of s t u n (Ok v) e = ap (λ (p : Left). (Ok tt, counted n p.1)) e
made-of s t u n (Err reason) e = let f = ap (λ (p : Left). p.0) e in absurd (cc)

-- the step at an address after so many steps, where its instruction is made of a machine that is still placed elsewhere
pub went-placed : (s u : State) (p n a : ℕ) (i : Instruction) → i ≡ fetched (placed s p n) → p < 0x6000_0000_0000_0000 → a % 4 ≡ 0 → ReadsNoCount i → (Ok tt, onward u a) ≡ left s (outcome s (deed_at s i)) →
    (advance.Went, placed u a ((n + 1) % 2 ^ 64)) ≡ advanced (placed s p n) (step (placed s p n))
went-placed s u p n a i f l whole none e =
    let aligned : a / 4 * 4 ≡ a = omega arith in
    let at : counted n (onward u a) ≡ placed u a ((n + 1) % 2 ^ 64) = ap (λ b. placed u b ((n + 1) % 2 ^ 64)) aligned in
    let made = made-of s (placed s p n) (onward u a) n (outcome s (deed_at s i)) e ∙ ap (left (placed s p n)) (sym (for-placed (operation_in i) s p n i none.0 none.1)) in
    went_usual (placed s p n) (placed u a ((n + 1) % 2 ^ 64)) i f l (ap (λ (t : State). (Ok tt, t)) (sym at) ∙ made)
