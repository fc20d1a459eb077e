-- A step is wild over one register stack exactly where it is wild over the other.
use Rattle.std.proofs.Common.{◌≡◌, ◌==◌, ◌&&◌, ◌||◌, not, Bool, true, false, Option, refl, sym, ◌∙◌, ap}
use Rattle.mx_ring.specs.Stack.{Stack, listed, windowed, as_listed, register}
use Rattle.mx_ring.specs.Window.{Window, as_list}
use Rattle.mx_alu.specs.declared.insertion.Insert.{Insert}
use Rattle.mx_alu.specs.declared.insertion.Insert.TheVariants as insert
use Rattle.mx_alu.specs.declared.insertion.Kind.TheVariants.{Again, Continue, Set}
use Rattle.mx_core.specs.Bounds.{IsMachine, as_list_state}
use Rattle.mx_core.specs.Deeds.{deed_for, deed_of, given_instruction, inserted, resumed, with_destination, looks_at_stack, loads_in_segment, stores_in_segment, is_absent}
use Rattle.mx_core.specs.Effects.{Effect, Store, effect_of, data_address}
use Rattle.mx_code.specs.Instructions.{instruction, operation_in, xyz_of}
use Rattle.mx_code.specs.declared.instruction.Instruction.{Instruction}
use Rattle.mx_word.specs.Segments.{is_in_stack_segment}
use Rattle.mx_core.specs.State.{State, special_register, octa, is_negative}
use Rattle.mx_core.specs.Step.{fetched}
use Rattle.mx_core.specs.Stops.{form_fault}
use Rattle.mx_core.specs.Wild.{deed, is_wild}
use Rattle.mx_code.specs.declared.operation.Operation.{Operation}
use Rattle.mx_code.specs.declared.operation.Operation.TheVariants as op
use Rattle.mx_code.specs.declared.reason.Reason.{Reason}
use Rattle.mx_code.specs.declared.trace.Touch.{Touch}
use Rattle.mx_core.proofs.Kept.Destinations.{destination-listed}
use Rattle.mx_core.proofs.Same.Quiet.{effect-here, looks-listed}
use Rattle.mx_core.proofs.Kept.Rings.{IsRinged}
use Rattle.mx_core.proofs.Same.Effects.{swap-load}
use Rattle.mx_core.proofs.Same.Refusals.{same-form}
use Rattle.mx_core.proofs.Same.Steps.{insertion-in, same-insertion, same-given, same-fetched, resumed-if, sound-of}
use Rattle.mx_core.proofs.Same.Seen.{over}

-- both load at the same addresses
same-load : (operation : Operation) (s : State) (z : Stack) (i : Instruction) → (effect_of operation (over s (as_listed z)) i).load ≡ (effect_of operation (over s z) i).load
unfolding as_list register special_register effect_of
same-load op.CompareAndSwap s (windowed w) i =
    let p : State = over s (windowed w) in
    let q : State = over s (as_listed (windowed w)) in
    swap-load q i (data_address q i) (octa q (data_address q i)) ∙ sym (swap-load p i (data_address p i) (octa p (data_address p i)))
same-load operation s (windowed w) i = refl
same-load operation s (listed r) i = refl

load-here : (operation : Operation) (s : State) (i : Instruction) → IsRinged s.stack → (effect_of operation (with_destination operation (as_list_state s) i) i).load ≡ (effect_of operation (with_destination operation s i) i).load
load-here operation s i r =
    ap (λ (u : State). (effect_of operation u i).load) (destination-listed operation s i r) ∙ same-load operation (with_destination operation s i) (with_destination operation s i).stack i

store-here : (operation : Operation) (s : State) (i : Instruction) → IsRinged s.stack → looks_at_stack operation s i ≡ false → loads_in_segment (effect_of operation (with_destination operation s i) i).load ≡ false → (effect_of operation (with_destination operation (as_list_state s) i) i).store ≡ (effect_of operation (with_destination operation s i) i).store
unfolding effect_of
store-here op.Unsave s i r l m = refl
store-here operation s i r l m = ap (λ (e : Effect). e.store) (effect-here operation s i r l m tt)

-- where the one looks or loads, it does not matter what is stored
by-parts : (a l m : Bool) (x y : Option Store) → (l ≡ false → m ≡ false → x ≡ y) → (a && (l || m || stores_in_segment x)) ≡ (a && (l || m || stores_in_segment y))
by-parts a true m x y h = refl
by-parts a false true x y h = refl
by-parts a false false x y h = ap (λ (s : Option Store). a && stores_in_segment s) (h refl refl)

wild-listed : (operation : Operation) (s : State) (i : Instruction) → IsRinged s.stack → (deed_of operation (as_list_state s) i).is_wild ≡ (deed_of operation s i).is_wild
wild-listed operation s i r =
    let e : Effect = effect_of operation (with_destination operation s i) i in
    let c : Effect = effect_of operation (with_destination operation (as_list_state s) i) i in
    ap (λ (x : Option Reason). is_absent x && (looks_at_stack operation (as_list_state s) i || loads_in_segment c.load || stores_in_segment c.store)) (same-form operation s s.stack i) ∙ ap (λ b. is_absent (form_fault operation s i) && (b || loads_in_segment c.load || stores_in_segment c.store)) (looks-listed operation s i) ∙ ap (λ (x : Option Touch). is_absent (form_fault operation s i) && (looks_at_stack operation s i || loads_in_segment x || stores_in_segment c.store)) (load-here operation s i r) ∙ by-parts (is_absent (form_fault operation s i)) (looks_at_stack operation s i) (loads_in_segment e.load) c.store e.store (λ l m. store-here operation s i r l m)

inserted-wild : (s : State) (i : Instruction) (ins : Insert) → IsRinged s.stack → (inserted (as_list_state s) i ins).is_wild ≡ (inserted s i ins).is_wild
inserted-wild s i (insert.Back address) r = refl
inserted-wild s i (insert.Perform Again at word) r = wild-listed (operation_in (instruction at word)) s (instruction at word) r
inserted-wild s i (insert.Perform Continue at word) r =
    let operation : Operation = operation_in (instruction at word) in
    ap (λ (j : Instruction). (deed_of operation (as_list_state s) j).is_wild) (same-given s at word) ∙ wild-listed operation s (given_instruction s at word) r
inserted-wild s i (insert.Perform Set at word) r = refl
inserted-wild s i insert.Illegal r = refl
inserted-wild s i insert.LeftOut r = refl

if-wild : (b : Bool) (s : State) (i : Instruction) (ins : Insert) → IsRinged s.stack → (resumed-if b (as_list_state s) i ins).is_wild ≡ (resumed-if b s i ins).is_wild
if-wild true s i ins r = refl
if-wild false s i ins r = inserted-wild s i ins r

resumed-wild : (s : State) (i : Instruction) → IsRinged s.stack → (resumed (as_list_state s) i).is_wild ≡ (resumed s i).is_wild
resumed-wild s i r =
    ap (λ (ins : Insert). (resumed-if (not (xyz_of i == 0)) (as_list_state s) i ins).is_wild) (same-insertion s) ∙ if-wild (not (xyz_of i == 0)) s i (insertion-in s) r

for-wild : (operation : Operation) (s : State) (i : Instruction) → IsRinged s.stack → (deed_for operation (as_list_state s) i).is_wild ≡ (deed_for operation s i).is_wild
for-wild op.Resume s i r = resumed-wild s i r
for-wild operation s i r = wild-listed operation s i r

deed-wild : (s : State) → IsRinged s.stack → is_in_stack_segment s.pc ≡ false → (deed (as_list_state s)).is_wild ≡ (deed s).is_wild
deed-wild s r o =
    ap (λ (i : Instruction). (deed_for (operation_in i) (as_list_state s) i).is_wild) (same-fetched s o) ∙ for-wild (operation_in (fetched s)) s (fetched s) r

by-segment : (n g x y : Bool) → (g ≡ false → x ≡ y) → (not n && (g || x)) ≡ (not n && (g || y))
by-segment n true x y h = refl
by-segment n false x y h = ap (λ b. not n && b) (h refl)

pub same-wild : (s : State) (w : Window) → IsMachine s w → is_wild (as_list_state s) ≡ is_wild s
same-wild s w m = by-segment (is_negative s.pc) (is_in_stack_segment s.pc) (deed (as_list_state s)).is_wild (deed s).is_wild (λ o. deed-wild s (sound-of s w m).ring o)
