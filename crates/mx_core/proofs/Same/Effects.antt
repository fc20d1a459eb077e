-- An effect that does not look at rS or at the memory of the register stack is the same over both register stacks.
use Rattle.std.proofs.Common.{◌≡◌, ℕ, ◌*◌, ◌/◌, ◌==◌, Bool, true, false, cond, Some, [], ◌∷◌, arith, refl, sym, ◌∙◌, ap}
use Rattle.std.proofs.lemmas.Bool.Decides.{nat_tests}
use Rattle.mx_mem.specs.Parts.{size_of}
use Rattle.mx_mem.specs.declared.part.Part.{Part}
use Rattle.mx_mem.specs.declared.part.Part.TheVariants.{Byte, Wyde, Tetra, Octa}
use Rattle.mx_ring.specs.Stack.{Stack, listed, windowed, as_listed, register, in_stack_area, stack_index, unsaved_specials}
use Rattle.mx_ring.specs.Window.{as_list}
use Rattle.mx_ring.specs.declared.saved.Saved.{Saved}
use Rattle.mx_code.specs.SpecialRegisters.{rP}
use Rattle.mx_core.specs.Deeds.{loads_in_segment, looks_at_stack}
use Rattle.mx_code.specs.LoadsAndStores.{loaded_part, loaded_value, touch}
use Rattle.mx_core.specs.Effects.{Effect, effect_of, giving, loading_from, swapped, data_address, z_operand, stored_in, x_register, going_on, specials_back, unsaves}
use Rattle.mx_code.specs.Instructions.{z_of}
use Rattle.mx_code.specs.declared.instruction.Instruction.{Instruction}
use Rattle.mx_word.specs.Segments.{is_in_stack_segment}
use Rattle.mx_core.specs.State.{State, special_register, octa}
use Rattle.mx_code.specs.declared.operation.Operation.{Operation}
use Rattle.mx_code.specs.declared.operation.Operation.TheVariants as op
use Rattle.mx_core.proofs.Same.Seen.{over, same-special, same-octa}

-- ADDRESSES

-- the stack area lies in Stack_Segment
pub outside-area : (a : ℕ) → is_in_stack_segment a ≡ false → in_stack_area a ≡ false
outside-area a e = grind (arith, nat_tests)

-- the part that holds an address of the stack area begins in Stack_Segment
in-segment : (a : ℕ) (part : Part) → in_stack_area a ≡ true → is_in_stack_segment (a / size_of part * size_of part) ≡ true
in-segment a Byte e = grind (arith, nat_tests)
in-segment a Wyde e = grind (arith, nat_tests)
in-segment a Tetra e = grind (arith, nat_tests)
in-segment a Octa e = grind (arith, nat_tests)

not-both : (a b : Bool) → (a ≡ true → b ≡ true) → b ≡ false → a ≡ false
not-both true b h e = absurd (let t = h refl in cc)
not-both false b h e = refl

pub outside-touch : (a : ℕ) (part : Part) → loads_in_segment (Some (touch a part)) ≡ false → in_stack_area a ≡ false
outside-touch a part e = not-both (in_stack_area a) (is_in_stack_segment (touch a part).at) (in-segment a part) e

-- EFFECTS

-- UNSAVE reads a frame that is the same in both
abbrev pub ReadsFrame : Operation → State → Stack → Instruction → Type 0
ReadsFrame op.Unsave s z i = unsaved_specials (as_listed z) (stack_index (z_operand (over s z) i)) ≡ unsaved_specials z (stack_index (z_operand (over s z) i))
ReadsFrame operation s z i = Unit {0}

pub swap-load : (s : State) (i : Instruction) (a found : ℕ) → (swapped s i a found).load ≡ Some (touch a Octa)
swap-load s i a found = by-test (found == special_register s rP) (record (loading_from i a Octa 1) { store = Some (stored_in a Octa (x_register s i)) }) (record (loading_from i a Octa 0) { special = (rP, found) ∷ [] }) refl refl
  where
    by-test : (b : Bool) (e f : Effect) → e.load ≡ Some (touch a Octa) → f.load ≡ Some (touch a Octa) → (cond b e f).load ≡ Some (touch a Octa)
    by-test true e f p q = p
    by-test false e f p q = q

pub same-effect : (operation : Operation) (s : State) (z : Stack) (i : Instruction) → looks_at_stack operation (over s z) i ≡ false → loads_in_segment (effect_of operation (over s z) i).load ≡ false → ReadsFrame operation s z i → effect_of operation (over s (as_listed z)) i ≡ effect_of operation (over s z) i
unfolding as_list register special_register effect_of
same-effect op.Compute s (windowed w) i l m f = refl
same-effect op.Negate s (windowed w) i l m f = refl
same-effect op.Wyde s (windowed w) i l m f = refl
same-effect op.Branch s (windowed w) i l m f = refl
same-effect op.ConditionalSet s (windowed w) i l m f = refl
same-effect op.ZeroOrSet s (windowed w) i l m f = refl
same-effect (op.Load how) s (windowed w) i l m f =
    let a : ℕ = data_address (over s (windowed w)) i in
    ap (λ x. loading_from i a (loaded_part how) (loaded_value how x a)) (same-octa s (windowed w) a (outside-touch a (loaded_part how) m))
same-effect (op.Store how) s (windowed w) i l m f = refl
same-effect op.CompareAndSwap s (windowed w) i l m f =
    let p : State = over s (windowed w) in
    let a : ℕ = data_address p i in
    let load : (swapped p i a (octa p a)).load ≡ Some (touch a Octa) = swap-load p i a (octa p a) in
    ap (λ x. swapped p i a x) (same-octa s (windowed w) a (outside-touch a Octa (sym (ap loads_in_segment load) ∙ m)))
same-effect op.Address s (windowed w) i l m f = refl
same-effect op.Jump s (windowed w) i l m f = refl
same-effect op.Go s (windowed w) i l m f = refl
same-effect op.PushJump s (windowed w) i l m f = refl
same-effect op.PushGo s (windowed w) i l m f = refl
same-effect op.Pop s (windowed w) i l m f = refl
same-effect op.Save s (windowed w) i l m f = refl
same-effect op.Unsave s (windowed w) i l m f =
    ap (λ (x : Saved). record (going_on i) { special = specials_back x; move = unsaves (stack_index (z_operand (over s (windowed w)) i)) }) f
same-effect op.Get s (windowed w) i l m f = ap (λ x. giving i x) (same-special s (windowed w) (z_of i) l)
same-effect op.Put s (windowed w) i l m f = refl
same-effect op.Trip s (windowed w) i l m f = refl
same-effect op.Nothing s (windowed w) i l m f = refl
same-effect op.Synchronize s (windowed w) i l m f = refl
same-effect op.Float s (windowed w) i l m f = refl
same-effect op.Privileged s (windowed w) i l m f = refl
same-effect op.Trap s (windowed w) i l m f = refl
same-effect op.Resume s (windowed w) i l m f = refl
same-effect operation s (listed r) i l m f = refl
