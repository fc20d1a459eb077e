-- A sight that is told before a deed is the deed's own.
use Rattle.std.proofs.Common.{◌≡◌, ◌<◌, ℕ, ◌==◌, ◌&&◌, Bool, true, false, cond, if◌then◌else◌, Option, None, Some, refl, sym, subst, ap, ◌∙◌, arith}
use Rattle.std.specs.Option.{option_map, is_some}
use Rattle.mx_mem.specs.Parts.{with_part}
use Rattle.mx_mem.specs.declared.part.Part.TheVariants.{Octa}
use Rattle.mx_registers.specs.Bounds.{AreInBounds}
use Rattle.mx_ring.specs.Bounds.{IsRing}
use Rattle.mx_ring.specs.Stack.{Stack, listed, windowed, visible, register, with_register, with_stack_octa, in_stack_area, stack_index}
use Rattle.mx_registers.proofs.Values.{with_value-bounds}
use Rattle.mx_code.specs.SpecialRegisters.{rP}
use Rattle.mx_alu.specs.declared.insertion.Kind.TheVariants.{Set}
use Rattle.mx_core.specs.Deeds.{Deed, deed_of, performed, applied, state_done}
use Rattle.mx_code.specs.LoadsAndStores.{touch}
use Rattle.mx_core.specs.Effects.{effect_of, data_address, x_register}
use Rattle.mx_code.specs.Instructions.{instruction, x_of}
use Rattle.mx_code.specs.declared.instruction.Instruction.{Instruction}
use Rattle.mx_core.specs.Kept.{Kept, state_of}
use Rattle.mx_core.specs.State.{State, octa, with_octa, with_local, with_value_in, special_register}
use Rattle.mx_core.specs.Step.{store_touch}
use Rattle.mx_core.specs.Way.Stepping.{Foretells, exchange_sight, is_exchange, is_swap, sight_of, told_write}
use Rattle.mx_code.specs.declared.operation.Operation.{Operation}
use Rattle.mx_code.specs.declared.operation.Operation.TheVariants as op
use Rattle.mx_core.specs.declared.sight.Sight.{Sight}
use Rattle.mx_code.specs.declared.trace.Touch.{Touch}
use Rattle.mx_core.proofs.Choices.{chosen}
use Rattle.mx_core.proofs.Results.Locals.{own-register, shown-set}
use Rattle.mx_core.proofs.Results.Outcomes.{address_kept}
use Rattle.mx_core.proofs.Results.Swaps.{exchange_effect, leave_effect}

-- WITHOUT AN EXCHANGE

-- where not both a read and a write are told, the registers tell no more
plain-write : (z : Stack) (d : Option ℕ) (r w : Option Touch) → (is_some r && is_some w) ≡ false → told_write z d r w ≡ w
plain-write z None r w e = refl
plain-write z (Some x) None w e = refl
plain-write z (Some x) (Some t) None e = refl
plain-write z (Some x) (Some t) (Some u) e = absurd (cc)

told-as : (s : State) (d : Deed) (g : Sight) → is_exchange g ≡ false → g ≡ sight_of d → Foretells s d g
told-as s d g a e = λ n. ap (λ (w : Option Touch). record g { writes = w }) (plain-write (state_done s d).stack g.dest g.reads g.writes a) ∙ e

-- CSWAP

-- an octa that is stored leaves the registers as they are
area-registers : (z : Stack) (i x k : ℕ) → register (with_stack_octa z i x) k ≡ register z k
unfolding with_stack_octa register
area-registers (listed r) i x k = refl
area-registers (windowed w) i x k = refl

same-registers : (s : State) (a x k : ℕ) → register (with_octa s a x).stack k ≡ register s.stack k
unfolding with_octa
same-registers s a x k = chosen (λ (t : State). register t.stack k ≡ register s.stack k) (in_stack_area a) _ _ (area-registers s.stack (stack_index a) x k) refl

one-tells : (n : ℕ) (p : Touch) → n ≡ 1 → (if n == 1 then Some p else None) ≡ Some p
one-tells n p e = rw e refl

zero-tells : (n : ℕ) (p : Touch) → n ≡ 0 → (if n == 1 then Some p else None) ≡ None
zero-tells n p e = rw e refl

exchange-tells : (t : State) (i : Instruction) (k a v : ℕ) (p : Touch) → AreInBounds (visible t.stack) → k < 256 →
    told_write (applied t i k (exchange_effect i a v)).stack (Some k) (Some p) (Some p) ≡ Some p
unfolding applied
exchange-tells t i k a v p b f =
    one-tells _ p (same-registers (with_value_in t k 1) a (with_part Octa (octa (with_value_in t k 1) a) a v) k ∙ own-register t.stack k 1 b f)

leave-tells : (t : State) (i : Instruction) (k a found : ℕ) (p : Touch) → AreInBounds (visible t.stack) → k < 256 →
    told_write (applied t i k (leave_effect i a found)).stack (Some k) (Some p) (Some p) ≡ None
unfolding applied
leave-tells t i k a found p b f = zero-tells _ p (own-register t.stack k 0 b f)

-- whether it writes or not
swap-tells : (t : State) (i : Instruction) (k a v found : ℕ) (b : Bool) → AreInBounds (visible t.stack) → k < 256 →
    ◌≡◌ {A = Sight}
    (record {
      dest = Some k;
      reads = Some (touch a Octa);
      writes = told_write (applied t i k (cond b (exchange_effect i a v) (leave_effect i a found))).stack (Some k) (Some (touch a Octa)) (Some (touch a Octa));
    })
    (record {
      dest = Some k;
      reads = (cond b (exchange_effect i a v) (leave_effect i a found)).load;
      writes = option_map store_touch (cond b (exchange_effect i a v) (leave_effect i a found)).store;
    })
swap-tells t i k a v found true b f = ap {B = Sight} (λ (w : Option Touch). record { dest = Some k; reads = Some (touch a Octa); writes = w }) (exchange-tells t i k a v (touch a Octa) b f)
swap-tells t i k a v found false b f = ap {B = Sight} (λ (w : Option Touch). record { dest = Some k; reads = Some (touch a Octa); writes = w }) (leave-tells t i k a found (touch a Octa) b f)

bounds-kept : (z : Stack) (k x : ℕ) → AreInBounds (visible z) → AreInBounds (visible (with_register z k x))
bounds-kept z k x b = subst AreInBounds (sym (shown-set z k x)) (with_value-bounds (visible z) k x b)

swap-foretold : (s : State) (i : Instruction) → AreInBounds (visible s.stack) → Foretells s (deed_of op.CompareAndSwap s i) (exchange_sight s i)
unfolding effect_of
swap-foretold s i b = λ n.
    let k = x_of i in
    let t = with_local s k in
    let a = data_address t i in
    let found = octa t a in
    let below : k < 256 = omega arith in
    let same = found == special_register t rP in
    ap {B = Sight} (λ c. record { dest = Some k; reads = Some (touch c Octa); writes = told_write (applied t i k (effect_of op.CompareAndSwap t i)).stack (Some k) (Some (touch c Octa)) (Some (touch c Octa)) }) (sym (address_kept s i k))
    ∙ swap-tells t i k a (x_register t i) found same (bounds-kept s.stack k (register s.stack k) b) below

-- FOR THE CODE

pub ring_bounds : (k : Kept) → IsRing k.ring → AreInBounds (visible (state_of k).stack)
unfolding state_of
ring_bounds k r = r.registers

pub foretold : (o : Operation) (s : State) (i : Instruction) (g : Sight) → AreInBounds (visible s.stack) → (is_swap o ≡ false → g ≡ sight_of (deed_of o s i)) → (is_swap o ≡ false → is_exchange g ≡ false) → (is_swap o ≡ true → g ≡ exchange_sight s i) → Foretells s (deed_of o s i) g
foretold op.CompareAndSwap s i g b p q r = subst (Foretells s (deed_of op.CompareAndSwap s i)) (sym (r refl)) (swap-foretold s i b)
foretold o s i g b p q r = told-as s (deed_of o s i) g (q refl) (p refl)

abbrev pub no_sight : Option ℕ → Sight
no_sight dest = record { dest = dest; reads = None; writes = None }

pub set_foretold : (s : State) (at word : ℕ) → Foretells s (performed Set s at word) (no_sight (Some (x_of (instruction at word))))
set_foretold s at word = λ n. refl
