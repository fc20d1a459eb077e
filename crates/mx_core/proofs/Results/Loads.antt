-- What loads come to, below Stack_Segment and in it.
use Rattle.std.proofs.Common.{◌≡◌, ◌<◌, ◌≤◌, ℕ, ◌*◌, ◌/◌, ◌%◌, ◌^◌, ◌&&◌, ◌||◌, Bool, true, false, nat_lt, nat_le, if◌then◌else◌, None, Result, Ok, Err, refl, sym, ap, ◌∙◌, arith}
use Rattle.std.proofs.lemmas.Bool.Decides.{nat_tests}
use Rattle.mx_mem.specs.Parts.{size_of}
use Rattle.mx_mem.specs.declared.part.Part.{Part}
use Rattle.mx_mem.specs.declared.part.Part.TheVariants.{Byte, Wyde, Tetra, Octa}
use Rattle.mx_ring.specs.Stack.{register, set_overfills, in_stack_area}
use Rattle.mx_core.specs.Way.Calls.{unless, settled}
use Rattle.mx_core.specs.Deeds.{applied, onward, outcome, deed_of, unless_refused}
use Rattle.mx_code.specs.LoadsAndStores.{loaded_part, loaded_value, touch}
use Rattle.mx_core.specs.Effects.{effect_of, data_address, loading_from}
use Rattle.mx_code.specs.Instructions.{x_of, next_of}
use Rattle.mx_code.specs.declared.instruction.Instruction.{Instruction}
use Rattle.mx_word.specs.Segments.{is_in_stack_segment}
use Rattle.mx_core.specs.State.{State, octa, with_value_in, with_local, is_negative}
use Rattle.mx_core.specs.Stops.{reason_where, first_reason, form_fault, stack_fault}
use Rattle.mx_code.specs.declared.operation.Loading.{Loading}
use Rattle.mx_code.specs.declared.operation.Operation.TheVariants as op
use Rattle.mx_code.specs.declared.reason.Reason.{Reason}
use Rattle.mx_code.specs.declared.reason.Reason.TheVariants.{StackFull, Negative}
use Rattle.mx_core.proofs.Results.Events.{from_effect}
use Rattle.mx_core.specs.Traps.{with_touch}
use Rattle.mx_core.proofs.Results.Locals.{stack-fits}
use Rattle.mx_core.proofs.Results.Outcomes.{or-false, same-touched, result-twice, address_kept}

-- the address of a part lies where an address in it does
part-below : (part : Part) (a n : ℕ) → n % 8 ≡ 0 → nat_le n (a / size_of part * size_of part) ≡ nat_le n a
part-below Byte a n e = ap (nat_le n) (omega arith)
part-below Wyde a n e = grind (arith, nat_tests)
part-below Tetra a n e = grind (arith, nat_tests)
part-below Octa a n e = grind (arith, nat_tests)

part-under : (part : Part) (a n : ℕ) → n % 8 ≡ 0 → nat_lt (a / size_of part * size_of part) n ≡ nat_lt a n
part-under Byte a n e = ap (λ b. nat_lt b n) (omega arith)
part-under Wyde a n e = grind (arith, nat_tests)
part-under Tetra a n e = grind (arith, nat_tests)
part-under Octa a n e = grind (arith, nat_tests)

pub negative-part : (part : Part) (a : ℕ) → is_negative (touch a part).at ≡ is_negative a
negative-part part a = part-below part a (2 ^ 63) refl

pub segment-part : (part : Part) (a : ℕ) → is_in_stack_segment (touch a part).at ≡ is_in_stack_segment a
segment-part part a =
    ap (λ b. b && nat_lt (a / size_of part * size_of part) (2 ^ 63)) (part-below part a 0x6000_0000_0000_0000 refl)
    ∙ ap (λ b. nat_le 0x6000_0000_0000_0000 a && b) (part-under part a (2 ^ 63) refl)

-- a value that is loaded, in the state with the destination local
abbrev pub load_settled : State → ℕ → ℕ → ℕ → ℕ → Result State Reason
load_settled s k n a v =
    if is_negative a then Err Negative
    else unless (set_overfills s.stack k) StackFull (record (onward (with_value_in s k v) n) { touched = s.touched || is_in_stack_segment a })

load-cases : (neg ov : Bool) (done to : State) → done ≡ to →
    unless_refused (first_reason (reason_where neg Negative) (first_reason (reason_where ov StackFull) None)) done
    ≡ (if neg then Err Negative else unless ov StackFull to)
load-cases true ov done to e = refl
load-cases false true done to e = refl
load-cases false false done to e = ap Ok e

load-done : (s : State) (i : Instruction) (k v a : ℕ) (part : Part) →
    record (applied (with_local s k) i k (loading_from i a part v)) { touched = s.touched || (is_in_stack_segment (touch a part).at || false) }
    ≡ record (onward (with_value_in s k v) (next_of i)) { touched = s.touched || is_in_stack_segment a }
unfolding applied
load-done s i k v a part =
    ap (λ b. record (onward (with_value_in (with_local s k) k v) (next_of i)) { touched = s.touched || b }) (or-false (is_in_stack_segment (touch a part).at) ∙ segment-part part a)
    ∙ ap (λ (t : State). record (onward t (next_of i)) { touched = s.touched || is_in_stack_segment a }) (result-twice s k (register s.stack k) v)

load-is : (s : State) (i : Instruction) (k v a : ℕ) (part : Part) → from_effect s i k (loading_from i a part v) ≡ load_settled s k (next_of i) a v
load-is s i k v a part =
    load-cases (is_negative (touch a part).at) (set_overfills s.stack k) _ _ (load-done s i k v a part)
    ∙ ap (λ b. if b then Err Negative else unless (set_overfills s.stack k) StackFull (record (onward (with_value_in s k v) (next_of i)) { touched = s.touched || is_in_stack_segment a })) (negative-part part a)

pub load_outcome : (how : Loading) (s : State) (i : Instruction) → outcome s (deed_of (op.Load how) s i)
    ≡ load_settled s (x_of i) (next_of i) (data_address s i) (loaded_value how (octa (with_local s (x_of i)) (data_address s i)) (data_address s i))
unfolding effect_of form_fault stack_fault
load_outcome how s i =
    load-is s i (x_of i) (loaded_value how (octa (with_local s (x_of i)) (data_address (with_local s (x_of i)) i)) (data_address (with_local s (x_of i)) i)) (data_address (with_local s (x_of i)) i) (loaded_part how)
    ∙ ap (λ a. load_settled s (x_of i) (next_of i) a (loaded_value how (octa (with_local s (x_of i)) a) a)) (address_kept s i (x_of i))

-- outside the stack area the octas are those of the state before
pub outside-kept : (s : State) (k a : ℕ) → in_stack_area a ≡ false → octa (with_local s k) a ≡ octa s a
unfolding octa
outside-kept s k a e = rw e refl

pub below-area : (a : ℕ) → a < 0x6000_0000_0000_0000 → in_stack_area a ≡ false
below-area a l = grind (arith, nat_tests)

below-segment : (a : ℕ) → a < 0x6000_0000_0000_0000 → is_in_stack_segment a ≡ false
below-segment a l = grind (arith, nat_tests)

below-negative : (a : ℕ) → a < 0x6000_0000_0000_0000 → is_negative a ≡ false
below-negative a l = grind (arith, nat_tests)

pub load_below : (how : Loading) (s : State) (i : Instruction) → data_address s i < 0x6000_0000_0000_0000 → outcome s (deed_of (op.Load how) s i)
    ≡ settled s (x_of i) (loaded_value how (octa s (data_address s i)) (data_address s i)) (next_of i)
unfolding settled
load_below how s i l =
    load_outcome how s i
    ∙ rw (below-negative (data_address s i) l, below-segment (data_address s i) l, outside-kept s (x_of i) (data_address s i) (below-area (data_address s i) l))
    (ap (λ (t : State). unless (set_overfills s.stack (x_of i)) StackFull t) (same-touched (onward (with_value_in s (x_of i) (loaded_value how (octa s (data_address s i)) (data_address s i))) (next_of i)) (s.touched || false) (sym (or-false s.touched))))

-- IN STACK_SEGMENT

in-segment : (a : ℕ) → 0x6000_0000_0000_0000 ≤ a → a < 2 ^ 63 → is_in_stack_segment a ≡ true
in-segment a l h = grind (arith, nat_tests)

not-negative : (a : ℕ) → a < 2 ^ 63 → is_negative a ≡ false
not-negative a h = grind (arith, nat_tests)

seen-true : (s : State) → (b : Bool) → b ≡ true → (s.touched || b) ≡ true
seen-true s true e = or-true s.touched
  where
    or-true : (b : Bool) → (b || true) ≡ true
    or-true true = refl
    or-true false = refl
seen-true s false e = absurd (cc)

segment-load : (s : State) (k n a v : ℕ) → 0x6000_0000_0000_0000 ≤ a → a < 2 ^ 63 → load_settled s k n a v ≡ unless (set_overfills s.stack k) StackFull (with_touch (onward (with_value_in s k v) n))
segment-load s k n a v l h =
    rw (not-negative a h) (ap (λ b. unless (set_overfills s.stack k) StackFull (record (onward (with_value_in s k v) n) { touched = b })) (seen-true s (is_in_stack_segment a) (in-segment a l h)))

pub load_negative : (how : Loading) (s : State) (i : Instruction) (a : ℕ) → a ≡ data_address s i → 2 ^ 63 ≤ a → outcome s (deed_of (op.Load how) s i) ≡ Err Negative
load_negative how s i a e l =
    let neg : is_negative (data_address s i) ≡ true = grind (arith, nat_tests) in
    load_outcome how s i ∙ rw neg refl

-- outside the stack area
pub load_outside : (how : Loading) (s : State) (i : Instruction) (a : ℕ) → a ≡ data_address s i → 0x6000_0000_0000_0000 ≤ a → a < 2 ^ 63 → in_stack_area a ≡ false →
    outcome s (deed_of (op.Load how) s i) ≡ unless (set_overfills s.stack (x_of i)) StackFull (with_touch (onward (with_value_in s (x_of i) (loaded_value how (octa s a) a)) (next_of i)))
load_outside how s i a e l h out =
    load_outcome how s i
    ∙ ap (λ b. load_settled s (x_of i) (next_of i) b (loaded_value how (octa (with_local s (x_of i)) b) b)) (sym e)
    ∙ ap (λ x. load_settled s (x_of i) (next_of i) a (loaded_value how x a)) (outside-kept s (x_of i) a out)
    ∙ segment-load s (x_of i) (next_of i) a (loaded_value how (octa s a) a) l h

-- in it, once the destination is local
pub load_inside : (how : Loading) (s : State) (i : Instruction) (a : ℕ) → a ≡ data_address s i → 0x6000_0000_0000_0000 ≤ a → a < 2 ^ 63 →
    outcome s (deed_of (op.Load how) s i)
    ≡ unless (set_overfills s.stack (x_of i)) StackFull (onward (with_value_in (with_touch (with_local s (x_of i))) (x_of i) (loaded_value how (octa (with_local s (x_of i)) a) a)) (next_of i))
load_inside how s i a e l h =
    load_outcome how s i
    ∙ ap (λ b. load_settled s (x_of i) (next_of i) b (loaded_value how (octa (with_local s (x_of i)) b) b)) (sym e)
    ∙ segment-load s (x_of i) (next_of i) a (loaded_value how (octa (with_local s (x_of i)) a) a) l h
    ∙ ap (λ (t : State). unless (set_overfills s.stack (x_of i)) StackFull (with_touch (onward t (next_of i)))) (sym (result-twice s (x_of i) (register s.stack (x_of i)) (loaded_value how (octa (with_local s (x_of i)) a) a)))

-- a register that was made local takes any value
pub local_settles : (s : State) (k x n : ℕ) → settled (with_touch (with_local s k)) k x n ≡ Ok (onward (with_value_in (with_touch (with_local s k)) k x) n)
unfolding settled
local_settles s k x n = rw (stack-fits s.stack k (register s.stack k)) refl
