-- What CSWAP comes to.
use Rattle.std.proofs.Common.{◌≡◌, ◌≢◌, ◌<◌, ◌≤◌, ℕ, ◌^◌, ◌==◌, ◌&&◌, ◌||◌, Bool, true, false, cond, if◌then◌else◌, [], ◌∷◌, None, Some, Result, Ok, Err, refl, sym, ap, ◌∙◌, arith}
use Rattle.std.proofs.lemmas.Bool.Decides.{nat_tests}
use Rattle.mx_mem.specs.declared.part.Part.TheVariants.{Octa}
use Rattle.mx_ring.specs.Stack.{register, set_overfills, in_stack_area}
use Rattle.mx_code.specs.SpecialRegisters.{rP}
use Rattle.mx_code.specs.declared.stop.Stop.{Stop}
use Rattle.mx_core.proofs.Results.Locals.{stack-fits}
use Rattle.mx_core.specs.Way.Calls.{left, unless, is_made, makes_page, exchange_done, exchanged, left_alone, swap_made, swap_settled, store_seen, settled}
use Rattle.mx_core.specs.Deeds.{applied, onward, outcome, state_done, deed_of, unless_refused}
use Rattle.mx_code.specs.LoadsAndStores.{touch}
use Rattle.mx_core.specs.Effects.{Effect, effect_of, data_address, x_register, loading_from, stored_in}
use Rattle.mx_code.specs.Instructions.{x_of, next_of}
use Rattle.mx_code.specs.declared.instruction.Instruction.{Instruction}
use Rattle.mx_word.specs.Segments.{is_in_stack_segment}
use Rattle.mx_core.specs.State.{State, begins_page, octa, with_octa, with_stored, with_special, with_value_in, with_local, special_register, is_negative, is_page_refused}
use Rattle.mx_core.specs.Way.Stepping.{begins_page_at, needs_page}
use Rattle.mx_core.proofs.Results.Pages.{absent-made}
use Rattle.mx_core.specs.Stops.{reason_where, first_reason, form_fault, stack_fault}
use Rattle.mx_code.specs.declared.operation.Operation.TheVariants as op
use Rattle.mx_code.specs.declared.reason.Reason.{Reason}
use Rattle.mx_code.specs.declared.reason.Reason.TheVariants.{StackFull, Negative, PagesFull}
use Rattle.mx_core.proofs.Results.Events.{from_effect}
use Rattle.mx_core.proofs.Results.Loads.{negative-part, segment-part, outside-kept}
use Rattle.mx_core.proofs.Results.Outcomes.{or-false, result-twice, x_kept, address_kept}

both-same : (b : Bool) → (b || b) ≡ b
both-same true = refl
both-same false = refl

swap-cases : (m n ov full : Bool) (done to : State) → m ≡ n → done ≡ to →
    unless_refused (first_reason (reason_where m Negative) (first_reason (reason_where n Negative) (first_reason (reason_where ov StackFull) (first_reason None (reason_where full PagesFull))))) done
    ≡ (if n then Err Negative else if ov then Err StackFull else unless full PagesFull to)
swap-cases true true ov full done to e f = refl
swap-cases true false ov full done to e f = absurd (cc)
swap-cases false true ov full done to e f = absurd (cc)
swap-cases false false true full done to e f = refl
swap-cases false false false true done to e f = refl
swap-cases false false false false done to e f = ap Ok f

abbrev pub exchange_effect : Instruction → ℕ → ℕ → Effect
exchange_effect i a x = record (loading_from i a Octa 1) { store = Some (stored_in a Octa x) }

exchange-done : (s : State) (i : Instruction) (a : ℕ) →
    record (applied (with_local s (x_of i)) i (x_of i) (exchange_effect i a (x_register (with_local s (x_of i)) i))) { touched = s.touched || (is_in_stack_segment (touch a Octa).at || is_in_stack_segment a) }
    ≡ exchange_done s i a
unfolding applied
exchange-done s i a =
    ap (λ b. record (onward (with_stored (with_value_in (with_local s (x_of i)) (x_of i) 1) a Octa (x_register (with_local s (x_of i)) i)) (next_of i)) { touched = s.touched || b }) (ap (λ b. b || is_in_stack_segment a) (segment-part Octa a) ∙ both-same (is_in_stack_segment a))
    ∙ ap (λ (t : State). record (onward (with_stored t a Octa (x_register (with_local s (x_of i)) i)) (next_of i)) { touched = s.touched || is_in_stack_segment a }) (result-twice s (x_of i) (register s.stack (x_of i)) 1)
    ∙ ap (λ x. record (onward (with_stored (with_value_in s (x_of i) 1) a Octa x) (next_of i)) { touched = s.touched || is_in_stack_segment a }) (x_kept s i (x_of i))

abbrev pub leave_effect : Instruction → ℕ → ℕ → Effect
leave_effect i a found = record (loading_from i a Octa 0) { special = (rP, found) ∷ [] }

leave-done : (s : State) (i : Instruction) (a found : ℕ) →
    record (applied (with_local s (x_of i)) i (x_of i) (leave_effect i a found)) { touched = s.touched || (is_in_stack_segment (touch a Octa).at || false) }
    ≡ record (onward (with_special (with_value_in s (x_of i) 0) rP found) (next_of i)) { touched = s.touched || is_in_stack_segment a }
unfolding applied
leave-done s i a found =
    ap (λ b. record (onward (with_special (with_value_in (with_local s (x_of i)) (x_of i) 0) rP found) (next_of i)) { touched = s.touched || b }) (or-false (is_in_stack_segment (touch a Octa).at) ∙ segment-part Octa a)
    ∙ ap (λ (t : State). record (onward (with_special t rP found) (next_of i)) { touched = s.touched || is_in_stack_segment a }) (result-twice s (x_of i) (register s.stack (x_of i)) 0)

leave-cases : (m n ov : Bool) (done to : State) → m ≡ n → done ≡ to →
    unless_refused (first_reason (reason_where m Negative) (first_reason (reason_where ov StackFull) None)) done ≡ (if n then Err Negative else unless ov StackFull to)
leave-cases true true ov done to e f = refl
leave-cases true false ov done to e f = absurd (cc)
leave-cases false true ov done to e f = absurd (cc)
leave-cases false false true done to e f = refl
leave-cases false false false done to e f = ap Ok f

choice : (neg b : Bool) (x y : Result State Reason) → (if b then (if neg then Err Negative else x) else (if neg then Err Negative else y)) ≡ (if neg then Err Negative else if b then x else y)
choice true true x y = refl
choice true false x y = refl
choice false b x y = refl

-- an octa is found
swapped-is : (s : State) (i : Instruction) (a found : ℕ) (b : Bool) →
    from_effect s i (x_of i) (if b then exchange_effect i a (x_register (with_local s (x_of i)) i) else leave_effect i a found)
    ≡ (if b then (if is_negative a then Err Negative else exchanged s i a) else (if is_negative a then Err Negative else left_alone s i a found))
swapped-is s i a found true = swap-cases (is_negative (touch a Octa).at) (is_negative a) (set_overfills s.stack (x_of i)) (is_page_refused s a) _ _ (negative-part Octa a) (exchange-done s i a)
swapped-is s i a found false = leave-cases (is_negative (touch a Octa).at) (is_negative a) (set_overfills s.stack (x_of i)) _ _ (negative-part Octa a) (leave-done s i a found)

pub swap_outcome : (s : State) (i : Instruction) → outcome s (deed_of op.CompareAndSwap s i) ≡ swap_settled s i (data_address s i) (octa (with_local s (x_of i)) (data_address s i))
unfolding effect_of form_fault stack_fault special_register
swap_outcome s i =
    let a = data_address (with_local s (x_of i)) i in
    let found = octa (with_local s (x_of i)) a in
    swapped-is s i a found (found == special_register s rP)
    ∙ choice (is_negative a) (found == special_register s rP) (exchanged s i a) (left_alone s i a found)
    ∙ ap (λ b. swap_settled s i b (octa (with_local s (x_of i)) b)) (address_kept s i (x_of i))

-- FOR THE CODE

pub swap_negative : (s : State) (i : Instruction) (a : ℕ) → a ≡ data_address s i → 2 ^ 63 ≤ a → outcome s (deed_of op.CompareAndSwap s i) ≡ Err Negative
swap_negative s i a e l =
    let neg : is_negative (data_address s i) ≡ true = grind (arith, nat_tests) in
    swap_outcome s i ∙ rw neg refl

swap_at : (s : State) (i : Instruction) (a : ℕ) → a ≡ data_address s i → a < 2 ^ 63 → outcome s (deed_of op.CompareAndSwap s i) ≡ swap_made s i a (octa (with_local s (x_of i)) a)
swap_at s i a e l =
    let neg : is_negative a ≡ false = grind (arith, nat_tests) in
    swap_outcome s i ∙ ap (λ b. swap_settled s i b (octa (with_local s (x_of i)) b)) (sym e) ∙ rw neg refl

pub swap_outside : (s : State) (i : Instruction) (a : ℕ) → a ≡ data_address s i → a < 2 ^ 63 → in_stack_area a ≡ false → outcome s (deed_of op.CompareAndSwap s i) ≡ swap_made s i a (octa s a)
swap_outside s i a e l out = swap_at s i a e l ∙ ap (λ x. swap_made s i a x) (outside-kept s (x_of i) a out)

-- outside the stack area it is one whether memory or $X gets its value first
pub stored-first : (s : State) (i : Instruction) (a : ℕ) → in_stack_area a ≡ false →
    settled (store_seen s a Octa (x_register s i)) (x_of i) 1 (next_of i) ≡ unless (set_overfills s.stack (x_of i)) StackFull (exchange_done s i a)
unfolding settled octa with_octa
stored-first s i a out = rw out refl

exchange-kept : (s : State) (i : Instruction) (a : ℕ) → exchange_done (with_local s (x_of i)) i a ≡ exchange_done s i a
exchange-kept s i a =
    ap (λ (t : State). record (onward (with_stored t a Octa (x_register (with_local s (x_of i)) i)) (next_of i)) { touched = s.touched || is_in_stack_segment a }) (result-twice s (x_of i) (register s.stack (x_of i)) 1)
    ∙ ap (λ x. record (onward (with_stored (with_value_in s (x_of i) 1) a Octa x) (next_of i)) { touched = s.touched || is_in_stack_segment a }) (x_kept s i (x_of i))

leave-kept : (s : State) (i : Instruction) (a found : ℕ) →
    record (onward (with_special (with_value_in (with_local s (x_of i)) (x_of i) 0) rP found) (next_of i)) { touched = s.touched || is_in_stack_segment a }
    ≡ record (onward (with_special (with_value_in s (x_of i) 0) rP found) (next_of i)) { touched = s.touched || is_in_stack_segment a }
leave-kept s i a found = ap (λ (t : State). record (onward (with_special t rP found) (next_of i)) { touched = s.touched || is_in_stack_segment a }) (result-twice s (x_of i) (register s.stack (x_of i)) 0)

-- once the destination is local, all is as it was before, and nothing refuses it
made-local : (s : State) (i : Instruction) (a found : ℕ) (b : Bool) → set_overfills s.stack (x_of i) ≡ false → in_stack_area a ≡ true →
    left (with_local s (x_of i)) (if b then exchanged (with_local s (x_of i)) i a else left_alone (with_local s (x_of i)) i a found) ≡ left s (if b then exchanged s i a else left_alone s i a found)
made-local s i a found true h inside = rw (stack-fits s.stack (x_of i) (register s.stack (x_of i)), h, inside) (ap (λ (t : State). (Ok tt, t)) (exchange-kept s i a))
made-local s i a found false h inside = rw (stack-fits s.stack (x_of i) (register s.stack (x_of i)), h) (ap (λ (t : State). (Ok tt, t)) (leave-kept s i a found))

pub swap_inside : (s t u : State) (i : Instruction) (a : ℕ) (r : Result (Unit {0}) Stop) → a ≡ data_address s i → a < 2 ^ 63 → in_stack_area a ≡ true → set_overfills s.stack (x_of i) ≡ false →
    t ≡ with_local s (x_of i) → (r, u) ≡ left t (swap_made t i a (octa t a)) → (r, u) ≡ left s (outcome s (deed_of op.CompareAndSwap s i))
unfolding special_register
swap_inside s t u i a r e l inside h local made =
    let found = octa (with_local s (x_of i)) a in
    made ∙ ap (λ (t : State). left t (swap_made t i a (octa t a))) local
    ∙ made-local s i a found (found == special_register s rP) h inside
    ∙ ap (left s) (sym (swap_at s i a e l))

-- no room for the destination
pub swap_full : (s : State) (i : Instruction) (a : ℕ) → a ≡ data_address s i → a < 2 ^ 63 → set_overfills s.stack (x_of i) ≡ true → outcome s (deed_of op.CompareAndSwap s i) ≡ Err StackFull
swap_full s i a e l full = swap_at s i a e l ∙ by (octa (with_local s (x_of i)) a == special_register s rP)
  where
    by : (b : Bool) → (if b then exchanged s i a else left_alone s i a (octa (with_local s (x_of i)) a)) ≡ Err StackFull
    by true = rw full refl
    by false = rw full refl

pub exchange_settles : (s t u : State) (i : Instruction) (a datum n : ℕ) (r : Result (Unit {0}) Stop) → in_stack_area a ≡ false → set_overfills s.stack (x_of i) ≡ false → is_page_refused s a ≡ false →
    datum ≡ x_register s i → n ≡ next_of i → t ≡ store_seen s a Octa datum → (r, u) ≡ left t (settled t (x_of i) 1 n) → (r, u) ≡ left s (exchanged s i a)
exchange_settles s t u i a datum n r out fits page is next there e =
    e
    ∙ ap (λ (t : State). left t (settled t (x_of i) 1 n)) there
    ∙ ap (λ x. left (store_seen s a Octa x) (settled (store_seen s a Octa x) (x_of i) 1 n)) is
    ∙ ap (λ m. left (store_seen s a Octa (x_register s i)) (settled (store_seen s a Octa (x_register s i)) (x_of i) 1 m)) next
    ∙ ap (left (store_seen s a Octa (x_register s i))) (stored-first s i a out)
    ∙ rw (fits, page) refl

pub found-same : (x y p q : ℕ) → p ≡ x → q ≡ y → p ≡ q → (x == y) ≡ true
found-same x y p q e f g = grind (arith, nat_tests)

pub found-other : (x y p q : ℕ) → p ≡ x → q ≡ y → p ≢ q → (x == y) ≡ false
found-other x y p q e f g = grind (arith, nat_tests)

-- THE PAGE THAT IT NEEDS

swap-page : (s : State) (i : Instruction) (a v found : ℕ) (b : Bool) → begins_page_at s (cond b (exchange_effect i a v) (leave_effect i a found)).store ≡ (b && begins_page s a)
swap-page s i a v found true = refl
swap-page s i a v found false = refl

page-of-swap : (s : State) (i : Instruction) (a : ℕ) → a ≡ data_address s i → in_stack_area a ≡ false → (octa s a == special_register s rP) ≡ true → begins_page s a ≡ begins_page_at s (deed_of op.CompareAndSwap s i).effect.store
unfolding effect_of special_register
page-of-swap s i a e out same =
    let k = x_of i in
    let t = with_local s k in
    sym (ap (λ c. begins_page_at s (cond (octa t c == special_register t rP) (exchange_effect i c (x_register t i)) (leave_effect i c (octa t c))).store) (address_kept s i k ∙ sym e)
    ∙ swap-page s i a (x_register t i) (octa t a) (octa t a == special_register t rP)
    ∙ ap (λ b. b && begins_page s a) (ap (λ o. o == special_register s rP) (outside-kept s k a out) ∙ same))

pub swap_needs : (s : State) (i : Instruction) (a : ℕ) → a ≡ data_address s i → a < 2 ^ 63 → in_stack_area a ≡ false → (octa s a == special_register s rP) ≡ true → makes_page s a (exchanged s i a) ≡ needs_page s (deed_of op.CompareAndSwap s i)
swap_needs s i a e l out same =
    let d = deed_of op.CompareAndSwap s i in
    let done : outcome s d ≡ exchanged s i a = swap_outside s i a e l out ∙ rw same refl in
    sym (ap (λ b. b && begins_page_at s d.effect.store) (absent-made d.refused (state_done s d))
    ∙ ap (λ r. is_made r && begins_page_at s d.effect.store) done
    ∙ ap (λ b. is_made (exchanged s i a) && b) (sym (page-of-swap s i a e out same)))
