-- Steps along the page of instructions that is kept.
use Rattle.std.proofs.Common.{◌≡◌, ◌≢◌, ◌<◌, ◌≤◌, ◌+◌, ◌*◌, ◌/◌, ◌%◌, ◌^◌, ℕ, suc, Bool, true, false, List, ◌++◌, Ok, Err, Result, refl, sym, subst, ap, ◌∙◌, arith, ⊎_elim}
use Rattle.std.proofs.lemmas.Bool.{cases_lt}
use Rattle.mx_mem.specs.Memory.{Stored, IsCode, KeepsCode}
use Rattle.mx_ops.specs.Opcodes.{opcode_rows, opcode_names, opcode_name}
use Rattle.mx_ring.specs.Stack.{set_overfills, push_overfills, pushed, pop_underflows, popped}
use Rattle.mx_code.specs.SpecialRegisters.{rJ}
use Rattle.mx_code.specs.Instructions.{code_of, instruction, next_of, operation_in, x_of, yz_of}
use Rattle.mx_code.specs.Operations.{operation_of, operation_names, load_names, store_names}
use Rattle.mx_code.specs.declared.instruction.Instruction.{Instruction}
use Rattle.mx_code.specs.declared.operation.Operation.{Operation}
use Rattle.mx_code.specs.declared.operation.Operation.TheVariants as op
use Rattle.mx_code.specs.declared.reason.Reason.{Reason}
use Rattle.mx_code.specs.declared.reason.Reason.TheVariants.{ResumeInsert, StackFull, Underflow}
use Rattle.mx_core.specs.Bounds.{IsMachine}
use Rattle.mx_core.specs.Walks.{Goes}
use Rattle.mx_core.specs.Deeds.{deed_at, deed_for, deed_of, onward, outcome, with_specials, with_stack}
use Rattle.mx_core.specs.Kept.{Kept, state_of}
use Rattle.mx_core.specs.State.{State, octa, special_register, tetra, with_special, with_value_in}
use Rattle.mx_core.specs.Step.{fetched, step}
use Rattle.mx_core.specs.Way.Calls.{Left, left, pop_outcome, push_outcome, registers_popped, registers_pushed, set_outcome, settled, settled_with, unless, with_lowered_mark}
use Rattle.mx_core.specs.Way.KeptPage.{GoesAt, IsHere, ReadsNoCount, address_in, address_of, number_of, placed}
use Rattle.mx_core.specs.declared.along.Next.{Next}
use Rattle.mx_core.specs.Way.Stepping.{advanced}
use Rattle.mx_core.specs.declared.step.Advance.TheVariants as advance
use Rattle.mx_core.proofs.Placed.{went-placed}
use Rattle.mx_core.proofs.Results.Answered.{made-as, set-ok, unless-ok}
use Rattle.mx_core.proofs.Results.Others.{trap_outcome}
use Rattle.mx_core.proofs.Results.Outcomes.{specials_append}
use Rattle.mx_core.proofs.Steps.{other_deed}
use Rattle.mx_core.proofs.Walks.{goes-end}

-- an instruction other than 0 is on the page
pub before-end : (index word code : ℕ) → index ≤ 1024 → (index ≡ 1024 → word ≡ 0) → code ≢ 0 → code ≡ word / 2 ^ 24 % 2 ^ 8 → index < 1024
before-end index word code l end some is = ⊎_elim (λ m. m) (λ m. past m) (cases_lt index 1024)
  where
    past : 1024 ≤ index → index < 1024
    past m =
        let last : index ≡ 1024 = omega arith in
        let zero : word ≡ 0 = end last in
        let none : code ≡ 0 = omega arith in
        absurd (some none)

-- a tetra of 0 is TRAP, which is no usual instruction
trap-code : operation_of 0 ≡ op.Trap
unfolding opcode_rows opcode_names opcode_name load_names store_names operation_names operation_of
trap-code = refl

trapped : (s : State) (i : Instruction) → code_of i ≡ 0 → outcome s (deed_at s i) ≡ Err ResumeInsert
trapped s i e = ap (λ (o : Operation). outcome s (deed_for o s i)) (ap operation_of e ∙ trap-code) ∙ trap_outcome s i

not-given : (b : Bool) (t : State) → Err ResumeInsert ≡ unless b StackFull t → ⊥
not-given true t e = absurd (cc)
not-given false t e = absurd (cc)

pub gives-some : (s : State) (i : Instruction) (k x n : ℕ) → outcome s (deed_at s i) ≡ settled s k x n → code_of i ≢ 0
unfolding settled
gives-some s i k x n e = λ z. not-given (set_overfills s.stack k) _ (sym (trapped s i z) ∙ e)

pub goes-some : (s t : State) (i : Instruction) → outcome s (deed_at s i) ≡ Ok t → code_of i ≢ 0
goes-some s t i e = λ z. let f = sym (trapped s i z) ∙ e in absurd (cc)

-- addresses of the page
pub address-plain : (k : Kept) (index : ℕ) → IsHere k index → address_of k.memory.code_start index ≡ address_in k index
address-plain k index h = let start = k.memory.code_start in let low : start < 0x6000_0000_0000_0000 = h.0.2 in omega (arith, h.1)

-- an address of the page is a multiple of 4
address-aligned : (k : Kept) (index j : ℕ) → IsHere k index → address_of k.memory.code_start j % 4 ≡ 0
address-aligned k index j h = let whole : k.memory.code_start % 4096 ≡ 0 = h.0.1 in omega arith

low-address : (start index : ℕ) → start % 4096 ≡ 0 → start < 0x6000_0000_0000_0000 → index < 1024 → start + 4 * index < 0x6000_0000_0000_0000
low-address start index a l b = omega arith

fetched-there : (s : State) (p n word : ℕ) → word ≡ tetra s p → instruction p word ≡ fetched (placed s p n)
unfolding octa
fetched-there s p n word e = ap (instruction p) e

-- a step that is made of the instruction with a number
pub went-at : (k l : Kept) (index word made : ℕ) (next : Next) → IsHere k index → index < 1024 → (index < 1024 → word ≡ tetra (state_of k) (address_in k index)) →
    ReadsNoCount (instruction (address_in k index) word) →
    (Ok tt, onward (state_of l) (address_of k.memory.code_start (number_of next))) ≡ left (state_of k) (outcome (state_of k) (deed_at (state_of k) (instruction (address_in k index) word))) →
    GoesAt made index next k l
went-at k l index word made next h less there plain e =
    went-placed (state_of k) (state_of l) (address_in k index) made (address_of k.memory.code_start (number_of next)) (instruction (address_in k index) word)
    (fetched-there (state_of k) (address_in k index) made word (there less)) (low-address k.memory.code_start index h.0.1 h.0.2 less) (address-aligned k index (number_of next) h) plain e

-- what leads to an address, of what comes to a machine there
pub leads-as : (s u t : State) (r : Result State Reason) → r ≡ Ok t → u ≡ t → (Ok tt, u) ≡ left s r
leads-as s u t r e f = rw (e, f) refl

-- $k gets a value first, and then the machine goes to an address
pub settled-then : (s t u : State) (k x n : ℕ) → (Ok tt, t) ≡ left s (set_outcome s k x) → u ≡ onward t n → (Ok tt, u) ≡ left s (settled s k x n)
unfolding settled
settled-then s t u k x n e f =
    let ok = set-ok s t k x e in
    made-as (set_overfills s.stack k) StackFull s u (onward (with_value_in s k x) n) _ refl ok.0 (f ∙ ap (λ (v : State). onward v n) ok.1)

-- a value first, then special registers, and then the machine goes to an address
pub answer-then : (s t u v : State) (k x n : ℕ) (xs ys : List (ℕ × ℕ)) → (Ok tt, t) ≡ left s (set_outcome s k x) → u ≡ with_specials t xs → v ≡ with_specials u ys →
    (Ok tt, onward v n) ≡ left s (settled_with s k x (xs ++ ys) n)
answer-then s t u v k x n xs ys e f g =
    let ok = set-ok s t k x e in
    made-as (set_overfills s.stack k) StackFull s (onward v n) (onward (with_specials (with_value_in s k x) (xs ++ ys)) n) _ refl ok.0
    (ap (λ (w : State). onward w n) (g ∙ ap (λ (w : State). with_specials w ys) (f ∙ ap (λ (w : State). with_specials w xs) ok.1) ∙ sym (specials_append (with_value_in s k x) xs ys)))

-- an operation that is known, at the instruction with a number
pub as-deed : (o : Operation) (s : State) (i j : Instruction) → i ≡ j → operation_in i ≡ o → o ≢ op.Resume → outcome s (deed_of o s i) ≡ outcome s (deed_at s j)
as-deed o s i j e f n =
    ap (λ (p : Operation). outcome s (deed_of p s i)) (sym f) ∙ ap (outcome s) (sym (other_deed (operation_in i) s i (λ x. n (sym f ∙ x)))) ∙ ap (λ (k : Instruction). outcome s (deed_at s k)) e

-- an operation whose step does not depend on the count of steps
pub reads-none : (o : Operation) (i j : Instruction) → i ≡ j → operation_in i ≡ o → o ≢ op.Resume → o ≢ op.Get → ReadsNoCount j
reads-none o i j e f r g = subst ReadsNoCount e ((λ x. r (sym f ∙ x)), (λ x. absurd (g (sym f ∙ x))))

-- the machine goes on to the next instruction, and so many tetras further
pub leads-on : (k : Kept) (t : State) (index j : ℕ) (i : Instruction) (r : Result State Reason) → IsHere k index → i.at ≡ address_in k index →
    address_of k.memory.code_start j ≡ (address_of k.memory.code_start index + 4) % 2 ^ 64 → (Ok tt, onward t (next_of i)) ≡ left (state_of k) r →
    (Ok tt, onward t (address_of k.memory.code_start j)) ≡ left (state_of k) r
leads-on k t index j i r h at leads made =
    let next : (address_of k.memory.code_start index + 4) % 2 ^ 64 ≡ next_of i = ap (λ a. (a + 4) % 2 ^ 64) (address-plain k index h ∙ sym at) in
    ap (λ a. (Ok tt, onward t a)) (leads ∙ next) ∙ made

pub leads-by : (k : Kept) (t : State) (index j d a : ℕ) (i : Instruction) (r : Result State Reason) → IsHere k index → i.at ≡ address_in k index → (i.at + 4 * d) % 2 ^ 64 ≡ a →
    address_of k.memory.code_start j ≡ (address_of k.memory.code_start index + 4 * d) % 2 ^ 64 → (Ok tt, onward t a) ≡ left (state_of k) r →
    (Ok tt, onward t (address_of k.memory.code_start j)) ≡ left (state_of k) r
leads-by k t index j d a i r h at far leads made =
    let next : (address_of k.memory.code_start index + 4 * d) % 2 ^ 64 ≡ a = ap (λ b. (b + 4 * d) % 2 ^ 64) (address-plain k index h ∙ sym at) ∙ far in
    ap (λ b. (Ok tt, onward t b)) (leads ∙ next) ∙ made

-- to an address, of which a machine takes the tetra
pub onward-aligned : (t : State) (a : ℕ) → onward t (a / 4 * 4) ≡ onward t a
onward-aligned t a = let same : a / 4 * 4 / 4 * 4 ≡ a / 4 * 4 = omega arith in ap (λ b. record t { pc = b; steps = (t.steps + 1) % 2 ^ 64 }) same

-- PUSHJ, and POP, once the register stack has changed
pub pushed-then : (s t v u : State) (i : Instruction) (a : ℕ) → (Ok tt, t) ≡ left s (registers_pushed s (x_of i)) → v ≡ with_special t rJ (next_of i) → u ≡ onward v a → (Ok tt, u) ≡ left s (push_outcome s i a)
pushed-then s t v u i a e g f =
    let ok = unless-ok (push_overfills s.stack (x_of i)) StackFull s t (with_stack s (pushed s.stack (x_of i))) e in
    made-as (push_overfills s.stack (x_of i)) StackFull s u (onward (with_stack (with_special s rJ (next_of i)) (pushed s.stack (x_of i))) a) _ refl ok.0
    (f ∙ ap (λ (w : State). onward w a) (g ∙ ap (λ (w : State). with_special w rJ (next_of i)) ok.1))

pub popped-then : (s t u : State) (i : Instruction) → (Ok tt, t) ≡ left s (registers_popped s (x_of i)) → u ≡ onward t ((special_register s rJ + 4 * yz_of i) % 2 ^ 64) → (Ok tt, u) ≡ left s (pop_outcome s i)
popped-then s t u i e f =
    let ok = unless-ok (pop_underflows s.stack) Underflow s t (with_lowered_mark s (popped s.stack (x_of i))) e in
    made-as (pop_underflows s.stack) Underflow s u (onward (with_lowered_mark s (popped s.stack (x_of i))) ((special_register s rJ + 4 * yz_of i) % 2 ^ 64)) _ refl ok.0
    (f ∙ ap (λ (w : State). onward w ((special_register s rJ + 4 * yz_of i) % 2 ^ 64)) ok.1)

-- A WALK ALONG THE PAGE

pub placed-same : (s : State) (a : ℕ) → s.pc ≡ a → s.steps < 2 ^ 64 → placed s a ((s.steps + 0) % 2 ^ 64) ≡ s
placed-same s a e f =
    let same : (s.steps + 0) % 2 ^ 64 ≡ s.steps = omega arith in
    rw (sym e, same) refl

-- the same page stays kept
pub code-kept : (m n : Stored) → KeepsCode m n → IsCode m → IsCode n
code-kept m n e h = rw (e.0, e.1) h

-- a machine over a window is one at each address that is a multiple of 4, whatever steps it counts
placed-machine : (k : Kept) (index n : ℕ) → IsHere k index → n < 2 ^ 64 → IsMachine (state_of k) k.ring → IsMachine (placed (state_of k) (address_in k index) n) k.ring
placed-machine k index n h f m = record {
  over = m.over;
  ring = m.ring;
  frames_are_spilled = m.frames_are_spilled;
  pages = m.pages;
  specials = m.specials;
  address = let start : k.memory.code_start % 4096 ≡ 0 = h.0.1 in omega arith;
}

-- the steps of a machine that counts them once it is done with the page
abbrev pub steps_after : Kept → ℕ → ℕ
steps_after k made = ((state_of k).steps + made) % 2 ^ 64

steps-kept : (k l : Kept) → l.steps ≡ k.steps → (state_of l).steps ≡ (state_of k).steps
unfolding state_of
steps-kept k l e = e

-- a walk to an instruction of the page, and one more step
pub walk-away : (made : ℕ) (s : State) (k l : Kept) (index j : ℕ) → IsMachine (state_of k) k.ring → IsHere k index → KeepsCode k.memory l.memory → l.steps ≡ k.steps →
    Goes made s (placed (state_of k) (address_in k index) (steps_after k made)) →
    (advance.Went, placed (state_of l) (address_of k.memory.code_start j) ((steps_after k made + 1) % 2 ^ 64))
    ≡ advanced (placed (state_of k) (address_in k index) (steps_after k made)) (step (placed (state_of k) (address_in k index) (steps_after k made))) →
    Goes (made + 1) s (placed (state_of l) (address_of l.memory.code_start j) (steps_after l (made + 1)))
walk-away made s k l index j m h same count goes went =
    let from : State = placed (state_of k) (address_in k index) (steps_after k made) in
    let to : State = placed (state_of l) (address_of k.memory.code_start j) ((steps_after k made + 1) % 2 ^ 64) in
    let steps : (steps_after k made + 1) % 2 ^ 64 ≡ steps_after l (made + 1) = omega (arith, steps-kept k l count) in
    let more : suc made ≡ made + 1 = omega arith in
    let there = goes-end made s from to (record { window = k.ring; machine = placed-machine k index (steps_after k made) h (omega arith) m }) goes went in
    subst (λ i. Goes i s (placed (state_of l) (address_of l.memory.code_start j) (steps_after l (made + 1)))) more
    (subst (λ n. Goes (suc made) s (placed (state_of l) (address_of l.memory.code_start j) n)) steps
    (subst (λ start. Goes (suc made) s (placed (state_of l) (address_of start j) ((steps_after k made + 1) % 2 ^ 64))) (sym same.0) there))

pub walk-on : (made : ℕ) (s : State) (k l : Kept) (index j : ℕ) → IsMachine (state_of k) k.ring → IsHere k index → j ≤ 1024 → KeepsCode k.memory l.memory → l.steps ≡ k.steps →
    Goes made s (placed (state_of k) (address_in k index) (steps_after k made)) →
    (advance.Went, placed (state_of l) (address_of k.memory.code_start j) ((steps_after k made + 1) % 2 ^ 64))
    ≡ advanced (placed (state_of k) (address_in k index) (steps_after k made)) (step (placed (state_of k) (address_in k index) (steps_after k made))) →
    Goes (made + 1) s (placed (state_of l) (address_in l j) (steps_after l (made + 1)))
walk-on made s k l index j m h below same count goes went =
    subst (λ a. Goes (made + 1) s (placed (state_of l) a (steps_after l (made + 1)))) (address-plain l j (code-kept k.memory l.memory same h.0, below)) (walk-away made s k l index j m h same count goes went)

-- the machine is placed where a walk ends
pub walk-end : (made : ℕ) (s t : State) (k : Kept) (index : ℕ) → IsHere k index → Goes made s (placed (state_of k) (address_in k index) (steps_after k made)) →
    t ≡ placed (state_of k) (address_of k.memory.code_start index) (steps_after k made) → Goes made s t
walk-end made s t k index h goes e = subst (Goes made s) (sym (e ∙ ap (λ a. placed (state_of k) a (steps_after k made)) (address-plain k index h))) goes

-- a step that was not made changed nothing
pub walk-unmade : (made : ℕ) (s t : State) (k l : Kept) (index : ℕ) → IsHere k index → KeepsCode k.memory l.memory → state_of l ≡ state_of k →
    Goes made s (placed (state_of k) (address_in k index) (steps_after k made)) →
    t ≡ placed (state_of l) (address_of l.memory.code_start index) (((state_of l).steps + made) % 2 ^ 64) → Goes made s t
walk-unmade made s t k l index h same kept goes e =
    walk-end made s t k index h goes
    (e ∙ ap (λ start. placed (state_of l) (address_of start index) (((state_of l).steps + made) % 2 ^ 64)) same.0 ∙ ap (λ (u : State). placed u (address_of k.memory.code_start index) ((u.steps + made) % 2 ^ 64)) kept)
