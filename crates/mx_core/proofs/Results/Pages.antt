-- Where a store that is carried out finds no memory for its page.
use Rattle.std.proofs.Common.{◌≡◌, ◌≢◌, ◌<◌, ℕ, ◌^◌, ◌==◌, ◌&&◌, Bool, true, false, if◌then◌else◌, Option, None, Some, Result, Ok, Err, refl, arith}
use Rattle.std.proofs.lemmas.Bool.Decides.{nat_tests}
use Rattle.mx_alu.specs.declared.decision.Trip.TheVariants.{Taken, Noted}
use Rattle.mx_core.specs.Way.Calls.{LacksMemoryOnlyWhere, unless, is_made, makes_page, overflow_decided, exchanged}
use Rattle.mx_core.specs.Deeds.{is_absent, unless_refused}
use Rattle.mx_code.specs.Instructions.{x_of}
use Rattle.mx_code.specs.declared.instruction.Instruction.{Instruction}
use Rattle.mx_core.specs.State.{State, begins_page, is_negative, is_page_refused, tetra}
use Rattle.mx_code.specs.declared.operation.Storing.{Storing}
use Rattle.mx_code.specs.declared.reason.Reason.{Reason}
use Rattle.mx_code.specs.declared.reason.Reason.TheVariants.{Negative, UnhandledTrip, PagesFull, StackFull}
use Rattle.mx_code.specs.declared.stop.Stop.{Stop}
use Rattle.mx_code.specs.declared.stop.Stop.TheVariants.{Stopped, OutOfMemory}
use Rattle.mx_ring.specs.Stack.{set_overfills}

-- a deed that is not refused is made
pub absent-made : (r : Option Reason) (t : State) → is_absent r ≡ is_made (unless_refused r t)
absent-made None t = refl
absent-made (Some reason) t = refl

-- where no page begins, and where the pages are full, it is not out of memory
pub lacks : (begins full done : Bool) (r : Result (Unit {0}) Stop) → (begins ≡ false → r ≢ Err OutOfMemory) → (full ≡ true → r ≢ Err OutOfMemory) → (full ≡ false → done ≡ true) →
    LacksMemoryOnlyWhere (done && begins) r
lacks begins full done (Ok u) b f m = tt
lacks begins full done (Err (Stopped reason)) b f m = tt
lacks false full done (Err OutOfMemory) b f m = absurd (b refl refl)
lacks true true done (Err OutOfMemory) b f m = absurd (f refl refl)
lacks true false done (Err OutOfMemory) b f m = rw (m refl) refl

made-plain : (full : Bool) (t : State) → full ≡ false → is_made (unless full PagesFull t) ≡ true
made-plain full t f = rw f refl

made-noted : (neg full : Bool) (t : State) → neg ≡ false → full ≡ false → is_made (if neg then Err Negative else unless full PagesFull t) ≡ true
made-noted neg full t n f = rw (n, f) refl

made-tripped : (neg unhandled full : Bool) (t : State) → neg ≡ false → unhandled ≡ false → full ≡ false →
    is_made (if neg then Err Negative else if unhandled then Err UnhandledTrip else unless full PagesFull t) ≡ true
made-tripped neg unhandled full t n u f = rw (n, u, f) refl

made-exchange : (over full : Bool) (t : State) → over ≡ false → full ≡ false → is_made (if over then Err StackFull else unless full PagesFull t) ≡ true
made-exchange over full t o f = rw (o, f) refl

pub lacks_plain : (s t : State) (a : ℕ) (r : Result (Unit {0}) Stop) → (begins_page s a ≡ false → r ≢ Err OutOfMemory) → (is_page_refused s a ≡ true → r ≢ Err OutOfMemory) →
    LacksMemoryOnlyWhere (makes_page s a (unless (is_page_refused s a) PagesFull t)) r
lacks_plain s t a r b f = lacks (begins_page s a) (is_page_refused s a) _ r b f (made-plain (is_page_refused s a) t)

pub lacks_noted : (s : State) (i : Instruction) (how : Storing) (a x c : ℕ) (r : Result (Unit {0}) Stop) → a < 2 ^ 63 →
    (begins_page s a ≡ false → r ≢ Err OutOfMemory) → (is_page_refused s a ≡ true → r ≢ Err OutOfMemory) →
    LacksMemoryOnlyWhere (makes_page s a (overflow_decided s i how a x (Noted c))) r
lacks_noted s i how a x c r l b f =
    let n : is_negative a ≡ false = grind (arith, nat_tests) in
    lacks (begins_page s a) (is_page_refused s a) _ r b f (made-noted (is_negative a) (is_page_refused s a) _ n)

pub lacks_tripped : (s : State) (i : Instruction) (how : Storing) (a x h t : ℕ) (r : Result (Unit {0}) Stop) → a < 2 ^ 63 → t ≡ tetra s h → t ≢ 0 →
    (begins_page s a ≡ false → r ≢ Err OutOfMemory) → (is_page_refused s a ≡ true → r ≢ Err OutOfMemory) →
    LacksMemoryOnlyWhere (makes_page s a (overflow_decided s i how a x (Taken h))) r
lacks_tripped s i how a x h t r l e other b f =
    let n : is_negative a ≡ false = grind (arith, nat_tests) in
    let u : (tetra s h == 0) ≡ false = grind (arith, nat_tests) in
    lacks (begins_page s a) (is_page_refused s a) _ r b f (made-tripped (is_negative a) (tetra s h == 0) (is_page_refused s a) _ n u)

pub lacks_exchange : (s : State) (i : Instruction) (a : ℕ) (r : Result (Unit {0}) Stop) → set_overfills s.stack (x_of i) ≡ false →
    (begins_page s a ≡ false → r ≢ Err OutOfMemory) → (is_page_refused s a ≡ true → r ≢ Err OutOfMemory) →
    LacksMemoryOnlyWhere (makes_page s a (exchanged s i a)) r
lacks_exchange s i a r o b f = lacks (begins_page s a) (is_page_refused s a) _ r b f (made-exchange (set_overfills s.stack (x_of i)) (is_page_refused s a) _ o)
