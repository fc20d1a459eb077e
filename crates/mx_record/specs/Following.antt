-- How the code finds what a turn changed, in a bounded time where it can.
use Rattle.std.specs.Prelude.{ℕ, ◌+◌, ◌-◌, ◌/◌, ◌==◌, ◌||◌, ◌&&◌, ◌≡◌, nat_le, nat_lt, min, if◌then◌else◌, Bool, true, false, List, Option, None, Some, bit_xor}
use Rattle.mx_ring.specs.Stack.{Stack, hidden_count, spilled_count, local_count, register, stack_octa, in_stack_area}
use Rattle.mx_trap.specs.Services.{y_of}
use Rattle.mx_code.specs.Instructions.{instruction, operation_in}
use Rattle.mx_code.specs.declared.operation.Operation.{Operation}
use Rattle.mx_code.specs.declared.operation.Operation.TheVariants as op
use Rattle.mx_code.specs.declared.trace.Touch.{Touch}
use Rattle.mx_code.specs.declared.trace.Trace.{Trace}
use Rattle.mx_host.specs.HostModel.{HostModel}
use Rattle.mx_core.specs.State.{State}
use Rattle.mx_run.specs.Turns.{turn}
use Rattle.mx_run.specs.WildRuns.{state_after}
use Rattle.mx_replay.specs.Visits.{trace_of}
use Rattle.mx_record.specs.Pictures.{all_registers, octa_of}
use Rattle.mx_record.specs.Records.{difference}
use Rattle.mx_record.specs.declared.changes.Change.{Change}
use Rattle.mx_record.specs.declared.reach.Reach.{Reach}
use Rattle.mx_record.specs.declared.reach.Reach.TheVariants.{Nothing, Octa, All}

-- CHANGES

-- the changes are those from some octas to others at the places within, and none elsewhere
pub record TellsWithin (changes : List Change) (old new : ℕ → ℕ) (within : ℕ → Bool) : Type 0 where
  pub at : (q : ℕ) → difference changes q ≡ (if within q then bit_xor (old q) (new q) else 0)

-- the same at the places from one up to another
abbrev pub is_between : ℕ → ℕ → ℕ → Bool
is_between from to q = nat_le from q && nat_lt q to

abbrev pub Tells : List Change → (ℕ → ℕ) → (ℕ → ℕ) → ℕ → ℕ → Type 0
Tells changes old new from to = TellsWithin changes old new (is_between from to)

-- the changes are all those from some octas to others
pub record TellsAll (changes : List Change) (old new : ℕ → ℕ) : Type 0 where
  pub at : (q : ℕ) → difference changes q ≡ bit_xor (old q) (new q)

-- WHAT A TURN MAY REACH

-- the octas of memory that a turn may change, by its trace: those that a file trap may read into, and after the last turn all
abbrev pub written_reach : Option Touch → Reach
written_reach None = Nothing
written_reach (Some t) = Octa (t.at / 8)

abbrev pub is_trap : Operation → Bool
is_trap op.Trap = true
is_trap other = false

-- a turn changes no octa that it does not reach
abbrev pub is_reached : Reach → ℕ → Bool
is_reached Nothing n = false
is_reached (Octa k) n = n == k
is_reached All n = true

abbrev pub operation_of_word : ℕ → Operation
operation_of_word word = operation_in (instruction 0 word)

-- Fread and Fgets
abbrev pub reads_file : ℕ → Bool
reads_file word = y_of word == 3 || y_of word == 4

abbrev pub step_reach : Option Touch → ℕ → Reach
step_reach writes word =
    if is_trap (operation_of_word word) then (if reads_file word then All else Nothing) else written_reach writes

abbrev pub reach_of : Option Trace → Reach
reach_of None = All
reach_of (Some trace) = step_reach trace.writes trace.word

-- THE REGISTER STACK

-- whether a turn may change a register that is hidden before and after it: UNSAVE does, a step that RESUME inserts, a file trap
-- and a store into the stack area may, and the last turn
abbrev pub is_deep : Operation → Bool
is_deep op.Unsave = true
is_deep op.Resume = true
is_deep op.Trap = true
is_deep other = false

abbrev pub writes_area : Option Touch → Bool
writes_area None = false
writes_area (Some t) = in_stack_area t.at

abbrev pub reaches_hidden : Option Trace → Bool
reaches_hidden None = true
reaches_hidden (Some trace) = is_deep (operation_of_word trace.word) || writes_area trace.writes

-- how many registers of the stack stay in front of those that a turn may change, where this many are hidden before and after
abbrev pub kept_count : Option Trace → ℕ → ℕ → ℕ
kept_count trace before after = if reaches_hidden trace then 0 else min before after

-- what a hidden register has, where more are hidden than there were: PUSH hides the number of those below the last one, and
-- else a register stays at its place
abbrev pub hidden_by : ℕ → ℕ → ℕ → ℕ → ℕ
hidden_by before after old i = if (i + 1 == after) && nat_lt before after then after - before - 1 else old

-- what a register of the stack has, by what it had and what is seen of the stack afterwards: one that is spilled is seen in
-- the stack area
abbrev pub stacked_by : ℕ → ℕ → Stack → ℕ → ℕ
stacked_by before old z i =
    if nat_lt i (hidden_count z) then (if nat_lt i (spilled_count z) then stack_octa z i else hidden_by before (hidden_count z) old i)
    else if nat_lt (i - hidden_count z) (local_count z) then register z (i - hidden_count z)
    else 0

-- the registers of a stack are found so, by what they had
abbrev pub AreFound : ℕ → (ℕ → ℕ) → Stack → Type 0
AreFound before old z = (i : ℕ) → octa_of (all_registers z) i ≡ stacked_by before (old i) z i

-- a list has the registers of a stack
abbrev pub HoldsStack : List ℕ → Stack → Type 0
HoldsStack octas z = (i : ℕ) → octa_of octas i ≡ octa_of (all_registers z) i

-- A TURN

-- a state, and the trace of the turn that led to it from another, over some host
pub record ComesByTurn (s t : State) (trace : Option Trace) : Type 0 where
  pub host : HostModel
  pub state : t ≡ state_after (turn s host)
  pub traced : trace ≡ trace_of (turn s host)
