-- What is in the clauses of every function over a host: what it keeps, what it answers and
-- leaves, and when it may answer a failure. `old` and `new` are what the host told before and after,
-- `before` and `after` its counts of faults.
use Rattle.std.specs.Prelude.{ℕ, IsTrue, false, ◌≡◌, ◌≢◌, ◌≤◌, List, take, Option, Result, Err}
use Rattle.mx_word.specs.Lists.{IsFront}
use Rattle.mx_word.specs.Results.{map_ok}
use Rattle.mx_host.specs.declared.faults.HostFault.{HostFault}
use Rattle.mx_host.specs.declared.faults.HostFault.TheVariants.{OutOfMemory}
use Rattle.mx_host.specs.declared.slots.Slot.{Slot}
use Rattle.mx_host.specs.HostModel.{HostModel, tells, contents, counted, is_failing, slot_at, to_input, to_output, to_errors, Rose}
use Rattle.mx_host.specs.HostAnswer.{Then}

-- over a host that tells its contents, a slot that leads somewhere still does
abbrev pub KeepsSlot : Option HostModel → Option HostModel → ℕ → Slot → Type 0
KeepsSlot old new slot end = IsTrue (tells old) → slot_at (contents old) slot ≡ end → slot_at (contents new) slot ≡ end

-- over a host that tells its contents, standard output only grows
abbrev pub OnlyAddsOutput : Option HostModel → Option HostModel → Type 0
OnlyAddsOutput old new = IsTrue (tells old) → IsFront (contents old).output (contents new).output

-- what a function always keeps: whether the host tells its contents, a count of faults that never
-- falls, the tool's streams, each where its slot leads to it, and what is on standard output
pub record Keeps (old new : Option HostModel) (before after : ℕ) : Type 0 where
  pub telling : tells new ≡ tells old
  pub counting : before ≤ after
  pub input : KeepsSlot old new 258 to_input
  pub output : KeepsSlot old new 259 to_output
  pub errors : KeepsSlot old new 260 to_errors
  pub growing : OnlyAddsOutput old new

-- over a host that tells its contents, the answer and what the host then holds are those of f, unless
-- the answer is `none`, which is that of no memory
abbrev pub Answers : {A : Type 0} → Option HostModel → Option HostModel → A → A → (HostModel → Then A) → Type 0
Answers old new none result f = IsTrue (tells old) → result ≢ none → (result, contents new) ≡ f (contents old)

-- the bytes that a call put at the front of `into`, of which it gives the number
abbrev pub bytes_read : List ℕ → Result ℕ HostFault → Result (List ℕ) HostFault
bytes_read into result = map_ok (λ n. take n into) result

-- over a host that tells its contents, the bytes that a call read and what the host then holds are those of f, unless there
-- was no memory
abbrev pub AnswersRead : Option HostModel → Option HostModel → List ℕ → Result ℕ HostFault → (HostModel → Then (Result (List ℕ) HostFault)) → Type 0
AnswersRead old new into result f =
    IsTrue (tells old) → result ≢ Err OutOfMemory → (bytes_read into result, contents new) ≡ f (contents old)

-- over a host that tells its contents, where the answer is `none`, what standard output then holds is a
-- front of what f gives it
abbrev pub WritesFront : {A : Type 0} → Option HostModel → Option HostModel → A → A → (HostModel → Then A) → Type 0
WritesFront old new none result f = IsTrue (tells old) → result ≡ none → IsFront (contents new).output (f (contents old)).1.output

-- over a host that tells its contents, standard output is as it was
abbrev pub KeepsOutput : Option HostModel → Option HostModel → Type 0
KeepsOutput old new = IsTrue (tells old) → (contents new).output ≡ (contents old).output

-- over a host that tells its contents, the slots of the tool's standard input and output lead to these streams
unfoldable pub HasStreams : Option HostModel → Type 0
HasStreams old = IsTrue (tells old) → (slot_at (contents old) 258 ≡ to_input) × (slot_at (contents old) 259 ≡ to_output)

-- A call lacked memory: it is counted, and nothing else changed. One that is to fail fails, and never lacks memory.
pub record Lacked (m n : HostModel) : Type 0 where
  pub counts : n ≡ counted m
  pub spared : is_failing m ≡ false

-- over a host that tells its contents, that is so where the answer is that of no memory
abbrev pub LacksCalled : {A : Type 0} → Option HostModel → Option HostModel → A → A → Type 0
LacksCalled old new none result = IsTrue (tells old) → result ≡ none → Lacked (contents old) (contents new)

-- over a host that tells nothing, this answer comes only where the count of faults rose
abbrev pub ComesByFault : {A : Type 0} → Option HostModel → A → A → ℕ → ℕ → Type 0
ComesByFault old answer result before after = ¬ IsTrue (tells old) → result ≡ answer → Rose before after

-- over every host, as long as these slots lead to the streams, this answer comes only where the count of faults rose
abbrev pub OnlyByFailure : {A : Type 0} → Option HostModel → A → A → ℕ → ℕ → Type 0
OnlyByFailure old answer result before after = HasStreams old → result ≡ answer → Rose before after
