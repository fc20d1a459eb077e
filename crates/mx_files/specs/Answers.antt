-- What a command comes to: an outcome and the host as it then is.
use Rattle.std.specs.Prelude.{◌≡◌, ◌≢◌, IsTrue, Bool, if◌then◌else◌, ℕ, List, Option}
use Rattle.mx_word.specs.Lists.{IsFront}
use Rattle.mx_host.specs.HostModel.{HostModel, tells, contents}
use Rattle.mx_host.specs.HostAnswer.{Then}
use Rattle.mx_plan.specs.Wild.{Course, ends, meets_wild, world_of}
use Rattle.mx_outcome.specs.declared.outcome.Outcome.{Outcome}
use Rattle.mx_outcome.specs.declared.outcome.Outcome.TheVariants.{HostFault, OutOfMemory}

-- the outcome and the host; or, over the list machine, the host at the first step that looks at rS or at the memory of the
-- register stack
abbrev pub Answer : Type 0
Answer = Course Outcome HostModel

abbrev pub plainly : Then Outcome → Answer
plainly (outcome, m) = ends outcome m

-- lines are written one by one; a line that is not written is the outcome
abbrev pub after_lines : Outcome → Then Bool → Answer
after_lines outcome (written, m) = ends (if written then outcome else HostFault) m

-- what standard output then has
abbrev pub output_of : Answer → List ℕ
output_of answer = (world_of answer).output

-- ---- the words of clauses: `old` and `new` are what the host told before and after

-- over a host that tells its contents, the outcome and what the host then holds are those of f, unless out of memory
abbrev pub AnswersAs : Option HostModel → Option HostModel → Outcome → (HostModel → Answer) → Type 0
AnswersAs old new result f = IsTrue (tells old) → result ≢ OutOfMemory → ends result (contents new) ≡ f (contents old)

-- the same, up to what is wild: there standard output begins with what was written before
abbrev pub GoesAs : {A : Type 0} → Course A HostModel → A → HostModel → Type 0
GoesAs (ends a m) result new = (result ≡ a) × (new ≡ m)
GoesAs (meets_wild m) result new = IsFront m.output new.output

abbrev pub AnswersAsList : Option HostModel → Option HostModel → Outcome → (HostModel → Answer) → Type 0
AnswersAsList old new result f = IsTrue (tells old) → result ≢ OutOfMemory → GoesAs (f (contents old)) result (contents new)

-- over a host that tells its contents, out of memory, what standard output has is a front of what f writes
abbrev pub WritesFrontOf : Option HostModel → Option HostModel → Outcome → (HostModel → Answer) → Type 0
WritesFrontOf old new result f = IsTrue (tells old) → result ≡ OutOfMemory → IsFront (contents new).output (output_of (f (contents old)))
