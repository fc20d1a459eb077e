-- What is told after an outcome: lines, the message, and reports. A write that fails changes the outcome of lines, and nothing else.
use Rattle.std.specs.Prelude.{ℕ, List, [], ◌∷◌, Result, Ok, Err}
use Rattle.mx_host.specs.declared.faults.HostFault.{HostFault}
use Rattle.mx_plan.specs.Plan.{returns, bind, end_of}
use Rattle.mx_plan.specs.Calls.{HostPlan, host, need, write_plan}
use Rattle.mx_plan.specs.Wild.{then_on}
use Rattle.mx_files.specs.Answers.{Answer, plainly}
use Rattle.mx_files.specs.FilePlans.{lines_plan}
use Rattle.mx_outcome.specs.Messages.{message_of}
use Rattle.mx_outcome.specs.declared.outcome.Outcome.{Outcome}
use Rattle.mx_dump.specs.Dump.{Line}

-- lines are written after an outcome, which stays where all are
abbrev pub written_with : Outcome → Result (Unit {0}) Outcome → Outcome
written_with outcome (Ok u) = outcome
written_with outcome (Err other) = other

unfoldable pub telling : Outcome → List Line → HostPlan Outcome
telling outcome lines = bind (λ r. returns (written_with outcome r)) (lines_plan lines)

-- ---- the message, and reports after it: a write that fails changes nothing else

-- a line is written, if there is one
abbrev pub said_plan : Outcome → List ℕ → HostPlan Outcome
said_plan outcome [] = returns outcome
said_plan outcome (b ∷ bs) = bind (λ r. returns outcome) (write_plan 260 (b ∷ bs))

-- it takes memory to be made; where there is none, nothing does
abbrev pub message_if : Outcome → List ℕ → HostPlan Outcome
message_if outcome [] = returns outcome
message_if outcome (b ∷ bs) = bind (λ u. said_plan outcome (b ∷ bs)) need

unfoldable pub message_plan : Outcome → HostPlan Outcome
message_plan outcome = message_if outcome (message_of outcome)

-- each report that is not empty is written by one call
unfoldable pub report_plan : List ℕ → HostPlan (Result (Unit {0}) HostFault)
report_plan [] = returns (Ok tt)
report_plan (b ∷ bs) = write_plan 260 (b ∷ bs)

unfoldable pub reports_plan : Outcome → List (List ℕ) → HostPlan Outcome
reports_plan outcome [] = returns outcome
reports_plan outcome (text ∷ texts) = bind (λ r. reports_plan outcome texts) (report_plan text)

-- ---- what comes of an answer with them: they follow its outcome, unless it met something wild

abbrev pub with_message : Answer → Answer
with_message = then_on (λ outcome m. plainly (end_of host (message_plan outcome) m))

abbrev pub with_reports : List (List ℕ) → Answer → Answer
with_reports texts = then_on (λ outcome m. plainly (end_of host (reports_plan outcome texts) m))
