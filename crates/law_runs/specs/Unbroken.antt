-- Runs, and programs, that end by themselves.
use Rattle.std.specs.Prelude.{ℕ, Bool, true, false}
use Rattle.mx_plan.specs.Wild.{Course, ends, meets_wild}
use Rattle.mx_run.specs.RunPlans.{RunWorld}
use Rattle.mx_run.specs.declared.end.End.{End}
use Rattle.mx_files.specs.Answers.{Answer}
use Rattle.mx_begin.specs.Ends.{outcome_of}
use Rattle.mx_outcome.specs.declared.outcome.Outcome.{Outcome}
use Rattle.mx_outcome.specs.declared.outcome.Outcome.TheVariants.{OutOfMemory}

-- whether an outcome is other than that of no memory, which means a break too
abbrev pub is_outcome_told : Outcome → Bool
is_outcome_told OutOfMemory = false
is_outcome_told outcome = true

-- whether that of a run of at most this many steps is
abbrev pub is_run_told : ℕ → Course End RunWorld → Bool
is_run_told steps (ends end w) = is_outcome_told (outcome_of steps end)
is_run_told steps (meets_wild w) = true

abbrev pub is_answer_told : Answer → Bool
is_answer_told (ends outcome m) = is_outcome_told outcome
is_answer_told (meets_wild m) = true
