-- What is counted of the steps of a run, by their traces.
use Rattle.std.specs.Prelude.{ℕ, ◌+◌, ◌/◌, ◌^◌, ◌==◌, not, Bool, if◌then◌else◌, List, [], ◌∷◌}
use Rattle.mx_code.specs.declared.trace.Trace.{Trace}
use Rattle.mx_costs.specs.Costs.{oops, mems}
use Rattle.mx_count.specs.declared.tally.Tally.{Tally}

-- the tally of no steps, and that of these steps and those
unfoldable pub nothing : Tally
nothing = record { times = 0; away = 0; oops = 0; mems = 0 }

unfoldable pub added : Tally → Tally → Tally
added x y = record { times = x.times + y.times; away = x.away + y.away; oops = x.oops + y.oops; mems = x.mems + y.mems }

-- the code of the instruction that a step fetched
abbrev pub code_in : Trace → ℕ
code_in t = t.word / 2 ^ 24

-- whether the address that follows a step is another one than the next
abbrev pub is_away : ℕ → ℕ → Bool
is_away pc next = not (next == pc + 4)

abbrev pub goes_away : Trace → Bool
goes_away t = is_away t.pc t.next

-- the tally of one step
abbrev pub step_tally : Trace → Tally
step_tally t = record {
  times = 1;
  away = if goes_away t then 1 else 0;
  oops = oops (code_in t) (goes_away t);
  mems = mems (code_in t);
}

-- the tally of a step, if its address passes a test
abbrev pub tally_if : (ℕ → Bool) → Trace → Tally
tally_if test t = if test t.pc then step_tally t else nothing

-- the tally of those of these steps whose address passes a test
unfoldable pub tally_in : (ℕ → Bool) → List Trace → Tally
tally_in test [] = nothing
tally_in test (t ∷ ts) = added (tally_if test t) (tally_in test ts)
