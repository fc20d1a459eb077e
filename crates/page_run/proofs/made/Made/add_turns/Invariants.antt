use Rattle.mx_record.specs.Recording.{IsReady}
use Rattle.page_run.proofs.made.Made.add_turns.Given as goal

abbrev pub invariant-loop-turn : goal.invariant-loop-turn
invariant-loop-turn l = IsReady l.recorder
