use Rattle.mx_record.specs.Recording.{IsReady}
use Rattle.test_replay.proofs.recorded.walks.walk_along.Given as goal

abbrev pub invariant-loop : goal.invariant-loop
invariant-loop l = IsReady l.recorder
