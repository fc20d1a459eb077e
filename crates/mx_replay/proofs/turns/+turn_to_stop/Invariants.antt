use Rattle.std.proofs.Common.{length}
use Rattle.mx_replay.proofs.turns.+turn_to_stop.Given as goal

abbrev pub decreases-turn_to_stop : goal.decreases-turn_to_stop
decreases-turn_to_stop l = length l.watches.now
