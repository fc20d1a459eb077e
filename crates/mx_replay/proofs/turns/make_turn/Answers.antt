use Rattle.std.proofs.Common.{refl}
use Rattle.mx_replay.proofs.Turning.{turned}
use Rattle.mx_replay.proofs.turns.make_turn.Goals as goal

pub returns-in-Some-clause-turn : goal.returns-in-Some-clause-turn
returns-in-Some-clause-turn c = record {
  count = refl;
  came = (turned _ _ _ _ _ _ _ _ c.turn-answer.ensures.turn.told c.in-Some.ensures c.pc-pc.ensures.value).0;
}

pub returns-in-Some-clause-trace : goal.returns-in-Some-clause-trace
returns-in-Some-clause-trace c = (turned _ _ _ _ _ _ _ _ c.turn-answer.ensures.turn.told c.in-Some.ensures c.pc-pc.ensures.value).1
