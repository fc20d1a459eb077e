use Rattle.std.proofs.Common.{◌∙◌, subst}
use Rattle.mx_multi.specs.Clauses.{TakesTurnBetween}
use Rattle.mx_multi.specs.Seats.{seated}
use Rattle.mx_multi.proofs.seats.Seats.turn.Goals as goal

pub turn_here-requires : goal.turn_here-requires
turn_here-requires g c = rw (c.seat.ensures.halted, c.seat.ensures.at, c.from.ensures) c.requires.runs

pub returns-clause-turn : goal.returns-clause-turn
returns-clause-turn g c =
    let o = g.H.Host.told c.args.host.now in
    let p = g.H.Host.told c.turn_here.new.host in
    let e = g.H.Host.faults c.args.host.now in
    let f = g.H.Host.faults c.turn_here.new.host in
    subst (λ j. TakesTurnBetween o p e f j (seated c.turn_here.new.self) c.args.who c.turn_here.result) c.seat.ensures.same
    (subst (λ k. TakesTurnBetween o p e f (seated c.seat.new.self) (seated c.turn_here.new.self) k c.turn_here.result) (c.seat.ensures.at ∙ c.from.ensures) c.turn_here.ensures.turn)
