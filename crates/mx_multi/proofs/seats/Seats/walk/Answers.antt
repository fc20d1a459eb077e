use Rattle.std.proofs.Common.{◌∙◌, subst}
use Rattle.mx_multi.specs.Seats.{seated}
use Rattle.mx_multi.specs.Stretches.{Stretch}
use Rattle.mx_multi.proofs.seats.Seats.walk.Goals as goal

pub walk_here-requires : goal.walk_here-requires
walk_here-requires c = rw (c.seat.ensures.halted, c.seat.ensures.at, c.from.ensures) c.requires.runs

pub returns-clause-turns : goal.returns-clause-turns
returns-clause-turns c =
    subst (λ j. Stretch c.walk_here.result c.args.who j (seated c.walk_here.new.self)) c.seat.ensures.same
    (subst (λ k. Stretch c.walk_here.result k (seated c.seat.new.self) (seated c.walk_here.new.self)) (c.seat.ensures.at ∙ c.from.ensures) c.walk_here.ensures.turns)
