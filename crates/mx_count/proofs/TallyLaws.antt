-- Sums of tallies.
use Rattle.std.proofs.Common.{◌≡◌, arith}
use Rattle.mx_count.specs.Tallies.{nothing, added}
use Rattle.mx_count.specs.declared.tally.Tally.{Tally}

tally-is : (x y : Tally) → x.times ≡ y.times → x.away ≡ y.away → x.oops ≡ y.oops → x.mems ≡ y.mems → x ≡ y
tally-is x y t a o m = λ i. record { times = t i; away = a i; oops = o i; mems = m i }

pub nothing-more : (x : Tally) → added x nothing ≡ x
unfolding nothing added
nothing-more x = tally-is _ _ (omega arith) (omega arith) (omega arith) (omega arith)

pub nothing-first : (x : Tally) → added nothing x ≡ x
unfolding nothing added
nothing-first x = tally-is _ _ (omega arith) (omega arith) (omega arith) (omega arith)

pub added-assoc : (x y z : Tally) → added (added x y) z ≡ added x (added y z)
unfolding nothing added
added-assoc x y z = tally-is _ _ (omega arith) (omega arith) (omega arith) (omega arith)

pub added-last : (x y z : Tally) → added (added x y) z ≡ added (added x z) y
unfolding nothing added
added-last x y z = tally-is _ _ (omega arith) (omega arith) (omega arith) (omega arith)

pub moved : (one x y : Tally) → added one (added x y) ≡ added (added one x) (added nothing y)
unfolding nothing added
moved one x y = tally-is _ _ (omega arith) (omega arith) (omega arith) (omega arith)

pub moved-second : (one x y : Tally) → added one (added x y) ≡ added (added nothing x) (added one y)
unfolding nothing added
moved-second one x y = tally-is _ _ (omega arith) (omega arith) (omega arith) (omega arith)
