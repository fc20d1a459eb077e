use Rattle.std.proofs.Common.{◌≡◌, length, None}
use Rattle.mx_object.specs.Reading.{left}
use Rattle.mx_object.proofs.reading.note_all.Given as goal

abbrev pub invariant-loop-e : goal.invariant-loop-e
invariant-loop-e l = record {
  read : l.reader.fault ≡ None;
  left : left l.fn.addresses 0 l.fn.reader ≡ left l.addresses l.lambda l.reader;
}

abbrev pub decreases-loop-e : goal.decreases-loop-e
decreases-loop-e l = length l.reader.rest
