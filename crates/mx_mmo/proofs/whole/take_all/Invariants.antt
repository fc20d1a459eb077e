use Rattle.std.proofs.Common.{◌≡◌, None, length}
use Rattle.mx_mmo.specs.Whole.{with_rest, fed}
use Rattle.mx_mmo.proofs.whole.take_all.Given as goal

abbrev pub invariant-loop-fault : goal.invariant-loop-fault
invariant-loop-fault l = record {
  same : with_rest l.items l.reader ≡ with_rest l.fn.items l.fn.reader;
  well : l.reader.fault ≡ None;
  end : fed l.reader ≡ fed l.fn.reader;
}

abbrev pub decreases-loop-fault : goal.decreases-loop-fault
decreases-loop-fault l = length l.reader.rest
