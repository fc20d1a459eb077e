use Rattle.std.proofs.Common.{◌≡◌, ◌+◌, length, None}
use Rattle.mx_load.specs.Answers.{loaded_from}
use Rattle.mx_load.proofs.Loading.{Left-of}
use Rattle.mx_load.proofs.objects.load_items.Given as goal

abbrev pub invariant-loop-fault : goal.invariant-loop-fault
invariant-loop-fault l = record {
  read : l.reader.fault ≡ None;
  left : Left-of (loaded_from (length l.fn.reader.rest + 1) l.fn.progress l.fn.reader) l.progress l.reader;
}

abbrev pub decreases-loop-fault : goal.decreases-loop-fault
decreases-loop-fault l = length l.reader.rest
