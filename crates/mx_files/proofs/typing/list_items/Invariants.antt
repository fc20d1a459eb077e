use Rattle.std.proofs.Common.{◌≡◌, None, length}
use Rattle.mx_files.specs.Clauses.{Leaves}
use Rattle.mx_files.specs.ObjectPlans.{typed_plan}
use Rattle.mx_files.specs.Typed.{still_typed}
use Rattle.mx_files.proofs.typing.list_items.Given as goal

-- what the reader still gives is left to list
abbrev pub invariant-loop-outcome : goal.invariant-loop-outcome
invariant-loop-outcome g l = record {
  read : l.reader.fault ≡ None;
  left : Leaves (g.H.Host.told l.fn.host) (g.H.Host.told l.host) (g.H.Host.faults l.fn.host) (g.H.Host.faults l.host)
      (typed_plan (still_typed l.lister l.reader)) (typed_plan (still_typed l.fn.lister l.fn.reader));
}

abbrev pub decreases-loop-outcome : goal.decreases-loop-outcome
decreases-loop-outcome g l = length l.reader.rest
