use Rattle.std.proofs.Common.{◌≡◌}
use Rattle.mx_names.specs.Waiting.{all_in_order, earlier_of_two, first_of, lent_wait}
use Rattle.mx_names.proofs.First.{EachRising}
use Rattle.mx_names.proofs.waiting.Waiting.first.Given as goal

abbrev pub invariant-loop-group : goal.invariant-loop-group
invariant-loop-group l = record {
  rising : EachRising l.group-iterator;
  first : earlier_of_two (lent_wait l.first) (first_of (all_in_order l.group-iterator)) ≡ first_of (all_in_order l.initial.group-iterator);
}
