use Rattle.std.proofs.Common.{◌≡◌, Ok, drop}
use Rattle.mx_load.proofs.Words.{AllByRecursion, nothing, take_items, Fits, told, status}
use Rattle.mx_load.proofs.Taken.{after_all}
use Rattle.mx_load.proofs.whole.load.Given as goal

-- the items that are left lead from the status to where all lead to
abbrev pub invariant-loop-item : goal.invariant-loop-item
invariant-loop-item l = record {
  fits : AllByRecursion Fits (drop l.item-index l.items);
  same : told (take_items l.items (Ok nothing)) ≡ after_all (status l.loader) (drop l.item-index l.items);
}
