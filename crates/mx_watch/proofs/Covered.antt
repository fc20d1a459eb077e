-- A cover that was told a trace.
use Rattle.std.proofs.Common.{◌≡◌, ℕ, List, ap}
use Rattle.std.specs.BTreeSet.{insert_key}
use Rattle.std.specs.Ordering.{nat_cmp}
use Rattle.mx_code.specs.declared.trace.Trace.{Trace}
use Rattle.mx_watch.specs.Covers.{addresses_after, covering}
use Rattle.mx_watch.specs.Watching.{later}

pub cover_told : (addresses after : List ℕ) (t : Trace) → after ≡ insert_key nat_cmp addresses t.pc → covering after ≡ later t (covering addresses)
unfolding addresses_after
cover_told addresses after t e = ap covering e

pub ruleset told = (cover_told)
