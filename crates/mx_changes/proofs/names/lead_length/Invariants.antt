use Rattle.std.proofs.Common.{◌≡◌, ◌+◌, length}
use Rattle.mx_changes.specs.Names.{lead_from}
use Rattle.mx_changes.proofs.names.lead_length.Given as goal

abbrev pub invariant-loop-rest : goal.invariant-loop-rest
invariant-loop-rest l = record {
  lead : lead_from 0 0 l.text ≡ lead_from l.place l.length l.rest;
  within : l.place + length l.rest ≡ length l.text;
}

abbrev pub decreases-loop-rest : goal.decreases-loop-rest
decreases-loop-rest l = length l.rest
