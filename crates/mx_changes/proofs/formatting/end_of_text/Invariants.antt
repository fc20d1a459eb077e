use Rattle.std.proofs.Common.{◌≡◌, ◌+◌, length}
use Rattle.mx_changes.specs.Layouts.{end_from}
use Rattle.mx_changes.proofs.formatting.end_of_text.Given as goal

abbrev pub invariant-loop-rest : goal.invariant-loop-rest
invariant-loop-rest l = record {
  left : end_from 0 0 l.text ≡ end_from l.place l.end l.rest;
  within : l.place + length l.rest ≡ length l.text;
}

abbrev pub decreases-loop-rest : goal.decreases-loop-rest
decreases-loop-rest l = length l.rest
