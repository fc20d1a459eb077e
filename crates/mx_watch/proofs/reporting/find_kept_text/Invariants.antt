use Rattle.std.proofs.Common.{◌≡◌, drop}
use Rattle.mx_watch.specs.Reporting.{kept_at}
use Rattle.mx_watch.proofs.reporting.find_kept_text.Given as goal

abbrev pub invariant-loop-report : goal.invariant-loop-report
invariant-loop-report l = kept_at l.place l.kept ≡ kept_at l.place (drop l.report-index l.kept)
