use Rattle.std.proofs.Common.{◌≡◌, ◌++◌}
use Rattle.mx_watch.specs.Profiles as spec
use Rattle.mx_watch.proofs.profile.add_lines.Given as goal

abbrev pub invariant-loop-code : goal.invariant-loop-code
invariant-loop-code l = l.text ≡ l.fn.text ++ spec.profile_lines l.counts 0 l.code
