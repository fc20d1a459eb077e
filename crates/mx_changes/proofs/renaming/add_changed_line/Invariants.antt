use Rattle.std.proofs.Common.{◌≡◌, ◌++◌, length}
use Rattle.mx_changes.specs.Changes.{changed_line}
use Rattle.mx_changes.proofs.renaming.add_changed_line.Given as goal

-- the names that are left are left to change
abbrev pub invariant-loop-rest : goal.invariant-loop-rest
invariant-loop-rest l =
    l.fn.text ++ changed_line l.named l.name l.number l.line 0 l.names ≡ l.text ++ changed_line l.named l.name l.number l.line l.done l.rest

abbrev pub decreases-loop-rest : goal.decreases-loop-rest
decreases-loop-rest l = length l.rest
