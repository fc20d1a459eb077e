use Rattle.std.proofs.Common.{◌≡◌, length}
use Rattle.serde_json.specs.View.{items_view}
use Rattle.mx_lsp.specs.Messages.{changed_by}
use Rattle.mx_lsp.proofs.changes.make_changes.Given as goal

-- the changes that are left are left to make
abbrev pub invariant-loop-rest : goal.invariant-loop-rest
invariant-loop-rest l = changed_by l.text (items_view l.changes) ≡ changed_by l.whole (items_view l.rest)

abbrev pub decreases-loop-rest : goal.decreases-loop-rest
decreases-loop-rest l = length l.rest
