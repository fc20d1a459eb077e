use Rattle.std.proofs.Common.{arith, ◌<◌, length, sym, ◌∙◌}
use Rattle.std.proofs.lemmas.Bool.Decides.{nat_tests}
use Rattle.mx_ops.proofs.Operations.{symbol-found, after-colon, no-colon, no-bytes}
use Rattle.mx_ops.proofs.lookup.predefined.Goals as goal
use Rattle.mx_ops.proofs.lookup.predefined.Goals.{then-is_empty-via-then-is_empty, then-is_empty-via-else-is_empty+then-name-ne58}

pub returns-then-is_empty-clause-value : goal.returns-then-is_empty-clause-value
returns-then-is_empty-clause-value c =
    elim c.then-is_empty.branch [ then-is_empty-via-then-is_empty w ↦ no-bytes _ (sym w.if-is_empty.ensures) | then-is_empty-via-else-is_empty+then-name-ne58 w ↦ no-colon _ (λ is. absurd (w.if-name-ne58.true is)) ]

pub returns-clause-value : goal.returns-clause-value
returns-clause-value c =
    let some : 0 < length c.args.name.now = grind (arith, nat_tests, c.if-is_empty.ensures) in
    c.value_of.ensures ∙ after-colon _ some c.if-name-ne58.false

pub returns-clause-listed : goal.returns-clause-listed
returns-clause-listed c = λ bare v is has. returns-clause-value c ∙ symbol-found _ bare v is has
