use Rattle.std.proofs.Common.{arith}
use Rattle.mx_word.proofs.Ranges.{bytes-each}
use Rattle.mx_mmo.proofs.Firsts.{first-within, given-within}
use Rattle.mx_mmo.proofs.Told.{first-tells, given-fits}
use Rattle.mx_mmo.proofs.due.read_first_item.Goals as goal

pub returns-clause-within : goal.returns-clause-within
returns-clause-within c =
    given-within c.due_item.result _ _ c.due_item.ensures.item (first-within c.args.phase c.args.at c.args.rest.now)

pub returns-clause-fits : goal.returns-clause-fits
returns-clause-fits c =
    given-fits c.args.phase c.args.at c.args.rest.now c.due_item.result _ c.due_item.ensures.item
    (first-tells c.args.phase c.args.at c.args.rest.now (bytes-each c.args.rest.now (λ i. omega (arith, c.type_inv.rest i))))
