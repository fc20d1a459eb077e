use Rattle.mx_count.proofs.CountedRuns.{text-told}
use Rattle.mx_count.proofs.count.count_source.Goals as goal

pub returns-clause-told : goal.returns-clause-told
returns-clause-told g c =
    text-told _ _ c.args.order.now c.args.arguments.now c.args.source.now _ _ c.text_of.ensures.lacking c.text_of.ensures.value c.count_lines-counted.ensures.told

pub returns-clause-none : goal.returns-clause-none
returns-clause-none g c = c.text_of.ensures.none c.count_lines-counted.ensures.none
