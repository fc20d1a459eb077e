use Rattle.std.proofs.Common.{[], ◌∷◌, ◌++◌, ap, ◌∙◌}
use Rattle.mx_start.proofs.Pools.{pool-built}
use Rattle.mx_start.proofs.pool.octas_between.Goals as goal

pub returns : goal.returns
returns c =
    pool-built c.args.texts.now c.args.first c.args.end c.push.new.self c.append_addresses.new.octas c.push-2.new.self c.append_texts.new.octas
    c.requires.first c.requires.end (c.in_ok-push.ensures.ok ∙ ap (λ l. l ++ c.args.end ∷ []) c.new-octas.ensures)
    c.in_ok-append_addresses.ensures c.in_ok-push-2.ensures.ok c.in_ok-append_texts.ensures
