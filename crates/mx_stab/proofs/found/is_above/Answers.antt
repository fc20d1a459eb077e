use Rattle.std.proofs.Common.{ap, ◌∙◌}
use Rattle.mx_stab.proofs.Words.{slice_cmp, nat_cmp, is_lt}
use Rattle.mx_stab.proofs.NameSets.{above-last}
use Rattle.mx_stab.proofs.found.is_above.Goals as goal

pub returns-in-len1-up : goal.returns-in-len1-up
returns-in-len1-up c = c.is_lt.ensures ∙ ap is_lt c.cmp.ensures ∙ ap (λ n. is_lt (slice_cmp nat_cmp n c.args.name.now)) c.as_slice.ensures ∙ above-last c.args.name.now c.args.symbols.now c.last-item.result c.in-len1-up.len_at_least c.last-item.is
