use Rattle.std.proofs.Common.{sym, ◌∙◌, arith}
use Rattle.mx_slips.proofs.TokenTurns.{tokens-none}
use Rattle.mx_slips.proofs.tokens.tokens_of.Goals as goal

pub returns : goal.returns
returns c = sym (c.loop-rest.invariant ∙ tokens-none c.loop-rest.tokens c.args.end c.loop-rest.rest.now (omega (arith, c.in_default.len_below)))
