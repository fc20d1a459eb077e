use Rattle.std.proofs.Common.{ap, drop, ◌∙◌}
use Rattle.mx_multi.specs.Stretches.{running}
use Rattle.mx_multi.proofs.runs.leave_out.Goals as goal

pub leave_out_halted-requires-clause-names : goal.leave_out_halted-requires-clause-names
leave_out_halted-requires-clause-names c = rw c.halted.ensures.count c.requires.names

pub returns-clause-names : goal.returns-clause-names
returns-clause-names c = c.leave_out_halted.ensures.names ∙ ap (λ hs. running hs c.args.queue.now.names.items) c.halted.ensures.flags

pub returns-clause-place : goal.returns-clause-place
returns-clause-place c = c.leave_out_halted.ensures.place ∙ ap (λ hs. running hs (drop c.args.queue.now.at c.args.queue.now.names.items)) c.halted.ensures.flags
