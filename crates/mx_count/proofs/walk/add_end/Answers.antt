use Rattle.std.proofs.Common.{sym, ◌∙◌}
use Rattle.mx_count.proofs.CountedTraces.{halt-counted, none-counted}
use Rattle.mx_count.proofs.walk.add_end.Goals as goal

pub returns-then-is_halted : goal.returns-then-is_halted
returns-then-is_halted c = λ test. halt-counted test c.args.end c.args.pc _ _ (sym c.is_halted.ensures ∙ c.if-is_halted.true) (c.in_ok-add_halt.ensures test)

pub returns : goal.returns
returns c = λ test. none-counted test c.args.end c.args.pc _ (sym c.is_halted.ensures ∙ c.if-is_halted.false)
