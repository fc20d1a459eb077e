use Rattle.std.proofs.Common.{rules, Err}
use Rattle.mx_asm.proofs.InTurn.{line-taken, line-grows}
use Rattle.mx_asm.proofs.OnePassLaw.{open-before}
use Rattle.mx_asm.proofs.assembler.Assembler.line.Goals as goal

pub returns-in-Ok-Ok-clause-lines : goal.returns-in-Ok-Ok-clause-lines
returns-in-Ok-Ok-clause-lines c = λ lines taken memory. line-taken lines c.args.text.now c.args.out.now c.try_line.new.out c.args.self.now c.try_line.new.self (search rules) taken

pub returns-in-Ok-Ok-clause-items : goal.returns-in-Ok-Ok-clause-items
returns-in-Ok-Ok-clause-items c = λ lines taken memory. line-grows lines c.args.text.now c.args.out.now c.try_line.new.out c.args.self.now c.try_line.new.self (search rules) taken

pub returns-in-Ok-Err-clause-lines : goal.returns-in-Ok-Err-clause-lines
returns-in-Ok-Err-clause-lines c = λ lines taken memory. line-taken lines c.args.text.now c.args.out.now c.try_line.new.out c.args.self.now (Err c.in-Ok-Err.refused) (search rules) taken

pub returns-in-Ok-Err-clause-items : goal.returns-in-Ok-Err-clause-items
returns-in-Ok-Err-clause-items c = λ lines taken memory. line-grows lines c.args.text.now c.args.out.now c.try_line.new.out c.args.self.now (Err c.in-Ok-Err.refused) (search rules) taken

pub returns-in-Err-clause-lines : goal.returns-in-Err-clause-lines
returns-in-Err-clause-lines c = λ lines taken memory. line-taken lines c.args.text.now c.args.out.now c.try_line.new.out c.args.self.now c.try_line.new.self (search rules) taken

pub returns-in-Err-clause-items : goal.returns-in-Err-clause-items
returns-in-Err-clause-items c = λ lines taken memory. line-grows lines c.args.text.now c.args.out.now c.try_line.new.out c.args.self.now c.try_line.new.self (search rules) taken

pub returns-in-Ok-Err-clause-refusal_again : goal.returns-in-Ok-Err-clause-refusal_again
returns-in-Ok-Err-clause-refusal_again c = open-before _ c.args.self.now c.try_line.result c.in-Ok-Err.field-0 (cc) c.try_line.ensures.closed
