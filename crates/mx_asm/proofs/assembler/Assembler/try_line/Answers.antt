use Rattle.std.proofs.Common.{Ok}
use Rattle.mx_asm.specs.OnePass.{line_answer}
use Rattle.mx_asm.proofs.OnePassLaw.{answer-open}
use Rattle.mx_asm.proofs.assembler.Assembler.try_line.Goals as goal

pub returns-in_default-tried-clause-open : goal.returns-in_default-tried-clause-open
returns-in_default-tried-clause-open c =
    answer-open (line_answer c.take_line-tried.result) c.args.out.now c.take_line-tried.new.out (Ok c.self.inside.assembly) c.take_line-tried.new.assembly c.self.inside.refused c.args.text.now (cc)
    c.take_line-tried.ensures.taken
