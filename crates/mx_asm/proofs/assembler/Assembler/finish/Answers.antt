use Rattle.std.proofs.Common.{rules, Ok, Err}
use Rattle.mx_asm.proofs.Words.{Ended, assembled_lines}
use Rattle.mx_asm.proofs.Fitting.{grows-whole}
use Rattle.mx_asm.proofs.ObjectItems.{assembled-valid}
use Rattle.mx_asm.proofs.InTurn.{end-taken, end-grows}
use Rattle.mx_asm.proofs.assembler.Assembler.finish.Goals as goal

pub returns-in-Some-clause-whole : goal.returns-in-Some-clause-whole
returns-in-Some-clause-whole c = λ lines taken memory. end-taken lines c.args.out.now c.args.self.now (c.args.out.now, Err c.in-Some.refused) (search rules) taken

pub returns-in-Ok-clause-whole : goal.returns-in-Ok-clause-whole
returns-in-Ok-clause-whole c = λ lines taken memory. end-taken lines c.args.out.now c.args.self.now (c.end.new.out, Ok c.in-Ok.trie) (search rules) taken

pub returns-in-Err-clause-whole : goal.returns-in-Err-clause-whole
returns-in-Err-clause-whole c = λ lines taken memory. end-taken lines c.args.out.now c.args.self.now (c.end.new.out, Err c.in-Err.refused) (search rules) taken

pub returns-in-Some-clause-items : goal.returns-in-Some-clause-items
returns-in-Some-clause-items c = λ lines taken memory. end-grows lines c.args.out.now c.args.self.now (c.args.out.now, Err c.in-Some.refused) (search rules) taken

pub returns-in-Ok-clause-items : goal.returns-in-Ok-clause-items
returns-in-Ok-clause-items c = λ lines taken memory. end-grows lines c.args.out.now c.args.self.now (c.end.new.out, Ok c.in-Ok.trie) (search rules) taken

pub returns-in-Err-clause-items : goal.returns-in-Err-clause-items
returns-in-Err-clause-items c = λ lines taken memory. end-grows lines c.args.out.now c.args.self.now (c.end.new.out, Err c.in-Err.refused) (search rules) taken

pub returns-in-Ok-clause-object : goal.returns-in-Ok-clause-object
returns-in-Ok-clause-object c = λ lines taken fit.
    let ended : Ended = (c.end.new.out, Ok c.in-Ok.trie) in
    record {
      valid =
          assembled-valid lines (assembled_lines lines).0 c.in-Ok.trie (λ i. ((assembled_lines lines).0, end-taken lines c.args.out.now c.args.self.now ended (search rules) taken i))
          (grows-whole _ _ c.args.out.now c.end.new.out (end-grows lines c.args.out.now c.args.self.now ended (search rules) taken) c.in-Ok.ensures.fits fit);
      padded = c.in-Ok.ensures.trie;
    }
