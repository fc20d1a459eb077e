use Rattle.mx_asm.proofs.Fronts.{end-front}
use Rattle.mx_asm.proofs.assembly.Assembly.end.Goals as goal

pub returns-in_err-trie-clause-front : goal.returns-in_err-trie-clause-front
returns-in_err-trie-clause-front c = end-front c.args.out.now c.args.self.now
