use Rattle.mx_asm.proofs.EndLaw.{whole-is}
use Rattle.mx_asm.proofs.laws.one_pass_gives_the_whole.Goals as goal

pub returns : goal.returns
returns c = whole-is
