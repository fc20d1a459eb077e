use Rattle.std.proofs.Common.{rules, arith, sym}
use Rattle.mx_core.specs.Kept.{state_of}
use Rattle.mx_record.proofs.Beyond.{special-beyond}
use Rattle.mx_record.proofs.Telling.{tells-all}
use Rattle.mx_record.proofs.start.special_values.Goals as goal

pub returns : goal.returns
returns c = tells-all _ _ _ 0 32 (search rules) (λ q l. absurd (omega (arith, l))) (λ q l. sym (special-beyond (state_of c.args.machine.now) _ q c.machines_keep_the_invariant.ensures l))
