use Rattle.std.proofs.Common.{rules, arith}
use Rattle.mx_core.specs.Kept.{state_of}
use Rattle.mx_record.proofs.Beyond.{specials-beyond}
use Rattle.mx_record.proofs.Telling.{tells-all}
use Rattle.mx_record.proofs.registers.special_changes.Goals as goal

pub returns : goal.returns
returns c = tells-all _ _ _ 0 32 (search rules) (λ q l. absurd (omega (arith, l))) (λ q l. specials-beyond (state_of c.args.old.now) (state_of c.args.new.now) _ _ q c.machines_keep_the_invariant.ensures c.machines_keep_the_invariant-2.ensures l)
