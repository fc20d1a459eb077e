use Rattle.std.proofs.Common.{rules, arith}
use Rattle.mx_core.specs.Kept.{state_of}
use Rattle.mx_record.proofs.Beyond.{globals-below, globals-beyond}
use Rattle.mx_record.proofs.Telling.{tells-all}
use Rattle.mx_record.proofs.registers.global_changes.Goals as goal

pub returns : goal.returns
returns c = tells-all _ _ _ c.from-first.result 256 (search rules) (λ q l. globals-below (state_of c.args.old.now) (state_of c.args.new.now) q (omega (arith, l, c.from-first.ensures, c.min.ensures, c.g.ensures)) (omega (arith, l, c.from-first.ensures, c.min.ensures, c.g-2.ensures))) (λ q l. globals-beyond (state_of c.args.old.now) (state_of c.args.new.now) _ _ q c.machines_keep_the_invariant.ensures c.machines_keep_the_invariant-2.ensures l)
