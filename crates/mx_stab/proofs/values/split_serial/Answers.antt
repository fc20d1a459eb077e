use Rattle.std.proofs.Common.{arith, rules}
use Rattle.std.proofs.lemmas.Grind.{common_steps}
use Rattle.mx_stab.proofs.Told.{serial-more}
use Rattle.mx_stab.proofs.values.split_serial.Goals as goal

pub loop-rest-preserved : goal.loop-rest-preserved
loop-rest-preserved c = record {
  same = grind (arith, common_steps, serial-more);
  fewer = search rules;
  most = omega (arith, c.min-x.ensures);
}
