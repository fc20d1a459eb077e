use Rattle.std.proofs.Common.{length, arith, rules}
use Rattle.std.proofs.lemmas.Grind.{common_steps}
use Rattle.mx_stab.proofs.Told.{digit-taken, digits-fit}
use Rattle.mx_stab.proofs.values.number_of_bytes.Goals as goal

pub with_byte-x-requires : goal.with_byte-x-requires
with_byte-x-requires c = digits-fit c.loop-rest.x (length c.args.bytes.now) (length c.loop-rest.rest.now) c.requires c.in-len1-up.len_at_least c.loop-rest.invariant.most

pub loop-rest-preserved : goal.loop-rest-preserved
loop-rest-preserved c = record {
  same = grind (arith, common_steps);
  fewer = search rules;
  most = digit-taken c.loop-rest.x _ (length c.args.bytes.now) (length c.loop-rest.rest.now) _ c.with_byte-x.ensures.most c.loop-rest.invariant.fewer (search rules) c.loop-rest.invariant.most;
}
