use Rattle.std.proofs.Common.{arith, sym, ◌∙◌, ap, length, length-drop}
use Rattle.mx_mmo.proofs.Skips.{four-first, looked-end, looked-more, looked-none, rest-more}
use Rattle.mx_mmo.proofs.skipping.skip.Goals as goal

pub returns-in-None-clause-size : goal.returns-in-None-clause-size
returns-in-None-clause-size c =
    sym (looked-end c.loop-rest.scan.size c.args.more.now c.loop-rest.scan.quoted _ _ _ _ _ c.loop-rest.invariant.within
    (sym c.loop-rest.invariant.rest ∙ four-first c.loop-rest.rest.now c.in-len4-up.len_at_least) c.loop-rest.invariant.looked (sym c.quote_after.ensures ∙ c.in-None.is))

pub loop-rest-preserved : goal.loop-rest-preserved
loop-rest-preserved c = record {
  rest = rest-more c.loop-rest.scan.size c.args.more.now c.loop-rest.rest.now c.loop-rest.invariant.rest;
  within = omega (arith, c.in-len4-up.len_at_least, length-drop c.loop-rest.scan.size c.args.more.now, ap length c.loop-rest.invariant.rest);
  looked = looked-more c.loop-rest.scan.size c.args.more.now c.loop-rest.scan.quoted c.in-Some.quoted _ _ _ _ _
      (sym c.loop-rest.invariant.rest ∙ four-first c.loop-rest.rest.now c.in-len4-up.len_at_least) c.loop-rest.invariant.looked (sym c.quote_after.ensures ∙ c.in-Some.is);
}

pub returns-clause-size : goal.returns-clause-size
returns-clause-size c =
    sym (looked-none c.loop-rest.scan.size c.args.more.now c.loop-rest.scan.quoted c.loop-rest.invariant.within c.loop-rest.invariant.looked
    (omega (arith, c.in_default.len_below, ap length c.loop-rest.invariant.rest)))
