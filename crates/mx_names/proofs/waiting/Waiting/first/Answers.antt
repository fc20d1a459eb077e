use Rattle.std.proofs.Common.{refl, sym, ap, subst, ◌∙◌, option_map}
use Rattle.mx_names.specs.Waiting.{Numbered, all_in_order, first_of, earlier_of_two, lent_wait}
use Rattle.mx_names.proofs.First.{EachRising, rising-all, first-more, first-is}
use Rattle.mx_names.proofs.waiting.Waiting.first.Goals as goal

pub loop-group-init : goal.loop-group-init
loop-group-init c = record {
  rising = subst EachRising (sym c.into_iter-group-iterator.ensures.into_iter_gives.0) (rising-all (λ k. k.items) c.self.inside.made c.self.inside.groups.entries c.self.invariant);
  first = refl;
}

pub loop-group-preserved : goal.loop-group-preserved
loop-group-preserved c =
    let rising = subst EachRising c.in-Some.ensures.steps c.loop-group.invariant.rising in
    record {
      rising = rising.1;
      first =
          first-more (lent_wait c.loop-group.first) (lent_wait c.earlier_of_two-first.result) (c.in-Some.field-0-0.now, c.in-Some.group.now) c.next.new.self rising.0 (c.earlier_of_two-first.ensures ∙ ap (earlier_of_two (lent_wait c.loop-group.first)) c.first.ensures)
          ∙ ap (λ l. earlier_of_two (lent_wait c.loop-group.first) (first_of (all_in_order l))) (sym c.in-Some.ensures.steps)
          ∙ c.loop-group.invariant.first;
    }

pub returns-in-Some-first : goal.returns-in-Some-first
returns-in-Some-first c =
    ap (λ o. option_map (λ (x : Numbered). x.1) (lent_wait o)) (sym c.in-Some-first.is)
    ∙ first-is (lent_wait c.loop-group.first) c.loop-group.group-iterator c.into_iter-group-iterator.result c.self.inside.groups.entries c.args.self.now c.in-None.ensures.steps.0 c.loop-group.invariant.first c.into_iter-group-iterator.ensures.into_iter_gives.0 c.self.view_is

pub returns-in-None-first : goal.returns-in-None-first
returns-in-None-first c =
    ap (λ o. option_map (λ (x : Numbered). x.1) (lent_wait o)) (sym c.in-None-first.is)
    ∙ first-is (lent_wait c.loop-group.first) c.loop-group.group-iterator c.into_iter-group-iterator.result c.self.inside.groups.entries c.args.self.now c.in-None.ensures.steps.0 c.loop-group.invariant.first c.into_iter-group-iterator.ensures.into_iter_gives.0 c.self.view_is
