use Rattle.std.proofs.Common.{sym, ◌∙◌, ap, subst, nat_cmp}
use Rattle.mx_names.proofs.Words.{lookup, is_at, slice_cmp, all_in_order, waits_of, waits_for, waits_for_others, AreGroups}
use Rattle.mx_names.proofs.Taken.{groups-less, taken-group, taken-none, left-group, left-all}
use Rattle.mx_names.proofs.waiting.Waiting.take.Goals as goal

pub invariant_of-self : goal.invariant_of-self
invariant_of-self c =
    subst (AreGroups (λ k. k.items) c.self.inside.made) (sym c.remove.ensures.entries)
    (groups-less (λ k. k.items) c.self.inside.made c.args.who.now c.as_slice.result.now (c.as_slice.ensures.value ∙ c.in_ok-key.ensures) c.self.inside.groups.entries c.self.invariant)

pub returns-in-Some-clause-taken : goal.returns-in-Some-clause-taken
returns-in-Some-clause-taken c =
    let gone = ap (lookup (is_at (λ k. slice_cmp nat_cmp c.as_slice.result.now k.items))) (sym c.remove.ensures.entries) ∙ c.remove.ensures.updates.1 in
    c.into_waits.ensures
    ∙ taken-group (λ k. k.items) c.self.inside.made c.args.who.now c.as_slice.result.now (c.as_slice.ensures.value ∙ c.in_ok-key.ensures) c.self.inside.groups.entries c.self.invariant c.in-Some.group c.in-Some.ensures.value gone
    ∙ ap (waits_for c.args.who.now) c.self.view_is

pub returns-in-Some-clause-left : goal.returns-in-Some-clause-left
returns-in-Some-clause-left c =
    let gone = ap (lookup (is_at (λ k. slice_cmp nat_cmp c.as_slice.result.now k.items))) (sym c.remove.ensures.entries) ∙ c.remove.ensures.updates.1 in
    ap (λ es. waits_of (all_in_order es)) c.remove.ensures.entries
    ∙ left-group (λ k. k.items) c.self.inside.made c.args.who.now c.as_slice.result.now (c.as_slice.ensures.value ∙ c.in_ok-key.ensures) c.self.inside.groups.entries c.self.invariant gone
    ∙ ap (waits_for_others c.args.who.now) c.self.view_is

pub returns-clause-taken : goal.returns-clause-taken
returns-clause-taken c =
    c.new.ensures
    ∙ taken-none (λ k. k.items) c.self.inside.made c.args.who.now c.as_slice.result.now (c.as_slice.ensures.value ∙ c.in_ok-key.ensures) c.self.inside.groups.entries c.self.invariant c.in-None.ensures.value
    ∙ ap (waits_for c.args.who.now) c.self.view_is

pub returns-clause-left : goal.returns-clause-left
returns-clause-left c =
    ap (λ es. waits_of (all_in_order es)) c.in-None.ensures.unchanged
    ∙ left-all (λ k. k.items) c.self.inside.made c.args.who.now c.as_slice.result.now (c.as_slice.ensures.value ∙ c.in_ok-key.ensures) c.self.inside.groups.entries c.self.invariant c.in-None.ensures.value
    ∙ ap (waits_for_others c.args.who.now) c.self.view_is
