use Rattle.std.proofs.Common.{sym, ◌∙◌, ap, nat_cmp}
use Rattle.mx_names.proofs.Words.{lookup, set_value, is_at, insert_entry, slice_cmp, on_ok_weaker, on_err_weaker}
use Rattle.std.proofs.lemmas.Map.Steps.{set_value_same}
use Rattle.mx_names.proofs.Groups.{grown-order, grown-groups, new-order, new-groups, key-tells}
use Rattle.mx_names.proofs.waiting.add.Goals as goal

pub returns-in-Some-clause-ok : goal.returns-in-Some-clause-ok
returns-in-Some-clause-ok c =
    on_ok_weaker c.push.result
    (grown-order (λ k. k.items) c.args.groups.now.entries _ c.args.number c.args.wait c.requires.groups _ c.in-Some.group.now c.push.new.self (c.get_mut.follows.holds c.push.new.self).0 c.in-Some.ensures.value)
    c.push.ensures.ok

pub returns-in-Some-clause-groups : goal.returns-in-Some-clause-groups
returns-in-Some-clause-groups c =
    on_ok_weaker c.push.result
    (grown-groups (λ k. k.items) c.args.groups.now.entries _ c.args.number c.args.wait c.requires.groups _ c.in-Some.group.now c.push.new.self (c.get_mut.follows.holds c.push.new.self).0 c.in-Some.ensures.value
    (λ k h. sym c.requires.key ∙ sym c.as_slice.ensures.value ∙ key-tells _ _ h))
    c.push.ensures.ok

pub returns-in-Some-clause-err : goal.returns-in-Some-clause-err
returns-in-Some-clause-err c =
    let write = (c.get_mut.follows.holds c.push.new.self).0 in
    on_err_weaker c.push.result
    (λ same. write ∙ ap (set_value (is_at (λ k. slice_cmp nat_cmp c.as_slice.result.now k.items)) c.args.groups.now.entries) same ∙ set_value_same _ c.args.groups.now.entries c.in-Some.group.now (sym c.in-Some.ensures.value))
    c.push.ensures.err

pub returns-clause-ok : goal.returns-clause-ok
returns-clause-ok c =
    let same = ap (λ m. m.entries) c.get_mut.follows.holds-at-none in
    let absent = ap (λ q. lookup (is_at (λ k. slice_cmp nat_cmp q k.items)) c.args.groups.now.entries) (sym c.as_slice.ensures.value) ∙ sym c.in_default.ensures.value in
    new-order (λ k. k.items) c.args.groups.now.entries c.insert.new.self.entries c.args.number c.args.wait c.requires.groups (λ x y. slice_cmp nat_cmp x.items y.items) c.args.key c.in_ok-group.group
    (c.in_ok-insert.ensures.entries ∙ ap (λ m. insert_entry (λ x y. slice_cmp nat_cmp x.items y.items) m.entries c.args.key c.in_ok-group.group) c.get_mut.follows.holds-at-none) absent c.in_ok-group.ensures

pub returns-clause-groups : goal.returns-clause-groups
returns-clause-groups c =
    let absent = ap (λ q. lookup (is_at (λ k. slice_cmp nat_cmp q k.items)) c.args.groups.now.entries) (sym c.as_slice.ensures.value) ∙ sym c.in_default.ensures.value in
    new-groups (λ k. k.items) c.args.groups.now.entries c.insert.new.self.entries c.args.number c.args.wait c.requires.groups (λ x y. slice_cmp nat_cmp x.items y.items) c.args.key c.in_ok-group.group
    (c.in_ok-insert.ensures.entries ∙ ap (λ m. insert_entry (λ x y. slice_cmp nat_cmp x.items y.items) m.entries c.args.key c.in_ok-group.group) c.get_mut.follows.holds-at-none) absent (sym c.requires.key) c.in_ok-group.ensures
