use Rattle.std.proofs.Common.{rules, map, Ok, Err, sym, ap, nat_cmp}
use Rattle.mx_ops.proofs.Words.{slice_cmp, always_returns_same, predefined_names}
use Rattle.mx_ops.proofs.Search.{plain, lists-plain, found}
use Rattle.mx_ops.proofs.Computed.{symbols-listed}
use Rattle.mx_ops.proofs.lookup.value_of.Goals as goal

pub returns-in-Ok : goal.returns-in-Ok
returns-in-Ok c =
    let same = ap (map (plain (λ e. e.0.now) (λ e. e.1))) c.as_slice-entries.ensures in
    let listed = lists-plain (λ e. e.0.now) (λ e. e.1) predefined_names c.as_slice-entries.result.now _ same symbols-listed in
    let by = c.in-Ok.ensures.position (λ e. slice_cmp nat_cmp e.0.now c.args.bare.now) (always_returns_same _ _ _ (λ a r f called. search rules)) in
    sym (found _ _ _ _ c.args.bare.now (Ok c.in-Ok.place) listed c.in-Ok.ensures.bound by _)

pub returns-in-Err : goal.returns-in-Err
returns-in-Err c =
    let same = ap (map (plain (λ e. e.0.now) (λ e. e.1))) c.as_slice-entries.ensures in
    let listed = lists-plain (λ e. e.0.now) (λ e. e.1) predefined_names c.as_slice-entries.result.now _ same symbols-listed in
    let by = c.in-Err.ensures.position (λ e. slice_cmp nat_cmp e.0.now c.args.bare.now) (always_returns_same _ _ _ (λ a r f called. search rules)) in
    sym (found _ _ _ _ c.args.bare.now (Err c.in-Err.field-0) listed c.in-Err.ensures.bound by)
