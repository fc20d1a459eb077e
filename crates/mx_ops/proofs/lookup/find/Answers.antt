use Rattle.std.proofs.Common.{rules, map, Ok, Err, sym, ap, ◌∙◌, nat_cmp}
use Rattle.mx_ops.proofs.Words.{slice_cmp, always_returns_same, operations, operation_of, is_instruction}
use Rattle.mx_ops.proofs.Search.{plain, lists-plain, found}
use Rattle.mx_ops.proofs.Operations.{lowest-found, instruction-found, other-found}
use Rattle.mx_ops.proofs.Computed.{operations-listed}
use Rattle.mx_ops.proofs.lookup.find.Goals as goal

pub returns-in-Ok-clause-value : goal.returns-in-Ok-clause-value
unfolding operation_of
returns-in-Ok-clause-value c =
    let same = ap (map (plain (λ e. e.0.now) (λ e. e.1))) c.as_slice-entries.ensures in
    let listed = lists-plain (λ e. e.0.now) (λ e. e.1) operations c.as_slice-entries.result.now _ same operations-listed in
    let by = c.in-Ok.ensures.position (λ e. slice_cmp nat_cmp e.0.now c.args.name.now) (always_returns_same _ _ _ (λ a r f called. search rules)) in
    sym (found _ _ _ _ c.args.name.now (Ok c.in-Ok.place) listed c.in-Ok.ensures.bound by _)

pub returns-in-Err-clause-value : goal.returns-in-Err-clause-value
unfolding operation_of
returns-in-Err-clause-value c =
    let same = ap (map (plain (λ e. e.0.now) (λ e. e.1))) c.as_slice-entries.ensures in
    let listed = lists-plain (λ e. e.0.now) (λ e. e.1) operations c.as_slice-entries.result.now _ same operations-listed in
    let by = c.in-Err.ensures.position (λ e. slice_cmp nat_cmp e.0.now c.args.name.now) (always_returns_same _ _ _ (λ a r f called. search rules)) in
    sym (found _ _ _ _ c.args.name.now (Err c.in-Err.field-0) listed c.in-Err.ensures.bound by)

pub returns-in-Ok-clause-lowest : goal.returns-in-Ok-clause-lowest
returns-in-Ok-clause-lowest c = λ code is. lowest-found _ code (sym (returns-in-Ok-clause-value c) ∙ is)

pub returns-in-Ok-clause-instruction : goal.returns-in-Ok-clause-instruction
returns-in-Ok-clause-instruction c = λ code below is. ap is_instruction (returns-in-Ok-clause-value c) ∙ instruction-found _ code below is

pub returns-in-Ok-clause-pseudo : goal.returns-in-Ok-clause-pseudo
returns-in-Ok-clause-pseudo c = λ op has. returns-in-Ok-clause-value c ∙ other-found _ op has

pub returns-in-Err-clause-instruction : goal.returns-in-Err-clause-instruction
returns-in-Err-clause-instruction c = λ code below is. ap is_instruction (returns-in-Err-clause-value c) ∙ instruction-found _ code below is

pub returns-in-Err-clause-pseudo : goal.returns-in-Err-clause-pseudo
returns-in-Err-clause-pseudo c = λ op has. returns-in-Err-clause-value c ∙ other-found _ op has
