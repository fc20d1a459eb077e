use Rattle.mx_count.proofs.CountedRuns.{counted-beside, counted-whole}
use Rattle.mx_count.proofs.LeftHosts.{run-left}
use Rattle.mx_count.proofs.walk.count_steps.Goals as goal

pub returns-clause-told : goal.returns-clause-told
returns-clause-told g c = λ tells.
    let enough = c.is_lacking.ensures c.if-is_lacking.false in
    let ended = c.count_traces-end.ensures.run.told tells enough in (
      ended,
      counted-whole _ _ _ _ _ _ _ _ _ _ c.new-counts.ensures (c.count_traces-end.ensures.counted tells enough) (λ test. c.in_ok-add_end.ensures test) c.pc-at.ensures.value ended,
      λ untouched. counted-beside _ _ _ _ _ _ _ _ _ c.new-counts.ensures (c.count_traces-end.ensures.list_counted tells enough untouched) (λ test. c.in_ok-add_end.ensures test)
          (c.count_traces-end.ensures.run.listed tells enough untouched) c.pc-at.ensures.value,
    )

pub returns-clause-left : goal.returns-clause-left
returns-clause-left g c = λ t. run-left _ _ _ _ _ _ (c.count_traces-end.ensures.plan t)

pub returns-in_err-add_end-clause-left : goal.returns-in_err-add_end-clause-left
returns-in_err-add_end-clause-left g c = λ t. run-left _ _ _ _ _ _ (c.count_traces-end.ensures.plan t)

pub returns-then-is_lacking-clause-left : goal.returns-then-is_lacking-clause-left
returns-then-is_lacking-clause-left g c = λ t. run-left _ _ _ _ _ _ (c.count_traces-end.ensures.plan t)
