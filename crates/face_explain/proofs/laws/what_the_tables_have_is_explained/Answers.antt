use Rattle.face_explain.proofs.Covered.{faults-explained, names-explained, kinds-explained, kind-names-explained, warnings-explained, warning-names-explained, statuses-explained, operations-explained, symbols-explained}
use Rattle.face_explain.proofs.laws.what_the_tables_have_is_explained.Goals as goal

pub returns-clause-faults : goal.returns-clause-faults
returns-clause-faults c = faults-explained

pub returns-clause-names : goal.returns-clause-names
returns-clause-names c = names-explained

pub returns-clause-kinds : goal.returns-clause-kinds
returns-clause-kinds c = kinds-explained

pub returns-clause-kind_names : goal.returns-clause-kind_names
returns-clause-kind_names c = kind-names-explained

pub returns-clause-warnings : goal.returns-clause-warnings
returns-clause-warnings c = warnings-explained

pub returns-clause-warning_names : goal.returns-clause-warning_names
returns-clause-warning_names c = warning-names-explained

pub returns-clause-statuses : goal.returns-clause-statuses
returns-clause-statuses c = statuses-explained

pub returns-clause-operations : goal.returns-clause-operations
returns-clause-operations c = operations-explained

pub returns-clause-symbols : goal.returns-clause-symbols
returns-clause-symbols c = symbols-explained
