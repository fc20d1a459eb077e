use Rattle.mx_view.proofs.OnceLaws.{shown-once, shown-all}
use Rattle.mx_view.proofs.laws.a_line_shows_each_tetra_once.Goals as goal

pub returns-clause-once : goal.returns-clause-once
returns-clause-once c = shown-once

pub returns-clause-all : goal.returns-clause-all
returns-clause-all c = shown-all
