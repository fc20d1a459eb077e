use Rattle.std.proofs.Common.{◌≡◌, length, None, sym, ◌∙◌, ap}
use Rattle.mx_names.proofs.Words.{value_in, value_of_name}
use Rattle.mx_names.proofs.Entries.{value-defined, not-some, length-inserted}
use Rattle.mx_names.proofs.names.Names.define.Goals as goal

pub returns-clause-looked_up : goal.returns-clause-looked_up
returns-clause-looked_up c =
    let absent : value_in c.args.full c.args.self.now.names.symbols ≡ None = ap (λ n. value_in n c.args.self.now.names.symbols) (sym c.as_slice.ensures) ∙ not-some _ (sym c.if-is_defined.ensures.found) in
    λ name. ap (λ t. value_of_name t.names name) c.in_ok-put.ensures.ok ∙ value-defined c.args.self.now.names c.args.full c.args.v name absent

pub returns-clause-count : goal.returns-clause-count
returns-clause-count c = ap (λ t. length t.names.symbols) c.in_ok-put.ensures.ok ∙ length-inserted _ _
