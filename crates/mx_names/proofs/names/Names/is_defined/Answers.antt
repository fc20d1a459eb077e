use Rattle.std.proofs.Common.{is_some, sym, ◌∙◌, ap}
use Rattle.mx_names.specs.Names.{value_in}
use Rattle.mx_names.proofs.Entries.{found, some-mapped}
use Rattle.mx_names.proofs.names.Names.is_defined.Goals as goal

pub returns-clause-found : goal.returns-clause-found
returns-clause-found c =
    c.contains_key.ensures
    ∙ some-mapped (λ d. d.value) _
    ∙ ap is_some (sym (found (λ k. k.items) c.args.full.now c.self.inside.defined.entries) ∙ ap (λ t. value_in c.args.full.now t.names.symbols) c.self.view_is)
