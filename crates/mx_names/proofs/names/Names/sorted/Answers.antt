use Rattle.std.proofs.Common.{rules, ◌≡◌, sym, ◌∙◌, ap, subst}
use Rattle.mx_names.proofs.Words.{AllByRecursion, Symbol, InByteOrder, IsFullName}
use Rattle.mx_names.proofs.Entries.{in-order, all-are-named}
use Rattle.mx_names.proofs.names.Names.sorted.Goals as goal

pub returns-clause-order : goal.returns-clause-order
returns-clause-order c =
    let same : c.loop-name.symbols ≡ c.args.self.now.names.symbols = search rules in
    subst InByteOrder (ap (λ t. t.names.symbols) c.self.view_is ∙ sym same) (in-order (λ k. k.items) c.self.inside.defined.entries c.into_iter-name-iterator.ensures.into_iter_gives.5)

pub returns-clause-named : goal.returns-clause-named
returns-clause-named c =
    let same : c.loop-name.symbols ≡ c.args.self.now.names.symbols = search rules in
    all-are-named c.loop-name.symbols
    (subst (AllByRecursion (λ (s : Symbol). IsFullName s.name)) (ap (λ t. t.names.symbols) c.self.view_is ∙ sym same) c.self.invariant.symbols)
    c.loop-name.invariant.1
