use Rattle.std.proofs.Common.{◌+◌, ap, sym, subst}
use Rattle.mx_names.specs.Names.{AreNames, Naming}
use Rattle.mx_names.proofs.Entries.{table-put}
use Rattle.mx_names.proofs.Known.{known-with-symbol}
use Rattle.mx_names.proofs.names.Names.put.Goals as goal

pub returns-clause-ok : goal.returns-clause-ok
returns-clause-ok c =
    table-put (λ k. k.items) c.self.inside.defined.entries c.insert.new.self.entries c.self.inside.prefix c.self.inside.backs c.self.inside.waiting c.into_vec.result c.args.full c.args.value _ c.args.self.now
    c.self.view_is c.into_vec.ensures (ap (λ n. n + 1) c.len.ensures.len) c.requires.absent c.in_ok-insert.ensures.entries

pub returns-clause-kept : goal.returns-clause-kept
returns-clause-kept c = subst (λ (t : Naming). AreNames t.names) (sym (returns-clause-ok c)) (known-with-symbol c.args.self.now.names c.args.full c.args.value (subst (λ (t : Naming). AreNames t.names) c.self.view_is c.self.invariant) c.requires.full)

pub invariant_of-self-2 : goal.invariant_of-self-2
invariant_of-self-2 c = returns-clause-kept c
