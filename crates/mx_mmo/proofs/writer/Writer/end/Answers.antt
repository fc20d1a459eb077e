use Rattle.std.proofs.Common.{◌++◌, List, ℕ, ap, sym, ◌∙◌, subst}
use Rattle.mx_mmo.proofs.Words.{IsObject, ending}
use Rattle.mx_mmo.proofs.Written.{written-object}
use Rattle.mx_mmo.proofs.writer.Writer.end.Goals as goal

pub returns-clause-object : goal.returns-clause-object
returns-clause-object c = λ items v e.
    let put = c.self.view_is ∙ e in
    let all = c.from_vec.ensures ∙ c.in_ok-append_end.ensures ∙ ap (λ (b : List ℕ). b ++ ending c.args.trie.now) put in
    subst (λ (b : List ℕ). IsObject b items c.args.trie.now) (sym all) (written-object items c.args.trie.now v c.requires.whole c.requires.most)
