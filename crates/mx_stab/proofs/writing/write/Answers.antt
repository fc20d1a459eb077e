use Rattle.std.proofs.Common.{ap, sym, ◌∙◌, subst, append-nil, arith}
use Rattle.mx_stab.proofs.Words.{IsTrie, trie_of}
use Rattle.mx_stab.proofs.Law.{written-is-trie}
use Rattle.mx_stab.proofs.writing.write.Goals as goal

pub returns-clause-grammar : goal.returns-clause-grammar
returns-clause-grammar c = λ o h.
    subst (λ b. IsTrie b c.args.symbols.now) (append-nil _ ∙ sym (c.from_vec.ensures ∙ c.in_ok-write_all.ensures ∙ ap trie_of c.as_slice.ensures)) (written-is-trie c.args.symbols.now 0 o h (omega arith))
