use Rattle.std.proofs.lemmas.Result.{err_from_is_err_and}
use Rattle.mx_files.proofs.FileParts.{lines-next, lines-end}
use Rattle.mx_files.proofs.typing.put_tail.Goals as goal

pub returns : goal.returns
returns g c = lines-next _ _ _ _ _ _ _ _ _ c.in_ok-put_trie.ensures c.put_symbols.ensures

pub returns-in_err-put_trie : goal.returns-in_err-put_trie
returns-in_err-put_trie g c =
    let p = err_from_is_err_and c.from_residual.result c.from_residual.ensures.1 in
    rw (p.1, p.2) (lines-end _ _ _ _ _ _ _ c.in_err-put_trie.ensures)
