use Rattle.std.proofs.Common.{◌∙◌, sym}
use Rattle.mx_stab.proofs.Groups.{node-taken, nothing-taken, trie-deep, trie-empty}
use Rattle.mx_stab.proofs.writing.take_node.Goals as goal

pub returns-then-at-ge-LONGEST-clause-same : goal.returns-then-at-ge-LONGEST-clause-same
returns-then-at-ge-LONGEST-clause-same c = nothing-taken _ _ _ (trie-deep c.args.at c.args.symbols.now c.if-at-ge-LONGEST.true)

pub returns-then-is_empty-clause-same : goal.returns-then-is_empty-clause-same
returns-then-is_empty-clause-same c = nothing-taken _ _ _ (trie-empty c.args.at c.args.symbols.now (sym c.is_empty.ensures ∙ c.if-is_empty.true))

pub returns-clause-same : goal.returns-clause-same
returns-clause-same c = node-taken _ _ _ _ _ _ _ _ _ _ _ _ c.if-at-ge-LONGEST.false (sym c.is_empty.ensures ∙ c.if-is_empty.false)
    c.group_size.ensures.value c.split_at.ensures.front c.split_at.ensures.back c.has_symbols.ensures c.symbols_below.ensures
    c.in_ok-append_front.ensures c.in_ok-note.ensures.due c.in_ok-note-2.ensures.due
