use Rattle.std.proofs.Common.{◌≡◌, ◌+◌, ◌++◌, length}
use Rattle.mx_stab.proofs.Words.{trie_of, bytes_due}
use Rattle.mx_stab.proofs.writing.write_all.Given as goal

-- what is written, and what is still to be written after it, are the trie
abbrev pub invariant-loop-next : goal.invariant-loop-next
invariant-loop-next l = l.bytes.items ++ bytes_due l.pending.items ≡ trie_of l.symbols

abbrev pub decreases-loop-next : goal.decreases-loop-next
decreases-loop-next l = length (bytes_due l.pending.items) + length l.pending.items
