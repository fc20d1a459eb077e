use Rattle.std.proofs.Common.{◌≡◌, []}
use Rattle.mx_stab.proofs.Words.{next_subtrie, start, reading_of, after_all, weight}
use Rattle.mx_stab.proofs.reading.read_all.Given as goal

-- what is due leads from here to what the whole trie leads to
abbrev pub invariant-loop-next : goal.invariant-loop-next
invariant-loop-next l = reading_of (after_all l.due.items l.reader) ≡ next_subtrie [] (start l.bytes)

abbrev pub decreases-loop-next : goal.decreases-loop-next
decreases-loop-next l = weight l.reader l.due.items
