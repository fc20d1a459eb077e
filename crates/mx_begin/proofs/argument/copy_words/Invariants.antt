use Rattle.std.proofs.Common.{◌≡◌, ◌∷◌, map, take, string_bytes}
use Rattle.mx_begin.proofs.argument.copy_words.Given as goal

-- the first argument, and the words so far
abbrev pub invariant-loop-word : goal.invariant-loop-word
invariant-loop-word l = l.arguments.items ≡ l.fn.first ∷ map string_bytes (take l.word-index l.words)
