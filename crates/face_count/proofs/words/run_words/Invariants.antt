use Rattle.std.proofs.Common.{◌≡◌, map, take, string_bytes}
use Rattle.face_count.specs.CountPages.{run_words}
use Rattle.face_count.proofs.words.run_words.Given as goal

abbrev pub invariant-loop-word : goal.invariant-loop-word
invariant-loop-word l = map string_bytes l.all.items ≡ run_words (map string_bytes (take l.word-index l.words))
