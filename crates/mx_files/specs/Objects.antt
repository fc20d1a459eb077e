-- The object of a source, as it is written.
use Rattle.std.specs.Prelude.{ℕ, List, ◌++◌, Result, Ok, Err}
use Rattle.mx_line.specs.Lines.{lines_of}
use Rattle.mx_mmo.specs.Spelling.{written, ending}
use Rattle.mx_asm.specs.OnePass.{Ended}
use Rattle.mx_asm.specs.Whole.{assembled_lines}
use Rattle.mx_asm.specs.declared.refused.Refused.{Refused}
use Rattle.mx_files.specs.Loading.{refusal_of}
use Rattle.mx_files.specs.declared.refusal.Refusal.{Refusal}

-- The bytes of the object with the refusal, if there is one: then the object has the items of the statements before the
-- faulty one, or of all statements where none is faulty, and no end.
abbrev pub Assembled : Type 0
Assembled = List ℕ × Result (Unit {0}) Refusal

-- what was written of the items, with the end of an object after it, or with the refusal
abbrev pub object_with : List ℕ → Result (List ℕ) Refused → Assembled
object_with bytes (Ok trie) = (bytes ++ ending trie, Ok tt)
object_with bytes (Err refused) = (bytes, Err (refusal_of refused))

abbrev pub object_of : Ended → Assembled
object_of (items, answer) = object_with (written items) answer

unfoldable pub source_object : List ℕ → Assembled
source_object source = object_of (assembled_lines (lines_of source))
