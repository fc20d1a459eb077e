-- The word at the front of a text, and the first of operands.
use Rattle.std.proofs.Common.{◌≡◌, ◌≤◌, ℕ, List, length, take}
use Rattle.mx_line.specs.Bytes.{is_name_byte, run}
use Rattle.mx_line.proofs.KindLemmas.{run-few, run-take}
use Rattle.mx_marks.specs.Fields.{is_no_comma}

pub word-few : (text : List ℕ) → length (run is_name_byte text) ≤ length text
word-few text = run-few is_name_byte text

pub word-is : (text : List ℕ) → take (length (run is_name_byte text)) text ≡ run is_name_byte text
word-is text = run-take is_name_byte text

pub ruleset words = (word-few, word-is)

pub front-few : (operands : List ℕ) → length (run is_no_comma operands) ≤ length operands
front-few operands = run-few is_no_comma operands

pub front-is : (operands : List ℕ) → take (length (run is_no_comma operands)) operands ≡ run is_no_comma operands
front-is operands = run-take is_no_comma operands

pub ruleset fronts = (front-few, front-is)
