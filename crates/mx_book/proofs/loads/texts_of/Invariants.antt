use Rattle.std.proofs.Common.{◌≡◌, map, take}
use Rattle.mx_book.specs.Loads.{text_of}
use Rattle.mx_book.proofs.loads.texts_of.Given as goal

abbrev pub invariant-loop-line : goal.invariant-loop-line
invariant-loop-line l = l.texts ≡ map text_of (take l.line-index l.lines)
