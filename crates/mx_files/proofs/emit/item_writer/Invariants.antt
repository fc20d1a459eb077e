use Rattle.std.proofs.Common.{◌≡◌, take}
use Rattle.mx_mmo.specs.Spelling.{written}
use Rattle.mx_files.proofs.emit.item_writer.Given as goal

abbrev pub invariant-loop-item : goal.invariant-loop-item
invariant-loop-item l = l.writer ≡ written (take l.item-index l.items)
