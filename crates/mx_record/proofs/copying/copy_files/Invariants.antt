use Rattle.std.proofs.Common.{◌≡◌, take}
use Rattle.mx_record.proofs.copying.copy_files.Given as goal

abbrev pub invariant-loop-file : goal.invariant-loop-file
invariant-loop-file l = l.copy ≡ take l.file-index l.files
