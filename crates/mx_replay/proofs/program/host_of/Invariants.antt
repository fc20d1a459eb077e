use Rattle.std.proofs.Common.{◌≡◌, drop}
use Rattle.mx_replay.specs.Programs.{with_files, host_of}
use Rattle.mx_replay.proofs.program.host_of.Given as goal

abbrev pub invariant-loop-file : goal.invariant-loop-file
invariant-loop-file l = with_files l.host (drop l.file-index l.program.files) ≡ host_of l.program
